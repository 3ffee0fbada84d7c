-- What the text lists and names is what the items so far do, and what the rest does.
use Rattle.std.proofs.Common.{◌≡◌, ℕ, length}
use Rattle.chrono_sets.specs.FiniteSets.{has}
use Rattle.chrono_cron.specs.FieldTexts.{items_list, onto}
use Rattle.chrono_cron.specs.ScheduleErrors.{greatest_of_field, least_of_field, names_days, names_of_field}
use Rattle.chrono_cron.specs.ScheduleTexts.{other_items}
use Rattle.chrono_cron.proofs.DayItems.{AreNamedSoFar}
use Rattle.chrono_cron.proofs.text.day_fields.read_items.Given as goal

abbrev pub invariant-loop-item : goal.invariant-loop-item
invariant-loop-item l = record {
  numbers : (k : ℕ) → items_list (names_of_field l.fn.field) (least_of_field l.fn.field) (greatest_of_field l.fn.field) (other_items (names_days l.fn.field) l.fn.text) k
      ≡ onto (has l.items.numbers k) (items_list (names_of_field l.fn.field) (least_of_field l.fn.field) (greatest_of_field l.fn.field) (other_items (names_days l.fn.field) l.rest) k);
  named : AreNamedSoFar l.fn.text l.rest l.items.named;
}

abbrev pub decreases-loop-item : goal.decreases-loop-item
decreases-loop-item l = length l.rest
