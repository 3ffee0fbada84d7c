-- What the text lists is what the items so far list, and what the rest lists.
use Rattle.std.proofs.Common.{◌≡◌, ℕ, length}
use Rattle.chrono_sets.specs.FiniteSets.{has}
use Rattle.chrono_cron.specs.FieldTexts.{field_lists, onto}
use Rattle.chrono_cron.proofs.text.field.read_field.Given as goal

abbrev pub invariant-loop-item : goal.invariant-loop-item
invariant-loop-item l =
    (k : ℕ) → field_lists l.fn.names l.fn.low l.fn.high l.fn.text k ≡ onto (has l.set k) (field_lists l.fn.names l.fn.low l.fn.high l.rest k)

abbrev pub decreases-loop-item : goal.decreases-loop-item
decreases-loop-item l = length l.rest
