use Rattle.std.proofs.Common.{◌∙◌, Some, false, ap, sym}
use Rattle.std.specs.Prelude.{if◌then◌else◌}
use Rattle.chrono_sets.specs.FiniteSets.{has}
use Rattle.chrono_sets.proofs.Members.{has-no_numbers}
use Rattle.chrono_cron.specs.FieldTexts.{item_lists}
use Rattle.chrono_cron.specs.ScheduleErrors.{greatest_of_field, least_of_field, names_of_field}
use Rattle.chrono_cron.proofs.text.day_fields.read_other_item.Goals as goal

pub returns-then-names_days : goal.returns-then-names_days
returns-then-names_days c = λ k.
    ap Some (ap (λ s. has s k) c.none.ensures ∙ has-no_numbers k)
    ∙ sym (ap (λ t. if t then Some false else item_lists (names_of_field c.args.field) (least_of_field c.args.field) (greatest_of_field c.args.field) c.args.item.now k) (sym c.names_days.ensures ∙ c.if-names_days.true))
