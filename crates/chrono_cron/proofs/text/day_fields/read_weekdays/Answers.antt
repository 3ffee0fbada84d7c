use Rattle.std.proofs.Common.{◌∙◌, Some, ap, sym}
use Rattle.std.specs.Option.{option_map}
use Rattle.chrono_sets.specs.FiniteSets.{has}
use Rattle.chrono_cron.specs.declared.text.day_fields.DayItems.{DayItems}
use Rattle.chrono_cron.proofs.DayItems.{weekdays_none, weekdays_some}
use Rattle.chrono_cron.proofs.text.day_fields.read_weekdays.Goals as goal

pub returns-in_default-clause-numbers : goal.returns-in_default-clause-numbers
returns-in_default-clause-numbers c = λ k.
    (sym (weekdays_none c.args.text.now k (sym (c.read_items.ensures.numbers k) ∙ ap (option_map (λ (s : DayItems). has s.numbers k)) c.in_default.is)))

pub returns-clause-numbers : goal.returns-clause-numbers
returns-clause-numbers c = λ k.
    let set = c.in-Some.items.numbers in
    ap Some (c.one_week.ensures k)
    ∙ sym (weekdays_some c.args.text.now k (has set k) (has set 7) (sym (c.read_items.ensures.numbers k) ∙ ap (option_map (λ (s : DayItems). has s.numbers k)) c.in-Some.is)
    (sym (c.read_items.ensures.numbers 7) ∙ ap (option_map (λ (s : DayItems). has s.numbers 7)) c.in-Some.is))
