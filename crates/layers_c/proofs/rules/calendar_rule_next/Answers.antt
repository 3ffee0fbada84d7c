use Rattle.std.proofs.Common.{◌∙◌, FitsSigned, ap, rules, w32}
use Rattle.std.proofs.lemmas.Int.{to_z-of_z}
use Rattle.chrono_calendar.specs.Days.{date_of_day}
use Rattle.layers_c.proofs.FoundNumbers.{named-again, none-again, number-again}
use Rattle.layers_c.proofs.RuleLemmas.{next-is}
use Rattle.layers_c.proofs.rules.calendar_rule_next.Goals as goal

pub returns-in-Some-clause-next : goal.returns-in-Some-clause-next
returns-in-Some-clause-next c = λ r written _ _.
    let fits : FitsSigned w32 c.number_or_none.result = search rules in
    let number = to_z-of_z w32 c.number_or_none.result fits in
    let found = ap date_of_day number ∙ named-again c.next_after.result c.number_or_none.result c.number_or_none.ensures.number c.number_or_none.ensures.exists in
    next-is r c.in-Some.rule c.args.start c.in-Some.start c.args.day c.in-Some.day _ c.next_after.result (c.in-Some.ensures.only r written) (c.in-Some.ensures.start.0 ∙ to_z-of_z w32 c.args.start c.ranges.start) (c.in-Some.ensures.day.0 ∙ to_z-of_z w32 c.args.day c.ranges.day)
    found (record { member = c.next_after.ensures.member; later = c.next_after.ensures.later; least = c.next_after.ensures.least; none = c.next_after.ensures.none })

pub returns-in-Some-clause-number : goal.returns-in-Some-clause-number
returns-in-Some-clause-number c =
    let fits : FitsSigned w32 c.number_or_none.result = search rules in
    number-again c.next_after.result c.number_or_none.result _ (to_z-of_z w32 c.number_or_none.result fits) c.number_or_none.ensures.number c.number_or_none.ensures.exists

pub returns-in-None-clause-number : goal.returns-in-None-clause-number
returns-in-None-clause-number c = none-again
