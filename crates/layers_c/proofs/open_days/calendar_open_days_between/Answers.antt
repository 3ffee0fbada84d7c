use Rattle.std.proofs.Common.{◌∙◌, refl, sym, FitsSigned, rules, w32, w64}
use Rattle.std.proofs.lemmas.Int.{to_z-of_z}
use Rattle.chrono_calendar.proofs.NamedDates.{date_of_day-number, none-date_of_day}
use Rattle.layers_c.proofs.FoundNumbers.{named-is-date}
use Rattle.layers_c.proofs.open_days.calendar_open_days_between.Goals as goal

pub returns-in_default-date_of-clause-count : goal.returns-in_default-date_of-clause-count
returns-in_default-date_of-clause-count c =
    λ _ from _. absurd (none-date_of_day c.args.from (rw (to_z-of_z w32 c.args.from c.ranges.from) at c.in_default-date_of.ensures.date) from)

pub returns-in-Some-date_of-2-clause-count : goal.returns-in-Some-date_of-2-clause-count
returns-in-Some-date_of-2-clause-count c =
    let fits : FitsSigned w64 c.open_days.result = search rules in
    let from = (date_of_day-number c.in-Some-date_of.from c.args.from (sym (rw (to_z-of_z w32 c.args.from c.ranges.from) at c.in-Some-date_of.ensures.date))).1 in
    let to = (date_of_day-number c.in-Some-date_of-2.to c.args.to (sym (rw (to_z-of_z w32 c.args.to c.ranges.to) at c.in-Some-date_of-2.ensures.date))).1 in
    let counted = rw (c.in-Some.ensures.calendar, ← from, ← to) at c.open_days.ensures.value in
    λ _ _ _. to_z-of_z w64 c.open_days.result fits ∙ counted

pub returns-in-None-clause-count : goal.returns-in-None-clause-count
returns-in-None-clause-count c =
    λ _ _ to. absurd (none-date_of_day c.args.to (rw (to_z-of_z w32 c.args.to c.ranges.to) at c.in-None.ensures.date) to)

pub returns-in_default-clause-no_calendar : goal.returns-in_default-clause-no_calendar
returns-in_default-clause-no_calendar c = λ _. refl

pub returns-in_default-clause-no_from : goal.returns-in_default-clause-no_from
returns-in_default-clause-no_from c = λ _. refl

pub returns-in_default-clause-no_to : goal.returns-in_default-clause-no_to
returns-in_default-clause-no_to c = λ _. refl

pub returns-in-Some-date_of-2-clause-no_from : goal.returns-in-Some-date_of-2-clause-no_from
returns-in-Some-date_of-2-clause-no_from c =
    let date = named-is-date c.in-Some-date_of.from c.args.from (sym (rw (to_z-of_z w32 c.args.from c.ranges.from) at c.in-Some-date_of.ensures.date)) in
    λ none. absurd (none date)

pub returns-in-Some-date_of-2-clause-no_to : goal.returns-in-Some-date_of-2-clause-no_to
returns-in-Some-date_of-2-clause-no_to c =
    let date = named-is-date c.in-Some-date_of-2.to c.args.to (sym (rw (to_z-of_z w32 c.args.to c.ranges.to) at c.in-Some-date_of-2.ensures.date)) in
    λ none. absurd (none date)
