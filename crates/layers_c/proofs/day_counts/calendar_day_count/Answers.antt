use Rattle.std.proofs.Common.{sym, w32}
use Rattle.std.proofs.lemmas.Int.{to_z-of_z}
use Rattle.chrono_calendar.proofs.NamedDates.{date_of_day-number, none-date_of_day}
use Rattle.layers_c.proofs.day_counts.calendar_day_count.Goals as goal

pub returns-in_default-clause-fraction : goal.returns-in_default-clause-fraction
returns-in_default-clause-fraction c =
    λ from _. absurd (none-date_of_day c.args.from (rw (to_z-of_z w32 c.args.from c.ranges.from) at c.in_default.ensures.date) from)

pub returns-in-Some-date_of-clause-fraction : goal.returns-in-Some-date_of-clause-fraction
returns-in-Some-date_of-clause-fraction c =
    let from = date_of_day-number c.in-Some.from c.args.from (sym (rw (to_z-of_z w32 c.args.from c.ranges.from) at c.in-Some.ensures.date)) in
    let to = date_of_day-number c.in-Some-date_of.to c.args.to (sym (rw (to_z-of_z w32 c.args.to c.ranges.to) at c.in-Some-date_of.ensures.date)) in
    let counted = rw (← from.1, ← to.1) at c.day_count.ensures in
    λ _ _. counted

pub returns-in-Some-date_of-clause-no_from : goal.returns-in-Some-date_of-clause-no_from
returns-in-Some-date_of-clause-no_from c =
    let from = date_of_day-number c.in-Some.from c.args.from (sym (rw (to_z-of_z w32 c.args.from c.ranges.from) at c.in-Some.ensures.date)) in
    let date = rw (← from.1) at from.0 in
    λ none. absurd (none date)

pub returns-in-Some-date_of-clause-no_to : goal.returns-in-Some-date_of-clause-no_to
returns-in-Some-date_of-clause-no_to c =
    let to = date_of_day-number c.in-Some-date_of.to c.args.to (sym (rw (to_z-of_z w32 c.args.to c.ranges.to) at c.in-Some-date_of.ensures.date)) in
    let date = rw (← to.1) at to.0 in
    λ none. absurd (none date)

pub returns-in-None-clause-fraction : goal.returns-in-None-clause-fraction
returns-in-None-clause-fraction c =
    λ _ to. absurd (none-date_of_day c.args.to (rw (to_z-of_z w32 c.args.to c.ranges.to) at c.in-None.ensures.date) to)
