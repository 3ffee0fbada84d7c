use Rattle.std.proofs.Common.{◌∙◌, sym, w32}
use Rattle.std.proofs.lemmas.Int.{to_z-of_z}
use Rattle.chrono_calendar.proofs.NamedDates.{date_of_day-number, none-date_of_day}
use Rattle.layers_c.proofs.FoundNumbers.{named-is-date}
use Rattle.layers_c.proofs.open_days.calendar_is_open_day.Goals as goal

pub returns-in-Some-date_of-clause-open : goal.returns-in-Some-date_of-clause-open
returns-in-Some-date_of-clause-open c =
    let day = (date_of_day-number c.in-Some-date_of.date c.args.date (sym (rw (to_z-of_z w32 c.args.date c.ranges.date) at c.in-Some-date_of.ensures.date))).1 in
    let open_is = rw (c.in-Some.ensures.calendar, ← day) at c.is_open.ensures in
    λ is. sym open_is ∙ is

pub returns-in-Some-date_of-clause-every : goal.returns-in-Some-date_of-clause-every
returns-in-Some-date_of-clause-every c =
    let day = (date_of_day-number c.in-Some-date_of.date c.args.date (sym (rw (to_z-of_z w32 c.args.date c.ranges.date) at c.in-Some-date_of.ensures.date))).1 in
    let open_is = rw (c.in-Some.ensures.calendar, ← day) at c.is_open.ensures in
    λ _ _. open_is

pub returns-in-None-clause-every : goal.returns-in-None-clause-every
returns-in-None-clause-every c =
    λ _ date. absurd (none-date_of_day c.args.date (rw (to_z-of_z w32 c.args.date c.ranges.date) at c.in-None.ensures.date) date)

pub returns-in-Some-date_of-clause-no_date : goal.returns-in-Some-date_of-clause-no_date
returns-in-Some-date_of-clause-no_date c =
    let date = named-is-date c.in-Some-date_of.date c.args.date (sym (rw (to_z-of_z w32 c.args.date c.ranges.date) at c.in-Some-date_of.ensures.date)) in
    λ none. absurd (none date)
