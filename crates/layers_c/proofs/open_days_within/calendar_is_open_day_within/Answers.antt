use Rattle.std.proofs.Common.{◌∙◌, sym, FitsSigned, rules, w32}
use Rattle.std.proofs.lemmas.Int.{to_z-of_z}
use Rattle.chrono_calendar.proofs.NamedDates.{date_of_day-number, none-date_of_day}
use Rattle.chrono_business.specs.KnownYears.{is_known}
use Rattle.chrono_business.specs.OpenDays.{is_open}
use Rattle.layers_c.specs.OpenDays.{closed_from_c}
use Rattle.layers_c.specs.OpenDaysWithin.{years_from_c}
use Rattle.layers_c.proofs.FoundNumbers.{named-is-date}
use Rattle.layers_c.proofs.KnownAnswers.{open-answer}
use Rattle.layers_c.proofs.open_days_within.calendar_is_open_day_within.Goals as goal

pub returns-in-Some-date_of-clause-open : goal.returns-in-Some-date_of-clause-open
returns-in-Some-date_of-clause-open c =
    let fits : FitsSigned w32 c.one_or_none.result = search rules in
    let number = to_z-of_z w32 c.one_or_none.result fits in
    let day = (date_of_day-number c.in-Some-date_of.date c.args.date (sym (rw (to_z-of_z w32 c.args.date c.ranges.date) at c.in-Some-date_of.ensures.date))).1 in
    let open_is = rw (c.in-Some.ensures.calendar, ← day, c.years.ensures, to_z-of_z w32 c.args.first_year c.ranges.first_year, to_z-of_z w32 c.args.last_year c.ranges.last_year) at c.is_open_within.ensures in
    λ _ _. number ∙ open-answer (is_known (years_from_c c.args.first_year c.args.last_year) c.args.date) (is_open (closed_from_c c.args.weekend c.args.holidays.now) c.args.date) c.is_open_within.result c.one_or_none.result
    open_is c.one_or_none.ensures.some c.one_or_none.ensures.none

pub returns-in-None-clause-open : goal.returns-in-None-clause-open
returns-in-None-clause-open c =
    λ _ date. absurd (none-date_of_day c.args.date (rw (to_z-of_z w32 c.args.date c.ranges.date) at c.in-None.ensures.date) date)

pub returns-in-Some-date_of-clause-no_date : goal.returns-in-Some-date_of-clause-no_date
returns-in-Some-date_of-clause-no_date c =
    let date = named-is-date c.in-Some-date_of.date c.args.date (sym (rw (to_z-of_z w32 c.args.date c.ranges.date) at c.in-Some-date_of.ensures.date)) in
    λ none. absurd (none date)
