use Rattle.std.proofs.Common.{◌≡◌, true, ◌∙◌, sym, ℤ, FitsSigned, rules, w32, w64}
use Rattle.std.proofs.lemmas.Int.{to_z-of_z}
use Rattle.chrono_calendar.proofs.NamedDates.{date_of_day-number, none-date_of_day}
use Rattle.chrono_calendar.specs.Days.{IsDate}
use Rattle.chrono_business.specs.KnownYears.{is_known}
use Rattle.chrono_business.specs.OpenDays.{IsMovedByOpenDays}
use Rattle.layers_c.specs.OpenDays.{closed_from_c}
use Rattle.layers_c.specs.OpenDaysWithin.{years_from_c}
use Rattle.layers_c.proofs.FoundNumbers.{found-holds, named-is-date, none-again, none-holds, number-again}
use Rattle.layers_c.proofs.open_days_within.calendar_add_open_days_within.Goals as goal

pub returns-in-Some-date_of-clause-moved : goal.returns-in-Some-date_of-clause-moved
returns-in-Some-date_of-clause-moved c =
    let fits : FitsSigned w32 c.number_or_none.result = search rules in
    let number = to_z-of_z w32 c.number_or_none.result fits in
    let day = (date_of_day-number c.in-Some-date_of.date c.args.date (sym (rw (to_z-of_z w32 c.args.date c.ranges.date) at c.in-Some-date_of.ensures.date))).1 in
    let moved = rw (c.in-Some.ensures.calendar, ← day, to_z-of_z w64 c.args.n c.ranges.n) at c.add_open_days_within.ensures.moved in
    found-holds c.add_open_days_within.result (IsMovedByOpenDays (closed_from_c c.args.weekend c.args.holidays.now) c.args.date c.args.n) _ (number ∙ c.number_or_none.ensures.number) moved

pub returns-in-Some-date_of-clause-known : goal.returns-in-Some-date_of-clause-known
returns-in-Some-date_of-clause-known c =
    let fits : FitsSigned w32 c.number_or_none.result = search rules in
    let number = to_z-of_z w32 c.number_or_none.result fits in
    let day = (date_of_day-number c.in-Some-date_of.date c.args.date (sym (rw (to_z-of_z w32 c.args.date c.ranges.date) at c.in-Some-date_of.ensures.date))).1 in
    let known = rw (← day, c.years.ensures, to_z-of_z w32 c.args.first_year c.ranges.first_year, to_z-of_z w32 c.args.last_year c.ranges.last_year) at c.add_open_days_within.ensures.known in
    found-holds c.add_open_days_within.result (λ e. (is_known (years_from_c c.args.first_year c.args.last_year) c.args.date ≡ true) × (is_known (years_from_c c.args.first_year c.args.last_year) e ≡ true)) _ (number ∙ c.number_or_none.ensures.number) known

pub returns-in-Some-date_of-clause-none : goal.returns-in-Some-date_of-clause-none
returns-in-Some-date_of-clause-none c =
    let fits : FitsSigned w32 c.number_or_none.result = search rules in
    let number = to_z-of_z w32 c.number_or_none.result fits in
    let day = (date_of_day-number c.in-Some-date_of.date c.args.date (sym (rw (to_z-of_z w32 c.args.date c.ranges.date) at c.in-Some-date_of.ensures.date))).1 in
    let unmoved = rw (c.in-Some.ensures.calendar, ← day, c.years.ensures, to_z-of_z w32 c.args.first_year c.ranges.first_year, to_z-of_z w32 c.args.last_year c.ranges.last_year, to_z-of_z w64 c.args.n c.ranges.n) at c.add_open_days_within.ensures.none in
    λ none _ _. none-holds c.add_open_days_within.result ((e : ℤ) → is_known (years_from_c c.args.first_year c.args.last_year) c.args.date ≡ true → is_known (years_from_c c.args.first_year c.args.last_year) e ≡ true → IsMovedByOpenDays (closed_from_c c.args.weekend c.args.holidays.now) c.args.date c.args.n e → ⊥) _
    (number ∙ c.number_or_none.ensures.number) c.add_open_days_within.ensures.exists unmoved none

pub returns-in-None-clause-none : goal.returns-in-None-clause-none
returns-in-None-clause-none c =
    λ _ _ date. absurd (none-date_of_day c.args.date (rw (to_z-of_z w32 c.args.date c.ranges.date) at c.in-None.ensures.date) date)

pub returns-in-Some-date_of-clause-no_date : goal.returns-in-Some-date_of-clause-no_date
returns-in-Some-date_of-clause-no_date c =
    let date = named-is-date c.in-Some-date_of.date c.args.date (sym (rw (to_z-of_z w32 c.args.date c.ranges.date) at c.in-Some-date_of.ensures.date)) in
    λ none. absurd (none date)

pub returns-in-Some-date_of-clause-number : goal.returns-in-Some-date_of-clause-number
returns-in-Some-date_of-clause-number c =
    let fits : FitsSigned w32 c.number_or_none.result = search rules in
    number-again c.add_open_days_within.result c.number_or_none.result _ (to_z-of_z w32 c.number_or_none.result fits) c.number_or_none.ensures.number c.number_or_none.ensures.exists

pub returns-in-None-clause-number : goal.returns-in-None-clause-number
returns-in-None-clause-number c = none-again

pub returns-in_default-clause-number : goal.returns-in_default-clause-number
returns-in_default-clause-number c = none-again
