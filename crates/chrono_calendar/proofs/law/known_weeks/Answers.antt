use Rattle.std.proofs.Common.{◌≡◌, refl, sym, ap, ◌∙◌, arith, pos}
use Rattle.chrono_units.specs.declared.weekday.Weekday.TheVariants.{Mon, Sun}
use Rattle.chrono_calendar.specs.Days.{days_of_years, days_before_year, date_of_day}
use Rattle.chrono_calendar.specs.Weeks.{iso_year_of, iso_week_of, day_number_of_iso}
use Rattle.chrono_text.proofs.Signed.{signed}
use Rattle.chrono_calendar.proofs.NamedDates.{date_of_day-Some}
use Rattle.chrono_calendar.proofs.IsoWeeks.{iso_name-thursday, before_monday}
use Rattle.chrono_calendar.proofs.IsoDates.{date_of_iso-named, date_of_iso-no_week}
use Rattle.chrono_calendar.proofs.law.known_weeks.Goals as goal

-- the Thursday of that week is 2 January 2025
new_year : (iso_year_of (pos 739_250) ≡ pos 2025) × (iso_week_of (pos 739_250) ≡ 1)
unfolding days_before_year days_of_years
new_year = iso_name-thursday (pos 739_250) (pos 2025) 2 refl (omega arith, omega arith)

pub returns-clause-year : goal.returns-clause-year
returns-clause-year c = new_year.0

pub returns-clause-week : goal.returns-clause-week
returns-clause-week c = new_year.1

pub returns-clause-week_one : goal.returns-clause-week_one
unfolding days_before_year days_of_years
returns-clause-week_one c =
    let number : day_number_of_iso (pos 2025) 1 1 ≡ pos 739_250 = refl in
    date_of_iso-named (pos 2025) 1 Mon (omega arith) (omega arith) ∙ ap date_of_day number ∙ date_of_day-Some (pos 739_250) (omega (arith, signed), omega (arith, signed))

pub returns-clause-week_53 : goal.returns-clause-week_53
unfolding days_before_year days_of_years
returns-clause-week_53 c =
    let before : before_monday (pos 2020) ≡ 5 = refl in
    let number : day_number_of_iso (pos 2020) 53 7 ≡ pos 737_793 = refl in
    date_of_iso-named (pos 2020) 53 Sun (omega arith) (omega arith) ∙ ap date_of_day number ∙ date_of_day-Some (pos 737_793) (omega (arith, signed), omega (arith, signed))

pub returns-clause-no_week_53 : goal.returns-clause-no_week_53
unfolding days_before_year days_of_years
returns-clause-no_week_53 c =
    let before : before_monday (pos 2021) ≡ 0 = refl in
    sym (date_of_iso-no_week (pos 2021) 53 Mon (λ first last. omega arith))
