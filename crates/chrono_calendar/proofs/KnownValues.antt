-- Values of the calendar, of the flags and of the weeks of years, so that a wrong rule does not check. Those that callers
-- may cite stand in `law.rt`: `known_days`, `known_weeks`, `known_moves` and `known_recurrences`.
use Rattle.std.proofs.Common.{◌≡◌, pos, negsuc, [], ◌∷◌, map, Some, refl, arith}
use Rattle.chrono_calendar.specs.Days.{days_of_years, days_before_year, days_of_months_in, day_number_of_yo, day_number_of_ymd, ordinal_name_of, days_after_zero, days_before_zero, month_of_ordinal, day_of_ordinal}
use Rattle.chrono_units.specs.declared.weekday.Weekday.TheVariants.{Mon, Tue, Thu, Fri}
use Rattle.chrono_units.specs.WeekdaySet.{set_of, single}
use Rattle.chrono_calendar.specs.Recurrence.{count_where, first_of_days, is_on}
use Rattle.chrono_calendar.specs.Flags.{flags_of_year, weeks_of_iso_year}
use Rattle.chrono_calendar.specs.Weeks.{date_of_iso, iso_week_of}
use Rattle.chrono_calendar.specs.YearsBetween.{years_between}
use Rattle.chrono_text.proofs.Signed.{signed}
use Rattle.chrono_calendar.proofs.Years.{days_before_year-closed}
use Rattle.chrono_calendar.proofs.Weeks.{weeks_of_iso_year-flags}

first_day : day_number_of_ymd (pos 1) 1 1 ≡ pos 1
unfolding days_before_year days_of_years days_of_months_in
first_day = refl

last_of_zero : day_number_of_ymd (pos 0) 12 31 ≡ pos 0
unfolding days_before_year days_of_years days_of_months_in
last_of_zero = refl

before_zero : day_number_of_ymd (negsuc 3) 2 29 ≡ negsuc 1766
unfolding days_before_year days_of_years days_of_months_in
before_zero = refl

-- 30 December 2024 has the number that `known_weeks` of `law.rt` names
days_2024 : day_number_of_ymd (pos 2024) 12 30 ≡ pos 739_250
unfolding days_before_year days_of_years days_of_months_in
days_2024 = refl

-- the numbers of the first and of the last date
pub first_number : day_number_of_yo (negsuc 262_142) 1 ≡ negsuc 95_746_128
first_number = omega (arith, signed, days_before_year-closed (negsuc 262_142))

pub last_number : day_number_of_yo (pos 262_142) 365 ≡ pos 95_745_399
last_number = omega (arith, signed, days_before_year-closed (pos 262_142))

flags : map (λ y. flags_of_year (pos y)) (0 ∷ 1 ∷ 2 ∷ 3 ∷ 4 ∷ 100 ∷ 200 ∷ 300 ∷ 399 ∷ []) ≡ 4 ∷ 14 ∷ 15 ∷ 9 ∷ 2 ∷ 11 ∷ 9 ∷ 14 ∷ 11 ∷ []
unfolding flags_of_year days_before_year days_of_years
flags = refl

flags_before_zero : flags_of_year (negsuc 399) ≡ 4
unfolding flags_of_year days_before_year days_of_years
flags_before_zero = refl

-- 2020 and 2015 have 53 weeks, 2021 has 52
weeks_of_years : (weeks_of_iso_year (pos 2020) ≡ 53) × (weeks_of_iso_year (pos 2015) ≡ 53) × (weeks_of_iso_year (pos 2021) ≡ 52)
unfolding flags_of_year days_before_year days_of_years
weeks_of_years = (weeks_of_iso_year-flags (pos 2020) 1 refl, weeks_of_iso_year-flags (pos 2015) 10 refl, weeks_of_iso_year-flags (pos 2021) 11 refl)

-- from 30 December 2024, a Monday, Tuesday comes the day after
next_tuesday : first_of_days (is_on (set_of (Tue ∷ Thu ∷ []))) 7 (pos 739_250) ≡ Some (pos 739_251)
unfolding first_of_days
next_tuesday = refl

-- January of the year 1 has four Fridays
fridays_of_january : count_where (is_on (single Fri)) 31 (pos 1) ≡ 4
unfolding count_where
fridays_of_january = refl

-- Monday, 4 January of the year -1 is in its first week, whose Thursday is the seventh day of the year
first_week_of_minus_one : iso_week_of (negsuc 726) ≡ 1
unfolding ordinal_name_of days_before_zero
first_week_of_minus_one = refl

-- 1 January of the year 5 is a Saturday, so the first week begins on Monday, 3 January
first_week_of_five : date_of_iso (pos 5) 1 Mon ≡ Some (pos 1464)
unfolding date_of_iso days_before_year days_of_years ordinal_name_of days_after_zero
first_week_of_five = refl

-- from 29 February of the year 4 to that of the year 8 it is four whole years
leap_day_to_leap_day : years_between (pos 2616) (pos 1155) ≡ Some 4
unfolding years_between ordinal_name_of days_after_zero month_of_ordinal day_of_ordinal days_of_months_in
leap_day_to_leap_day = refl
