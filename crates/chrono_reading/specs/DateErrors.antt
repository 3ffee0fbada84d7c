-- Why a text is of no date, and at which byte: by each kind of name that ISO 8601 gives dates.
use Rattle.std.specs.Prelude.{◌≡◌, ◌≢◌, ◌==◌, ◌<◌, ◌+◌, ◌⊎◌, ℕ, ℤ, List, [], ◌∷◌, ◌++◌, length, nat_lt, codes, if◌then◌else◌, pos, refl}
use Rattle.std.specs.Str.{byte}
use Rattle.chrono_calendar.specs.Flags.{weeks_of_iso_year}
use Rattle.chrono_datetime.specs.Fields.{IsIsoYear}
use Rattle.chrono_datetime.specs.Years.{IsYear, month_length, year_length}
use Rattle.chrono_text.specs.Text.{all_digits, two_digits, year_text}
use Rattle.chrono_reading.specs.Fitting.{IsOfForm, form_error, year_form}
use Rattle.chrono_reading.specs.declared.error.ReadCause.{ReadCause}
use Rattle.chrono_reading.specs.declared.error.ReadCause.TheVariants.{YearOutOfRange, MonthZero, MonthAbove12, DayZero, DayAbove, OrdinalZero, OrdinalAbove, WeekZero, WeekAbove, WeekdayOutOfRange, DateOutOfRange}
use Rattle.chrono_reading.specs.declared.error.ReadError.{ReadError}

-- the error with a cause that begins at a byte
abbrev pub error_at : ReadCause → ℕ → ReadError
error_at cause place = record { cause = cause; byte = place }

-- What is wrong with the numbers of a date behind its year, which ends at a byte: the first that is, from left to right. The date is none, so
-- where none before it is wrong, the last is.
unfoldable pub calendar_error : ℤ → ℕ → ℕ → ℕ → ReadError
calendar_error year month day end =
    if month == 0 then error_at MonthZero (end + 1)
    else (if nat_lt 12 month then error_at MonthAbove12 (end + 1)
    else (if day == 0 then error_at DayZero (end + 4)
    else error_at (DayAbove (month_length year month)) (end + 4)))

-- what is wrong with the ordinal of a date behind its year, which ends at a byte
unfoldable pub ordinal_error : ℤ → ℕ → ℕ → ReadError
ordinal_error year ordinal end =
    if ordinal == 0 then error_at OrdinalZero (end + 1)
    else error_at (OrdinalAbove (year_length year)) (end + 1)

-- A weekday is from 1 to 7. A date with a week and a weekday that the ISO year has lies past the ends of the calendar, if it is none.
unfoldable pub week_error : ℤ → ℕ → ℕ → ℕ → ReadError
week_error year week weekday end =
    if week == 0 then error_at WeekZero (end + 2)
    else (if nat_lt (weeks_of_iso_year year) week then error_at (WeekAbove (weeks_of_iso_year year)) (end + 2)
    else (if weekday == 0 then error_at WeekdayOutOfRange (end + 5)
    else (if nat_lt 7 weekday then error_at WeekdayOutOfRange (end + 5)
    else error_at DateOutOfRange 0)))

-- The parts of a text that has the form of a date: the text of its year, and its numbers.
pub record HasDateParts (text year : List ℕ) (month day : ℕ) : Type 0 where
  pub year_is : IsOfForm (year_form year) year
  pub small : (month < 100) × (day < 100)
  pub written : year ++ codes "-" ++ two_digits month ++ codes "-" ++ two_digits day ≡ text

pub record HasOrdinalParts (text year : List ℕ) (ordinal : ℕ) : Type 0 where
  pub year_is : IsOfForm (year_form year) year
  pub small : ordinal < 1_000
  pub written : year ++ codes "-" ++ all_digits 3 ordinal ≡ text

pub record HasWeekParts (text year : List ℕ) (week weekday : ℕ) : Type 0 where
  pub year_is : IsOfForm (year_form year) year
  pub small : (week < 100) × (weekday < 10)
  pub written : year ++ codes "-W" ++ two_digits week ++ codes "-" ++ (byte "0" + weekday) ∷ [] ≡ text

-- The error of a text by its year: it is none of these years, or it is one, and then the error is that year's.
abbrev pub IsErrorByYear : (ℤ → Type 0) → List ℕ → (ℤ → ReadError) → ReadError → Type 0
IsErrorByYear IsOne text error_of e =
    (((y : ℤ) → IsOne y → year_text y ≢ text) × (e ≡ error_at YearOutOfRange 0))
    ⊎ ((y : ℤ) × IsOne y × (year_text y ≡ text) × (e ≡ error_of y))

-- The error of a text that is of no date: it has not the form of one, or its numbers are none of a date.
abbrev pub IsDateError : List ℕ → ReadError → Type 0
IsDateError text e =
    (((year : List ℕ) (month day : ℕ) → ¬ HasDateParts text year month day) × (e ≡ form_error (year_form text ++ codes "-dd-dd") text))
    ⊎ ((year : List ℕ) × (month : ℕ) × (day : ℕ) × HasDateParts text year month day
    × IsErrorByYear IsYear year (λ y. calendar_error y month day (length year)) e)

-- the error of a text that is of no date by its ordinal: it has not the form of one, or its numbers are none of a date
abbrev pub IsOrdinalDateError : List ℕ → ReadError → Type 0
IsOrdinalDateError text e =
    (((year : List ℕ) (ordinal : ℕ) → ¬ HasOrdinalParts text year ordinal) × (e ≡ form_error (year_form text ++ codes "-ddd") text))
    ⊎ ((year : List ℕ) × (ordinal : ℕ) × HasOrdinalParts text year ordinal
    × IsErrorByYear IsYear year (λ y. ordinal_error y ordinal (length year)) e)

-- the error of a text that is of no date by its ISO week: it has not the form of one, or its numbers are none of a date
abbrev pub IsWeekDateError : List ℕ → ReadError → Type 0
IsWeekDateError text e =
    (((year : List ℕ) (week weekday : ℕ) → ¬ HasWeekParts text year week weekday) × (e ≡ form_error (year_form text ++ codes "-Wdd-d") text))
    ⊎ ((year : List ℕ) × (week : ℕ) × (weekday : ℕ) × HasWeekParts text year week weekday
    × IsErrorByYear IsIsoYear year (λ y. week_error y week weekday (length year)) e)

-- known values: 29 February of a common year, month 13, days 0 and 31, and month 0
calendar_error-february : calendar_error (pos 2023) 2 29 4 ≡ error_at (DayAbove 28) 8
unfolding calendar_error
calendar_error-february = refl

calendar_error-thirteen : calendar_error (pos 2024) 13 1 4 ≡ error_at MonthAbove12 5
unfolding calendar_error
calendar_error-thirteen = refl

calendar_error-nought : calendar_error (pos 2024) 0 0 4 ≡ error_at MonthZero 5
unfolding calendar_error
calendar_error-nought = refl

calendar_error-day_nought : calendar_error (pos 2024) 12 0 4 ≡ error_at DayZero 8
unfolding calendar_error
calendar_error-day_nought = refl

calendar_error-april : calendar_error (pos 12_345) 4 31 6 ≡ error_at (DayAbove 30) 10
unfolding calendar_error
calendar_error-april = refl

-- day 366 of a common year, and day 0
ordinal_error-366 : ordinal_error (pos 2023) 366 4 ≡ error_at (OrdinalAbove 365) 5
unfolding ordinal_error
ordinal_error-366 = refl

ordinal_error-nought : ordinal_error (pos 2024) 0 4 ≡ error_at OrdinalZero 5
unfolding ordinal_error
ordinal_error-nought = refl

-- weekday 8, week 0, and a day past the last date
week_error-nought : week_error (pos 2024) 0 8 4 ≡ error_at WeekZero 6
unfolding week_error
week_error-nought = refl
