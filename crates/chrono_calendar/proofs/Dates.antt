-- Which names and numbers are dates, from tests to facts.
use Rattle.std.proofs.Common.{◌≡◌, ℕ, true, ◌&&◌, Option, arith, ℤ}
use Rattle.std.proofs.lemmas.Bool.{and_parts}
use Rattle.std.proofs.lemmas.Bool.Decides.{nat_tests}
use Rattle.std.proofs.lemmas.Int.{ints}
use Rattle.std.specs.Cmp.Derive.{both_true}
use Rattle.std.specs.Option.{SomeIff}
pub use Rattle.chrono_text.proofs.AnswerLemmas.{by_test}
use Rattle.chrono_units.specs.Years.{IsYear, is_year}
use Rattle.chrono_calendar.specs.Days.{IsDate, is_date, IsOrdinalName, is_ordinal_name, IsCalendarName, is_calendar_name, day_number_of_yo, day_number_of_ymd, date_of_day, date_of_yo, date_of_ymd}

pub is_year-fact : (y : ℤ) → is_year y ≡ true → IsYear y
is_year-fact y e = (grind (arith, ints), grind (arith, ints))

pub is_year-test : (y : ℤ) → IsYear y → is_year y ≡ true
is_year-test y h = grind (arith, ints, h.0, h.1)

pub is_date-fact : (n : ℤ) → is_date n ≡ true → IsDate n
is_date-fact n e = (grind (arith, ints), grind (arith, ints))

pub is_date-test : (n : ℤ) → IsDate n → is_date n ≡ true
is_date-test n h = grind (arith, ints, h.0, h.1)

pub is_ordinal_name-fact : (y : ℤ) (o : ℕ) → is_ordinal_name y o ≡ true → IsOrdinalName y o
is_ordinal_name-fact y o e = (grind (arith, nat_tests), grind (arith, nat_tests))

pub is_ordinal_name-test : (y : ℤ) (o : ℕ) → IsOrdinalName y o → is_ordinal_name y o ≡ true
is_ordinal_name-test y o h = grind (arith, nat_tests, h.0, h.1)

pub is_calendar_name-fact : (y : ℤ) (m d : ℕ) → is_calendar_name y m d ≡ true → IsCalendarName y m d
is_calendar_name-fact y m d e =
    ((grind (arith, nat_tests), grind (arith, nat_tests)), (grind (arith, nat_tests), grind (arith, nat_tests)))

pub is_calendar_name-test : (y : ℤ) (m d : ℕ) → IsCalendarName y m d → is_calendar_name y m d ≡ true
is_calendar_name-test y m d h = grind (arith, nat_tests, h.0.0, h.0.1, h.1.0, h.1.1)

-- answers that exist exactly for a name or a number of a date
pub date_of_day-SomeIff : (o : Option ℤ) (n : ℤ) → SomeIff o (IsDate n) n → o ≡ date_of_day n
unfolding date_of_day
date_of_day-SomeIff o n given = by_test (is_date n) o n (IsDate n) (is_date-fact n) (is_date-test n) given

pub date_of_yo-SomeIff : (r : Option ℤ) (y : ℤ) (o : ℕ) → SomeIff r (IsYear y × IsOrdinalName y o) (day_number_of_yo y o) → r ≡ date_of_yo y o
unfolding date_of_yo
date_of_yo-SomeIff r y o given =
    by_test (is_year y && is_ordinal_name y o) r (day_number_of_yo y o) (IsYear y × IsOrdinalName y o)
    (λ e. (is_year-fact y (and_parts (is_year y) (is_ordinal_name y o) e).0, is_ordinal_name-fact y o (and_parts (is_year y) (is_ordinal_name y o) e).1))
    (λ h. both_true (is_year-test y h.0) (is_ordinal_name-test y o h.1)) given

pub date_of_ymd-SomeIff : (r : Option ℤ) (y : ℤ) (m d : ℕ) → SomeIff r (IsYear y × IsCalendarName y m d) (day_number_of_ymd y m d) → r ≡ date_of_ymd y m d
unfolding date_of_ymd
date_of_ymd-SomeIff r y m d given =
    by_test (is_year y && is_calendar_name y m d) r (day_number_of_ymd y m d) (IsYear y × IsCalendarName y m d)
    (λ e. (is_year-fact y (and_parts (is_year y) (is_calendar_name y m d) e).0, is_calendar_name-fact y m d (and_parts (is_year y) (is_calendar_name y m d) e).1))
    (λ h. both_true (is_year-test y h.0) (is_calendar_name-test y m d h.1)) given
