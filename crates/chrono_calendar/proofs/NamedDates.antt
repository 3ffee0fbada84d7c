-- Which numbers and names are dates: from one to the other.
use Rattle.std.proofs.Common.{Option, ◌≡◌, ◌<◌, ◌≤◌, ℕ, Bool, true, false, ◌&&◌, cond, Some, None, refl, sym, ap, ◌∙◌, ℤ, arith, pos, ◌+ℤ◌, to_z, of_z, w32}
use Rattle.std.proofs.lemmas.Bool.{and_parts}
use Rattle.std.proofs.lemmas.Option.{cond_some}
use Rattle.std.specs.Cmp.Derive.{both_true}
use Rattle.chrono_units.specs.Years.{IsYear, is_year, is_leap_year}
use Rattle.chrono_calendar.specs.Days.{IsDate, is_date, IsOrdinalName, is_ordinal_name, IsCalendarName, is_calendar_name, day_number_of_yo, day_number_of_ymd, ordinal_of_ymd, date_of_day, date_of_yo, date_of_ymd, year_of, ordinal_of, month_of, day_of}
use Rattle.chrono_calendar.proofs.Names.{ordinal_name_of-number, year_of-number, ordinal_of-number, day_number_in_range, year_in_range}
use Rattle.chrono_calendar.proofs.Months.{month_length_in-bounds, ordinal_within, month_of_ordinal-exists, month_of_ordinal-unique}
use Rattle.chrono_calendar.proofs.Dates.{is_year-fact, is_year-test, is_date-fact, is_date-test, is_ordinal_name-fact, is_ordinal_name-test, is_calendar_name-fact, is_calendar_name-test}
use Rattle.chrono_text.proofs.Signed.{casts}

-- tests that hold together are one
pub same_test : (a b : Bool) → (a ≡ true → b ≡ true) → (b ≡ true → a ≡ true) → a ≡ b
same_test true true f g = refl
same_test true false f g = sym (f refl)
same_test false true f g = g refl
same_test false false f g = refl

-- the day with an ordinal name is a date exactly if its year is one of the library's
pub date_of_yo-day : (n y : ℤ) (o : ℕ) → day_number_of_yo y o ≡ n → IsOrdinalName y o → date_of_yo y o ≡ date_of_day n
unfolding date_of_yo date_of_day
date_of_yo-day n y o e h =
    let same : (is_year y && is_ordinal_name y o) ≡ is_date n = same_test (is_year y && is_ordinal_name y o) (is_date n)
    (λ t. is_date-test n (rw e at (day_number_in_range y o (is_year-fact y (and_parts (is_year y) (is_ordinal_name y o) t).0) h)))
    (λ t. both_true (is_year-test y (year_in_range y o h (rw (← e) at (is_date-fact n t)))) (is_ordinal_name-test y o h)) in
    rw (same, e) refl

-- and so is the day with a calendar name
pub IsCalendarName-ordinal : (y : ℤ) (m d : ℕ) → IsCalendarName y m d → IsOrdinalName y (ordinal_of_ymd y m d)
IsCalendarName-ordinal y m d h = ordinal_within (is_leap_year y) m d h.0 h.1

date_of_ymd-day : (n y : ℤ) (m d : ℕ) → day_number_of_ymd y m d ≡ n → IsCalendarName y m d → date_of_ymd y m d ≡ date_of_day n
unfolding date_of_ymd date_of_day
date_of_ymd-day n y m d e h =
    let inside = IsCalendarName-ordinal y m d h in
    let same : (is_year y && is_calendar_name y m d) ≡ is_date n = same_test (is_year y && is_calendar_name y m d) (is_date n)
    (λ t. is_date-test n (rw e at (day_number_in_range y (ordinal_of_ymd y m d) (is_year-fact y (and_parts (is_year y) (is_calendar_name y m d) t).0) inside)))
    (λ t. both_true (is_year-test y (year_in_range y (ordinal_of_ymd y m d) inside (rw (← e) at (is_date-fact n t)))) (is_calendar_name-test y m d h)) in
    rw (same, e) refl

-- a number in the range is a date, and another is none
pub date_of_day-Some : (n : ℤ) → IsDate n → date_of_day n ≡ Some n
unfolding date_of_day
date_of_day-Some n h = rw (is_date-test n h) refl

pub none-date_of_day : (n : ℤ) → None ≡ date_of_day n → IsDate n → ⊥
none-date_of_day n h date = let found = date_of_day-Some n date in cc

-- a number that gives a date is that date's
pub some-date_of_day : (n e : ℤ) → Some e ≡ date_of_day n → IsDate n × (e ≡ n)
unfolding date_of_day
some-date_of_day n e h =
    let found = cond_some (is_date n) n e (sym h) in
    (is_date-fact n found.0, sym found.1)

pub date_of_day-number : (n m : ℤ) → date_of_day m ≡ Some n → IsDate n × (m ≡ n)
date_of_day-number n m e = let found = some-date_of_day m n (sym e) in (rw (sym found.1) at found.0, sym found.1)

-- no value where a test cannot hold
pub None-cond : (b : Bool) (x : Option ℤ) → (b ≡ true → ⊥) → None ≡ cond b x None
None-cond true x h = absurd (h refl)
None-cond false x h = refl

pub date_of_day-None : (n : ℤ) → (IsDate n → ⊥) → None ≡ date_of_day n
unfolding date_of_day
date_of_day-None n h = None-cond (is_date n) (Some n) (λ t. h (is_date-fact n t))

-- the names of a day
pub number-ordinal_name : (n : ℤ) → day_number_of_yo (year_of n) (ordinal_of n) ≡ n
number-ordinal_name n = sym (ordinal_name_of-number n).number

pub calendar_name-exists : (n : ℤ) → IsCalendarName (year_of n) (month_of n) (day_of n)
calendar_name-exists n =
    let named = month_of_ordinal-exists (is_leap_year (year_of n)) (ordinal_of n) (ordinal_name_of-number n).exists in
    (named.month, named.day)

-- no month has more than 31 days
pub day_of-small : (n : ℤ) → (1 ≤ day_of n) × (day_of n < 32)
day_of-small n = omega (arith, (calendar_name-exists n).1, month_length_in-bounds (is_leap_year (year_of n)) (month_of n))

pub number-calendar_name : (n : ℤ) → day_number_of_ymd (year_of n) (month_of n) (day_of n) ≡ n
number-calendar_name n =
    let named = month_of_ordinal-exists (is_leap_year (year_of n)) (ordinal_of n) (ordinal_name_of-number n).exists in
    ap (λ (o : ℕ). day_number_of_yo (year_of n) o) named.ordinal ∙ number-ordinal_name n

-- a date named again is itself, and by no other name
pub date_of_yo-again : (n : ℤ) → IsDate n → date_of_yo (year_of n) (ordinal_of n) ≡ Some n
date_of_yo-again n h = date_of_yo-day n (year_of n) (ordinal_of n) (number-ordinal_name n) (ordinal_name_of-number n).exists ∙ date_of_day-Some n h

pub date_of_ymd-again : (n : ℤ) → IsDate n → date_of_ymd (year_of n) (month_of n) (day_of n) ≡ Some n
date_of_ymd-again n h = date_of_ymd-day n (year_of n) (month_of n) (day_of n) (number-calendar_name n) (calendar_name-exists n) ∙ date_of_day-Some n h

pub date_of_yo-name : (n y : ℤ) (o : ℕ) → date_of_yo y o ≡ Some n → (y ≡ year_of n) × (o ≡ ordinal_of n)
unfolding date_of_yo
date_of_yo-name n y o e =
    let found = cond_some (is_year y && is_ordinal_name y o) (day_number_of_yo y o) n e in
    let exists = is_ordinal_name-fact y o (and_parts (is_year y) (is_ordinal_name y o) found.0).1 in
    (sym (year_of-number n y o found.1 exists), sym (ordinal_of-number n y o found.1 exists))

pub date_of_ymd-name : (n y : ℤ) (m d : ℕ) → date_of_ymd y m d ≡ Some n → (y ≡ year_of n) × (m ≡ month_of n) × (d ≡ day_of n)
unfolding date_of_ymd
date_of_ymd-name n y m d e =
    let found = cond_some (is_year y && is_calendar_name y m d) (day_number_of_ymd y m d) n e in
    let exists = is_calendar_name-fact y m d (and_parts (is_year y) (is_calendar_name y m d) found.0).1 in
    let inside = IsCalendarName-ordinal y m d exists in
    let year = year_of-number n y (ordinal_of_ymd y m d) found.1 inside in
    let ordinal = ordinal_of-number n y (ordinal_of_ymd y m d) found.1 inside in
    let divided = month_of_ordinal-unique (is_leap_year y) m d (ordinal_of_ymd y m d) (record { month = exists.0; day = exists.1; ordinal = refl }) in
    (sym year, rw (year, ordinal) (sym divided.0), rw (year, ordinal) (sym divided.1))

-- a name that the calendar has is that of the day with its number
pub calendar_name-number : (y : ℤ) (m d : ℕ) → IsCalendarName y m d → let n = day_number_of_ymd y m d in (year_of n ≡ y) × (month_of n ≡ m) × (day_of n ≡ d)
calendar_name-number y m d h =
    let n = day_number_of_ymd y m d in
    let o = ordinal_of_ymd y m d in
    let inside = IsCalendarName-ordinal y m d h in
    let year = year_of-number n y o refl inside in
    let ordinal = ordinal_of-number n y o refl inside in
    let divided = month_of_ordinal-unique (is_leap_year y) m d o (record { month = h.0; day = h.1; ordinal = refl }) in
    (year, rw (year, ordinal) divided.0, rw (year, ordinal) divided.1)

-- a day whose year is one of the library's is a date
pub IsDate-year : (n : ℤ) → IsYear (year_of n) → IsDate n
IsDate-year n h = rw (number-ordinal_name n) at (day_number_in_range (year_of n) (ordinal_of n) h (ordinal_name_of-number n).exists)

-- the number of the next day, computed in a machine word
pub next_day-fits : (r d : ℤ) → r ≡ d → IsDate r → to_z w32 (of_z w32 (to_z w32 (of_z w32 r) +ℤ pos 1)) ≡ d +ℤ pos 1
next_day-fits r d e h = omega (arith, casts, e, h.0, h.1)
