-- The day that an ISO name names, and the ISO name of each date.
use Rattle.std.proofs.Common.{◌≡◌, ℕ, ◌+◌, ◌-◌, ◌*◌, ◌<◌, ◌≤◌, true, ◌&&◌, nat_eq, Some, None, refl, sym, ap, ◌∙◌, arith, ℤ, pos, neg_ℤ, ◌+ℤ◌, ◌-ℤ◌, ◌≤ℤ◌}
use Rattle.std.proofs.lemmas.Bool.{and_parts}
use Rattle.std.proofs.lemmas.Bool.Decides.{nat_tests}
use Rattle.std.proofs.lemmas.Int.{ints}
use Rattle.std.proofs.lemmas.Option.{cond_some}
use Rattle.std.specs.Cmp.Derive.{both_true}
use Rattle.std.specs.Ordering.{int_eq}
use Rattle.chrono_units.specs.Years.{year_length}
use Rattle.chrono_units.specs.declared.weekday.Weekday.{Weekday}
use Rattle.chrono_units.specs.Weekday.{days_from_monday, number_from_monday}
use Rattle.chrono_units.proofs.WeekdayCycle.{days_from_monday-lt}
use Rattle.chrono_calendar.specs.Days.{IsDate, is_date, days_before_year, IsOrdinalName, day_number_of_yo, ordinal_of, date_of_day, date_of_yo}
use Rattle.chrono_calendar.specs.Weeks.{days_from_sunday_of, iso_weekday_of, weekday_of, thursday_of_week, iso_year_of, iso_week_of, day_number_of_iso, is_iso_name, date_of_iso}
use Rattle.chrono_text.proofs.Signed.{signed}
use Rattle.chrono_calendar.proofs.Years.{days_before_year-next}
use Rattle.chrono_calendar.proofs.Names.{ordinal_name_of-number, year_length_bounds}
use Rattle.chrono_calendar.proofs.Dates.{is_date-fact}
use Rattle.chrono_calendar.proofs.NamedDates.{same_test, None-cond, date_of_day-Some, date_of_yo-day}
use Rattle.chrono_calendar.proofs.IsoWeeks.{days_from_monday-of, iso_weekday_of-monday, same_weekday, thursday_of_week-monday, iso_name-thursday, before_monday, iso_year_of-range}

fourth_of_january : (y : ℤ) → days_from_monday (weekday_of (days_before_year y +ℤ pos 4)) ≡ before_monday y
fourth_of_january y = omega (arith, signed, days_from_monday-of (days_before_year y +ℤ pos 4))

pub day_number_of_iso-place : (y : ℤ) (w : ℕ) (d : Weekday) → day_number_of_iso y w (number_from_monday d) ≡ days_before_year y +ℤ pos (7 * w + days_from_monday d) -ℤ pos (before_monday y + 3)
day_number_of_iso-place y w d =
    omega (arith, signed, iso_weekday_of-monday (days_before_year y +ℤ pos 4), fourth_of_january y)

-- that day has the weekday, and its Thursday lies as many weeks on
weekday_of-iso : (n y : ℤ) (w : ℕ) (d : Weekday) → n ≡ days_before_year y +ℤ pos (7 * w + days_from_monday d) -ℤ pos (before_monday y + 3) → weekday_of n ≡ d
weekday_of-iso n y w d e =
    let bound = days_from_monday-lt d in
    same_weekday n d (omega (arith, signed))

thursday_of-iso : (n y : ℤ) (w : ℕ) (d : Weekday) → n ≡ days_before_year y +ℤ pos (7 * w + days_from_monday d) -ℤ pos (before_monday y + 3) → thursday_of_week n ≡ days_before_year y +ℤ pos (7 * w) -ℤ pos (before_monday y)
thursday_of-iso n y w d e =
    omega (arith, signed, thursday_of_week-monday n, ap days_from_monday (weekday_of-iso n y w d e))

pub before_monday-bound : (y : ℤ) → before_monday y < 7
before_monday-bound y = omega arith

-- the test of an ISO name is one of its three parts
name_test : (p y : ℤ) (v w i d : ℕ) → p ≡ y → v ≡ w → i ≡ d → (int_eq p y && nat_eq v w && nat_eq i d) ≡ true
name_test p y v w i d e f g = rw (e, f, g) (grind (arith, ints, nat_tests))

name_parts : (p y : ℤ) (v w i d : ℕ) → (int_eq p y && nat_eq v w && nat_eq i d) ≡ true → (p ≡ y) × (v ≡ w) × (i ≡ d)
name_parts p y v w i d e =
    let two = and_parts (int_eq p y && nat_eq v w) (nat_eq i d) e in
    let one = and_parts (int_eq p y) (nat_eq v w) two.0 in
    (grind (arith, ints, one.0), grind (arith, nat_tests, one.1), grind (arith, nat_tests, two.1))

-- a week that the year has: its days are named so, and are dates where they lie in the range
pub date_of_iso-named : (y : ℤ) (w : ℕ) (d : Weekday) → 1 ≤ w → 7 * w ≤ year_length y + before_monday y → date_of_iso y w d ≡ date_of_day (day_number_of_iso y w (number_from_monday d))
unfolding date_of_iso date_of_day
date_of_iso-named y w d first last =
    let n = day_number_of_iso y w (number_from_monday d) in
    let place = day_number_of_iso-place y w d in
    let weekday = weekday_of-iso n y w d place in
    let found : day_number_of_yo y (7 * w - before_monday y) ≡ thursday_of_week n = omega (arith, signed, thursday_of-iso n y w d place, before_monday-bound y) in
    let name = iso_name-thursday n y (7 * w - before_monday y) found (omega (arith, before_monday-bound y), omega arith) in
    let week : iso_week_of n ≡ w = omega (arith, name.1, before_monday-bound y) in
    let number : iso_weekday_of n ≡ number_from_monday d = iso_weekday_of-monday n ∙ ap number_from_monday weekday in
    let test : is_iso_name y w (number_from_monday d) n ≡ true = name_test (iso_year_of n) y (iso_week_of n) w (iso_weekday_of n) (number_from_monday d) name.0 week number in
    let same : (is_date n && is_iso_name y w (number_from_monday d) n) ≡ is_date n = same_test (is_date n && is_iso_name y w (number_from_monday d) n) (is_date n) (λ t. (and_parts (is_date n) (is_iso_name y w (number_from_monday d) n) t).0) (λ t. both_true t test) in
    rw same refl

-- no date where the day that would be named has another name
date_of_iso-None : (y : ℤ) (w : ℕ) (d : Weekday) → (let n = day_number_of_iso y w (number_from_monday d) in IsDate n → iso_year_of n ≡ y → iso_week_of n ≡ w → ⊥) → None ≡ date_of_iso y w d
unfolding date_of_iso
date_of_iso-None y w d h =
    let n = day_number_of_iso y w (number_from_monday d) in
    let test : (is_date n && is_iso_name y w (number_from_monday d) n) ≡ true → ⊥ = λ t.
    let both = and_parts (is_date n) (is_iso_name y w (number_from_monday d) n) t in
    let name = name_parts (iso_year_of n) y (iso_week_of n) w (iso_weekday_of n) (number_from_monday d) both.1 in
    h (is_date-fact n both.0) name.0 name.1 in
    None-cond (is_date n && is_iso_name y w (number_from_monday d) n) (Some n) test

-- so for a week that the year has not
pub date_of_iso-no_week : (y : ℤ) (w : ℕ) (d : Weekday) → (1 ≤ w → 7 * w ≤ year_length y + before_monday y → ⊥) → None ≡ date_of_iso y w d
date_of_iso-no_week y w d h =
    let n = day_number_of_iso y w (number_from_monday d) in
    let t = thursday_of_week n in
    let named = ordinal_name_of-number t in
    let place = thursday_of-iso n y w d (day_number_of_iso-place y w d) in
    date_of_iso-None y w d (λ k e f.
    let before = ap days_before_year e in
    let days = ap year_length e in
    let at : pos (ordinal_of t) ≡ pos (7 * w) -ℤ pos (before_monday y) = omega (arith, signed, named.number, place, before) in
    h (omega (arith, signed, at, named.exists)) (omega (arith, signed, at, named.exists, days)))

-- and for a year past those of the dates
pub date_of_iso-no_year : (y : ℤ) (w : ℕ) (d : Weekday) → (neg_ℤ (pos 262_143) ≤ℤ y → y ≤ℤ pos 262_143 → ⊥) → None ≡ date_of_iso y w d
date_of_iso-no_year y w d h =
    date_of_iso-None y w d (λ k e f.
    let range = iso_year_of-range (day_number_of_iso y w (number_from_monday d)) k in
    h (rw e at range.0) (rw e at range.1))

-- each date is named by its ISO name
thursdays : (n : ℤ) → days_from_sunday_of (thursday_of_week n) ≡ 4
thursdays n = omega (arith, signed, thursday_of_week-monday n, days_from_monday-of n)

pub thursday-place : (n : ℤ) → thursday_of_week n ≡ days_before_year (iso_year_of n) +ℤ pos (7 * iso_week_of n) -ℤ pos (before_monday (iso_year_of n))
thursday-place n =
    let named = ordinal_name_of-number (thursday_of_week n) in
    omega (arith, signed, named.number, named.exists, thursdays n)

pub iso_week_of-bounds : (n : ℤ) → (1 ≤ iso_week_of n) × (7 * iso_week_of n ≤ year_length (iso_year_of n) + before_monday (iso_year_of n))
iso_week_of-bounds n =
    let named = ordinal_name_of-number (thursday_of_week n) in
    (omega arith, omega (arith, signed, named.number, named.exists, thursday-place n))

day_number_of_iso-name : (n : ℤ) → day_number_of_iso (iso_year_of n) (iso_week_of n) (number_from_monday (weekday_of n)) ≡ n
day_number_of_iso-name n =
    omega (arith, signed, day_number_of_iso-place (iso_year_of n) (iso_week_of n) (weekday_of n), thursday-place n, thursday_of_week-monday n)

pub date_of_iso-again : (n : ℤ) → IsDate n → date_of_iso (iso_year_of n) (iso_week_of n) (weekday_of n) ≡ Some n
date_of_iso-again n h =
    let bounds = iso_week_of-bounds n in
    date_of_iso-named (iso_year_of n) (iso_week_of n) (weekday_of n) bounds.0 bounds.1 ∙ ap date_of_day (day_number_of_iso-name n) ∙ date_of_day-Some n h

-- and by no other
pub date_of_iso-name : (n y : ℤ) (w : ℕ) (d : Weekday) → date_of_iso y w d ≡ Some n → (y ≡ iso_year_of n) × (w ≡ iso_week_of n) × (d ≡ weekday_of n)
unfolding date_of_iso
date_of_iso-name n y w d e =
    let m = day_number_of_iso y w (number_from_monday d) in
    let found = cond_some (is_date m && is_iso_name y w (number_from_monday d) m) m n e in
    let both = and_parts (is_date m) (is_iso_name y w (number_from_monday d) m) found.0 in
    let name = name_parts (iso_year_of m) y (iso_week_of m) w (iso_weekday_of m) (number_from_monday d) both.1 in
    let weekday = weekday_of-iso m y w d (day_number_of_iso-place y w d) in
    rw (← found.1) (sym name.0, sym name.1, sym weekday)

-- the date that a week that the year has gives, by its ordinal name
date_of_iso-yo : (y z : ℤ) (w o : ℕ) (d : Weekday) → 1 ≤ w → 7 * w ≤ year_length y + before_monday y → day_number_of_yo z o ≡ days_before_year y +ℤ pos (7 * w + days_from_monday d) -ℤ pos (before_monday y + 3) → IsOrdinalName z o → date_of_yo z o ≡ date_of_iso y w d
date_of_iso-yo y z w o d first last e h =
    date_of_yo-day (day_number_of_iso y w (number_from_monday d)) z o (e ∙ sym (day_number_of_iso-place y w d)) h ∙ sym (date_of_iso-named y w d first last)

-- in the year itself
pub date_of_iso-inside : (y : ℤ) (w o : ℕ) (d : Weekday) → 1 ≤ w → 7 * w ≤ year_length y + before_monday y → o + before_monday y + 3 ≡ 7 * w + days_from_monday d → 1 ≤ o → o ≤ year_length y → date_of_yo y o ≡ date_of_iso y w d
date_of_iso-inside y w o d first last e low high = date_of_iso-yo y y w o d first last (omega (arith, signed)) (low, high)

-- in the last days of the year before
pub date_of_iso-before : (y p : ℤ) (w o : ℕ) (d : Weekday) → 1 ≤ w → 7 * w ≤ year_length y + before_monday y → p ≡ y -ℤ pos 1 → o + before_monday y + 3 ≡ 7 * w + days_from_monday d + year_length p → o ≤ year_length p → date_of_yo p o ≡ date_of_iso y w d
date_of_iso-before y p w o d first last past e high =
    let next : y ≡ p +ℤ pos 1 = omega (arith, signed) in
    date_of_iso-yo y p w o d first last (omega (arith, signed, days_before_year-next p y next)) (omega (arith, year_length_bounds p, before_monday-bound y), high)

-- in the first days of the year after
pub date_of_iso-after : (y q : ℤ) (w o : ℕ) (d : Weekday) → 1 ≤ w → 7 * w ≤ year_length y + before_monday y → q ≡ y +ℤ pos 1 → o + year_length y + before_monday y + 3 ≡ 7 * w + days_from_monday d → 1 ≤ o → date_of_yo q o ≡ date_of_iso y w d
date_of_iso-after y q w o d first last next e low =
    date_of_iso-yo y q w o d first last (omega (arith, signed, days_before_year-next y q next)) (low, omega (arith, year_length_bounds q, days_from_monday-lt d))
