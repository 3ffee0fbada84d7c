-- The weeks of ISO 8601: the name of a day by its Thursday, and the day that a name names.
use Rattle.std.proofs.Common.{◌≡◌, ℕ, true, ◌+◌, ◌-◌, ◌*◌, ◌/◌, ◌%◌, ◌<◌, ◌≤◌, cond, nat_eq, refl, sym, ap, ◌∙◌, arith, ℤ, pos, neg_ℤ, ◌+ℤ◌, ◌-ℤ◌, ◌≤ℤ◌, ◌<ℤ◌}
use Rattle.std.proofs.lemmas.Bool.{eqb-true}
use Rattle.std.proofs.lemmas.Bool.Decides.{nat_tests}
use Rattle.std.proofs.lemmas.Int.{by_lt_z}
use Rattle.std.specs.Int.{int_div_euclid}
use Rattle.chrono_units.specs.Years.{year_length}
use Rattle.chrono_units.specs.declared.weekday.Weekday.{Weekday}
use Rattle.chrono_units.specs.declared.weekday.Weekday.TheVariants.{Mon, Tue, Wed, Thu, Fri, Sat, Sun}
use Rattle.chrono_units.specs.Weekday.{days_from_monday, weekday_from_sunday}
use Rattle.chrono_units.proofs.WeekdayCycle.{days_from_monday-lt}
use Rattle.chrono_calendar.specs.Days.{IsDate, days_before_year, IsOrdinalName, day_number_of_yo}
use Rattle.chrono_calendar.specs.Weeks.{days_from_sunday_of, iso_weekday_of, weekday_of, thursday_of_week, iso_year_of, iso_week_of}
use Rattle.chrono_text.proofs.Signed.{signed}
use Rattle.chrono_calendar.proofs.Tests.{passes_below, passes_below-at}
use Rattle.chrono_calendar.proofs.Years.{days_before_year-next, days_before_year-closed}
use Rattle.chrono_calendar.proofs.Names.{ordinal_name_of-number, year_of-number, ordinal_of-number, days_before_year-later, year_length_bounds}

weekday_from_sunday-days : (d : Weekday) → weekday_from_sunday ((days_from_monday d + 1) % 7) ≡ d
weekday_from_sunday-days Mon = refl
weekday_from_sunday-days Tue = refl
weekday_from_sunday-days Wed = refl
weekday_from_sunday-days Thu = refl
weekday_from_sunday-days Fri = refl
weekday_from_sunday-days Sat = refl
weekday_from_sunday-days Sun = refl

-- the weekday k days after a Sunday, for each k
weekdays_tested : passes_below (λ k. nat_eq (days_from_monday (weekday_from_sunday k)) ((k + 6) % 7)) 7 ≡ true
unfolding passes_below
weekdays_tested = refl

days_from_monday-weekday : (k : ℕ) → k < 7 → days_from_monday (weekday_from_sunday k) ≡ (k + 6) % 7
days_from_monday-weekday k h =
    eqb-true (days_from_monday (weekday_from_sunday k)) ((k + 6) % 7) (passes_below-at (λ j. nat_eq (days_from_monday (weekday_from_sunday j)) ((j + 6) % 7)) 7 weekdays_tested k h)

pub days_from_sunday_of-bound : (n : ℤ) → days_from_sunday_of n < 7
days_from_sunday_of-bound n = omega (arith, signed)

-- the days since Monday of a day, and its ISO weekday
pub days_from_monday-of : (n : ℤ) → days_from_monday (weekday_of n) ≡ (days_from_sunday_of n + 6) % 7
days_from_monday-of n = days_from_monday-weekday (days_from_sunday_of n) (days_from_sunday_of-bound n)

iso_number : (k : ℕ) → k < 7 → cond (nat_eq k 0) 7 k ≡ (k + 6) % 7 + 1
iso_number k h = grind (arith, nat_tests)

pub iso_weekday_of-monday : (n : ℤ) → iso_weekday_of n ≡ days_from_monday (weekday_of n) + 1
iso_weekday_of-monday n =
    iso_number (days_from_sunday_of n) (days_from_sunday_of-bound n) ∙ ap (λ (k : ℕ). k + 1) (sym (days_from_monday-of n))

-- days of one weekday differ by whole weeks
pub same_weekday : (n : ℤ) (d : Weekday) → days_from_sunday_of n ≡ (days_from_monday d + 1) % 7 → weekday_of n ≡ d
same_weekday n d e = ap weekday_from_sunday e ∙ weekday_from_sunday-days d

-- the Thursday of a day's week
pub thursday_of_week-monday : (n : ℤ) → thursday_of_week n ≡ n +ℤ pos 3 -ℤ pos (days_from_monday (weekday_of n))
thursday_of_week-monday n = omega (arith, signed, iso_weekday_of-monday n)

-- a day's ISO name, where its Thursday is the t-th day of the year y
pub iso_name-thursday : (n y : ℤ) (t : ℕ) → day_number_of_yo y t ≡ thursday_of_week n → IsOrdinalName y t → (iso_year_of n ≡ y) × (iso_week_of n ≡ 1 + (t - 1) / 7)
iso_name-thursday n y t e h =
    (year_of-number (thursday_of_week n) y t e h, ap (λ (o : ℕ). 1 + (o - 1) / 7) (ordinal_of-number (thursday_of_week n) y t e h))

-- the same for a day that is given by its own year and its place there
abbrev pub has_iso_name : ℤ → ℤ → ℕ → Type 0
has_iso_name n y t = (iso_year_of n ≡ y) × (iso_week_of n ≡ (t - 1) / 7 + 1)

pub iso_name-inside : (n y : ℤ) (o f : ℕ) → n ≡ day_number_of_yo y o → f ≡ days_from_monday (weekday_of n) → f < o + 3 → o + 3 - f ≤ year_length y → has_iso_name n y (o + 3 - f)
iso_name-inside n y o f e g low high =
    let found : day_number_of_yo y (o + 3 - f) ≡ thursday_of_week n = omega (arith, signed, thursday_of_week-monday n) in
    let name = iso_name-thursday n y (o + 3 - f) found (omega arith, high) in
    (name.0, omega (arith, name.1))

pub iso_name-before : (n y p : ℤ) (o f : ℕ) → n ≡ day_number_of_yo y o → f ≡ days_from_monday (weekday_of n) → p ≡ y -ℤ pos 1 → 1 ≤ o → o + 3 ≤ f → has_iso_name n p (o + 3 + year_length p - f)
iso_name-before n y p o f e g past low high =
    let bound = days_from_monday-lt (weekday_of n) in
    let next : y ≡ p +ℤ pos 1 = omega (arith, signed) in
    let found : day_number_of_yo p (o + 3 + year_length p - f) ≡ thursday_of_week n = omega (arith, signed, thursday_of_week-monday n, days_before_year-next p y next, year_length_bounds p) in
    let name = iso_name-thursday n p (o + 3 + year_length p - f) found (omega (arith, year_length_bounds p), omega arith) in
    (name.0, omega (arith, name.1))

pub iso_name-after : (n y q : ℤ) (o f : ℕ) → n ≡ day_number_of_yo y o → f ≡ days_from_monday (weekday_of n) → q ≡ y +ℤ pos 1 → o ≤ year_length y → year_length y + f < o + 3 → (iso_year_of n ≡ q) × (iso_week_of n ≡ 1)
iso_name-after n y q o f e g past low high =
    let found : day_number_of_yo q (o + 3 - f - year_length y) ≡ thursday_of_week n = omega (arith, signed, thursday_of_week-monday n, days_before_year-next y q past) in
    let name = iso_name-thursday n q (o + 3 - f - year_length y) found (omega arith, omega (arith, year_length_bounds q)) in
    (name.0, omega (arith, name.1))

-- the ISO year of a date: of the library's years, or the one after
pub last_years : (days_before_year (neg_ℤ (pos 262_143)) ≡ neg_ℤ (pos 95_746_130)) × (days_before_year (pos 262_144) ≡ pos 95_745_764)
last_years = (omega (arith, signed, days_before_year-closed (neg_ℤ (pos 262_143))), omega (arith, signed, days_before_year-closed (pos 262_144)))

-- the first of the dates is a Thursday
thursday_not_before : (n : ℤ) → IsDate n → neg_ℤ (pos 95_746_129) ≤ℤ thursday_of_week n
thursday_not_before n h = omega (arith, signed, thursday_of_week-monday n, days_from_monday-of n, h.0)

pub iso_year_of-range : (n : ℤ) → IsDate n → (neg_ℤ (pos 262_143) ≤ℤ iso_year_of n) × (iso_year_of n ≤ℤ pos 262_143)
iso_year_of-range n h =
    let t = thursday_of_week n in
    let named = ordinal_name_of-number t in
    let y = iso_year_of n in (
      by_lt_z y (neg_ℤ (pos 262_143)) (λ lt. absurd (omega (arith, signed, named.number, named.exists, days_before_year-later y (neg_ℤ (pos 262_143)) lt, last_years.0, thursday_not_before n h))) (λ le. le),
      by_lt_z (pos 262_143) y (λ lt. absurd (omega (arith, signed, named.number, named.exists, days_before_year-next y (y +ℤ pos 1) refl, last_years.1, thursday_of_week-monday n, h.1, later_year y lt))) (λ le. le),
    )
  where
    later_year : (y : ℤ) → pos 262_143 <ℤ y → pos 95_745_764 ≤ℤ days_before_year y
    later_year y lt = by_lt_z (pos 262_144) y (λ more. omega (arith, signed, days_before_year-later (pos 262_144) y more, last_years.1)) (λ le. let same : y ≡ pos 262_144 = omega (arith, signed) in rw same (omega (arith, signed, last_years.1)))

-- the quotients that the leap years before a year are counted by, from the years since a common multiple of 400
leap_quotients : (y : ℤ) (p : ℕ) → pos p ≡ y +ℤ pos 262_399 → (int_div_euclid (y -ℤ pos 1) (pos 4) ≡ pos (p / 4) -ℤ pos 65_600) × (int_div_euclid (y -ℤ pos 1) (pos 100) ≡ pos (p / 100) -ℤ pos 2_624) × (int_div_euclid (y -ℤ pos 1) (pos 400) ≡ pos (p / 400) -ℤ pos 656)
leap_quotients y p e = (omega (arith, signed), omega (arith, signed), omega (arith, signed))

-- the days before the year, counted from the first day of those years
pub days_before_year-counted : (y : ℤ) (p days : ℕ) → pos p ≡ y +ℤ pos 262_399 → days + p / 100 ≡ 1461 * p / 4 + p / 100 / 4 → pos days ≡ days_before_year y +ℤ pos 95_839_632
days_before_year-counted y p days e f = omega (arith, signed, leap_quotients y p e, days_before_year-closed y)

-- the weekday of the last day before the year, from those days, which are whole weeks more
pub days_from_sunday_of-counted : (y : ℤ) (days : ℕ) → pos days ≡ days_before_year y +ℤ pos 95_839_632 → days_from_sunday_of (days_before_year y) ≡ days % 7
days_from_sunday_of-counted y days e = omega (arith, signed)

-- the days from the first Monday of the first week of the year y to 4 January
abbrev pub before_monday : ℤ → ℕ
before_monday y = (days_from_sunday_of (days_before_year y) + 3) % 7
