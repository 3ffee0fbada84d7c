-- The ISO week of a day from its ordinal and its year's flags.
use Rattle.std.proofs.Common.{◌≡◌, ℕ, Bool, ◌||◌, int_eq, int_lt, ◌+◌, ◌-◌, ◌/◌, ◌%◌, ◌<◌, ◌≤◌, ◌⊎◌, inl, inr, true, false, cond, nat_eq, nat_lt, refl, ap, ◌∙◌, arith, ℤ, pos, ◌+ℤ◌, ◌-ℤ◌}
use Rattle.std.proofs.lemmas.Bool.{cases_lt}
use Rattle.std.proofs.lemmas.Bool.Decides.{nat_tests}
use Rattle.std.proofs.lemmas.Int.{ints}
use Rattle.chrono_units.specs.Years.{is_leap_year, year_length}
use Rattle.chrono_calendar.specs.Days.{days_before_year, days_of_months_in, IsOrdinalName, day_number_of_yo, day_number_of_ymd}
use Rattle.chrono_calendar.specs.Weeks.{days_from_sunday_of, iso_weekday_of, thursday_of_week, iso_year_of, iso_week_of}
use Rattle.chrono_calendar.specs.Flags.{flags_of_year, weeks_of_iso_year, week_counted_in}
use Rattle.chrono_text.proofs.Signed.{signed}
use Rattle.chrono_calendar.proofs.Years.{days_before_year-next}
use Rattle.chrono_calendar.proofs.Names.{year_of-number, ordinal_of-number, year_length_bounds}
use Rattle.chrono_calendar.proofs.IsoWeeks.{before_monday, days_from_sunday_of-bound}

-- the digits of the flags that name a weekday, and what is added to an ordinal to count weeks
abbrev weekday_digits : ℤ → ℕ
weekday_digits y = (days_from_sunday_of (days_before_year y) + 5) % 7 + 1

abbrev pub week_delta : ℤ → ℕ
week_delta y = weekday_digits y + (cond (nat_lt (weekday_digits y) 3) 7 0)

week_delta-parts : (w : ℕ) → w < 7 → (let d = (w + 5) % 7 + 1 in (4 ≤ w) × (d + cond (nat_lt d 3) 7 0 ≡ w - 1) ⊎ ((w < 4) × (d + cond (nat_lt d 3) 7 0 ≡ w + 6)))
week_delta-parts w h = grind (arith, nat_tests)

parts_of : (k : ℕ) → k < 7 → (1 ≤ cond (nat_eq k 0) 7 k) × (cond (nat_eq k 0) 7 k ≤ 7) × (cond (nat_eq k 0) 7 k % 7 ≡ k)
parts_of k h = (grind (arith, nat_tests), grind (arith, nat_tests), grind (arith, nat_tests))

-- the weekday of a day of the year y
weekday-in_year : (y : ℤ) (o : ℕ) → days_from_sunday_of (day_number_of_yo y o) ≡ (days_from_sunday_of (days_before_year y) + o) % 7
weekday-in_year y o = omega (arith, signed)

weeks : (w i o d : ℕ) → w < 7 → 1 ≤ i → i ≤ 7 → i % 7 ≡ (w + o) % 7 → ((4 ≤ w) × (d ≡ w - 1)) ⊎ ((w < 4) × (d ≡ w + 6)) → (o + d) / 7 ≡ (o + 10 - i) / 7
weeks w i o d h low high e c = grind arith

-- with the delta of its year an ordinal gives the week that its Thursday has, counted in that year
week_of_ordinal : (y : ℤ) (o : ℕ) → (o + week_delta y) / 7 ≡ (o + 10 - iso_weekday_of (day_number_of_yo y o)) / 7
week_of_ordinal y o =
    let n = day_number_of_yo y o in
    let p = parts_of (days_from_sunday_of n) (days_from_sunday_of-bound n) in
    weeks (days_from_sunday_of (days_before_year y)) (iso_weekday_of n) o (week_delta y) (days_from_sunday_of-bound (days_before_year y)) p.0 p.1 (p.2 ∙ weekday-in_year y o) (week_delta-parts (days_from_sunday_of (days_before_year y)) (days_from_sunday_of-bound (days_before_year y)))

-- where the Thursday lies in the year, that is its ISO week
iso_week_of-inside : (y : ℤ) (o t : ℕ) → t + iso_weekday_of (day_number_of_yo y o) ≡ o + 4 → IsOrdinalName y t → (iso_year_of (day_number_of_yo y o) ≡ y) × (iso_week_of (day_number_of_yo y o) ≡ (o + week_delta y) / 7)
iso_week_of-inside y o t e h =
    let n = day_number_of_yo y o in
    let found : day_number_of_yo y t ≡ thursday_of_week n = omega (arith, signed) in
    (year_of-number (thursday_of_week n) y t found h, rw (week_of_ordinal y o, ordinal_of-number (thursday_of_week n) y t found h) (omega (arith, h.0)))

iso_weekday_of-bounds : (n : ℤ) → (1 ≤ iso_weekday_of n) × (iso_weekday_of n ≤ 7)
iso_weekday_of-bounds n = let p = parts_of (days_from_sunday_of n) (days_from_sunday_of-bound n) in (p.0, p.1)

-- the weekday some days later
iso_weekday_of-later : (n m : ℤ) (k : ℕ) → m ≡ n +ℤ pos k → iso_weekday_of m % 7 ≡ (iso_weekday_of n + k) % 7
iso_weekday_of-later n m k e =
    let p = parts_of (days_from_sunday_of n) (days_from_sunday_of-bound n) in
    let q = parts_of (days_from_sunday_of m) (days_from_sunday_of-bound m) in
    let days : days_from_sunday_of m ≡ (days_from_sunday_of n + k) % 7 = omega (arith, signed) in
    omega (arith, p.2, q.2, days)

fourth_last : (leap : Bool) → days_of_months_in leap 11 + 28 ≡ cond leap 366 365 - 3
unfolding days_of_months_in
fourth_last true = refl
fourth_last false = refl

-- 28 December is the fourth day from the year's end
december_28 : (y : ℤ) → day_number_of_ymd y 12 28 ≡ day_number_of_yo y (year_length y - 3)
december_28 y = ap (λ o. day_number_of_yo y o) (fourth_last (is_leap_year y))

-- its week is the last
weeks_of_iso_year-delta : (y : ℤ) → weeks_of_iso_year y ≡ (year_length y - 3 + week_delta y) / 7
unfolding weeks_of_iso_year
weeks_of_iso_year-delta y =
    let n = day_number_of_yo y (year_length y - 3) in
    let w = iso_weekday_of-bounds n in
    let l = year_length_bounds y in
    rw (december_28 y) ((iso_week_of-inside y (year_length y - 3) (year_length y + 1 - iso_weekday_of n) (omega arith) (omega arith, omega arith)).1)

-- so the year has the weeks that begin from its first Monday on and have their Thursday in it
week_delta-monday : (w : ℕ) → w < 7 → (let d = (w + 5) % 7 + 1 in d + cond (nat_lt d 3) 7 0 ≡ (w + 3) % 7 + 3)
week_delta-monday w h = grind (arith, nat_tests)

pub weeks_of_iso_year-length : (y : ℤ) → weeks_of_iso_year y ≡ (year_length y + before_monday y) / 7
weeks_of_iso_year-length y =
    let delta = week_delta-monday (days_from_sunday_of (days_before_year y)) (days_from_sunday_of-bound (days_before_year y)) in
    omega (arith, weeks_of_iso_year-delta y, delta, year_length_bounds y)

-- a day whose Thursday lies before the year is of the ISO year before
iso_year_of-before : (y : ℤ) (o : ℕ) → IsOrdinalName y o → o + 4 ≤ iso_weekday_of (day_number_of_yo y o) → iso_year_of (day_number_of_yo y o) ≡ y -ℤ pos 1
iso_year_of-before y o h before =
    let n = day_number_of_yo y o in
    let w = iso_weekday_of-bounds n in
    let l = year_length_bounds (y -ℤ pos 1) in
    let t = year_length (y -ℤ pos 1) + o + 4 - iso_weekday_of n in
    let found : day_number_of_yo (y -ℤ pos 1) t ≡ thursday_of_week n = omega (arith, signed, days_before_year-next (y -ℤ pos 1) y (omega (arith, signed))) in
    year_of-number (thursday_of_week n) (y -ℤ pos 1) t found (omega arith, omega arith)

-- and one whose Thursday lies after it, of the next
iso_year_of-after : (y : ℤ) (o : ℕ) → IsOrdinalName y o → year_length y + iso_weekday_of (day_number_of_yo y o) < o + 4 → iso_year_of (day_number_of_yo y o) ≡ y +ℤ pos 1
iso_year_of-after y o h after =
    let n = day_number_of_yo y o in
    let w = iso_weekday_of-bounds n in
    let l = year_length_bounds (y +ℤ pos 1) in
    let t = o + 4 - iso_weekday_of n - year_length y in
    let found : day_number_of_yo (y +ℤ pos 1) t ≡ thursday_of_week n = omega (arith, signed, days_before_year-next y (y +ℤ pos 1) refl) in
    year_of-number (thursday_of_week n) (y +ℤ pos 1) t found (omega arith, omega arith)

-- the week counted in the year y of a day whose ISO year is y itself, the one before, and the one after
counted_here : (y : ℤ) (a b c : ℕ) → cond (int_eq y y) a (cond (int_lt y y) b c) ≡ a
counted_here y a b c = grind (arith, ints)

counted_before : (y : ℤ) (a b c : ℕ) → cond (int_eq (y -ℤ pos 1) y) a (cond (int_lt (y -ℤ pos 1) y) b c) ≡ b
counted_before y a b c = grind (arith, ints)

counted_after : (y : ℤ) (a b c : ℕ) → cond (int_eq (y +ℤ pos 1) y) a (cond (int_lt (y +ℤ pos 1) y) b c) ≡ c
counted_after y a b c = grind (arith, ints)

-- the last days of a year whose Thursday lies after it are in the week after that of 28 December
week_after : (y : ℤ) (o : ℕ) → IsOrdinalName y o → year_length y + iso_weekday_of (day_number_of_yo y o) < o + 4 → weeks_of_iso_year y + 1 ≡ (o + week_delta y) / 7
week_after y o h after =
    let last = year_length y - 3 in
    let n = day_number_of_yo y last in
    let m = day_number_of_yo y o in
    let w = iso_weekday_of-bounds n in
    let v = iso_weekday_of-bounds m in
    let l = year_length_bounds y in
    let later = iso_weekday_of-later n m (o - last) (omega (arith, signed)) in
    rw (weeks_of_iso_year-delta y, week_of_ordinal y last, week_of_ordinal y o) (omega arith)

pub week_counted_in-delta : (y : ℤ) (o : ℕ) → IsOrdinalName y o → week_counted_in y o ≡ (o + week_delta y) / 7
unfolding week_counted_in
week_counted_in-delta y o h =
    let n = day_number_of_yo y o in
    let w = iso_weekday_of-bounds n in
    elim (cases_lt (iso_weekday_of n) (o + 4)) [
      | inr before ↦ rw (iso_year_of-before y o h before, counted_before y, week_of_ordinal y o) (omega arith)
      | inl more ↦
          elim (cases_lt (year_length y + iso_weekday_of n) (o + 4)) [
            | inr within ↦
                let inside = iso_week_of-inside y o (o + 4 - iso_weekday_of n) (omega arith) (omega arith, omega arith) in
                rw (inside.0, counted_here y) inside.1
            | inl after ↦ rw (iso_year_of-after y o h after, counted_after y) (week_after y o h after)
          ]
    ]

-- the flags are 8 in a common year and the digits of the weekday
flags_of_year-digits : (y : ℤ) → flags_of_year y ≡ cond (is_leap_year y) 0 8 + weekday_digits y
unfolding flags_of_year
flags_of_year-digits y = refl

-- so the flags give the year's kind and length, the delta and the weeks
pub is_leap_year-flags : (y : ℤ) (f : ℕ) → f ≡ flags_of_year y → is_leap_year y ≡ nat_lt f 8
is_leap_year-flags y f e = leap_of (is_leap_year y) f (weekday_digits y) (e ∙ flags_of_year-digits y) (omega arith, omega arith)
  where
    leap_of : (leap : Bool) (f d : ℕ) → f ≡ cond leap 0 8 + d → (1 ≤ d) × (d ≤ 7) → leap ≡ nat_lt f 8
    leap_of true f d e h = grind (arith, nat_tests)
    leap_of false f d e h = grind (arith, nat_tests)

pub year_length-flags : (y : ℤ) (f : ℕ) → f ≡ flags_of_year y → year_length y ≡ cond (nat_lt f 8) 366 365
year_length-flags y f e = let d = flags_of_year-digits y in grind (arith, nat_tests)

pub week_delta-flags : (y : ℤ) (f : ℕ) → f ≡ flags_of_year y → week_delta y ≡ f % 8 + cond (nat_lt (f % 8) 3) 7 0
week_delta-flags y f e =
    let digits : weekday_digits y ≡ f % 8 = digits_of (is_leap_year y) f (weekday_digits y) (e ∙ flags_of_year-digits y) (omega arith, omega arith) in
    ap (λ d. d + cond (nat_lt d 3) 7 0) digits
  where
    digits_of : (leap : Bool) (f d : ℕ) → f ≡ cond leap 0 8 + d → (1 ≤ d) × (d ≤ 7) → d ≡ f % 8
    digits_of leap f d e h = grind arith

weeks_in : (leap : Bool) (f d : ℕ) → f ≡ cond leap 0 8 + d → (1 ≤ d) × (d ≤ 7) → (cond leap 366 365 - 3 + (d + cond (nat_lt d 3) 7 0)) / 7 ≡ cond (nat_eq f 1 || nat_eq f 2 || nat_eq f 10) 53 52
weeks_in leap f d e h = grind (arith, nat_tests)

pub weeks_of_iso_year-flags : (y : ℤ) (f : ℕ) → f ≡ flags_of_year y → weeks_of_iso_year y ≡ cond (nat_eq f 1 || nat_eq f 2 || nat_eq f 10) 53 52
weeks_of_iso_year-flags y f e =
    let digits = flags_of_year-digits y in
    rw (weeks_of_iso_year-delta y) (weeks_in (is_leap_year y) f (weekday_digits y) (e ∙ digits) (omega arith, omega arith))
