-- Cycles of 400 years: whole cycles on, years begin whole cycles of days later and repeat, and so do the names of days.
use Rattle.std.proofs.Common.{◌≡◌, ℕ, ◌+◌, ◌*◌, ◌%◌, ◌≤◌, Bool, true, false, cond, refl, ap, ◌∙◌, arith, ℤ, pos, ◌+ℤ◌, ◌*ℤ◌}
use Rattle.std.specs.Int.{int_div_euclid, int_rem_euclid}
use Rattle.std.proofs.lemmas.Bool.Decides.{nat_tests}
use Rattle.chrono_units.specs.Years.{is_leap_year, year_length}
use Rattle.chrono_calendar.specs.Days.{days_before_year, IsOrdinalName, day_number_of_yo, month_of_ordinal, day_of_ordinal, year_of, ordinal_of, month_of, day_of}
use Rattle.chrono_calendar.specs.Weeks.{days_from_sunday_of, thursday_of_week, iso_year_of, iso_week_of}
use Rattle.chrono_calendar.specs.Flags.{flags_of_year, IsYearFlags}
use Rattle.chrono_text.proofs.Signed.{signed}
use Rattle.chrono_calendar.proofs.Years.{leap_day, year_length-leap_day, days_before_year-next, days_before_year-closed}
use Rattle.chrono_calendar.proofs.Names.{ordinal_name_of-number, year_of-number, ordinal_of-number}
use Rattle.chrono_calendar.proofs.IsoWeeks.{days_from_monday-of, thursday_of_week-monday}

days_before_year-shift : (c : ℤ) (y base : ℤ) → y ≡ c *ℤ pos 400 +ℤ base → days_before_year y ≡ days_before_year base +ℤ c *ℤ pos 146_097
days_before_year-shift c y base e = omega (arith, signed, days_before_year-closed y, days_before_year-closed base)

year_length-shift : (c : ℤ) (y base : ℤ) → y ≡ c *ℤ pos 400 +ℤ base → year_length y ≡ year_length base
year_length-shift c y base e =
    omega (arith, signed, days_before_year-shift c y base e, days_before_year-shift c (y +ℤ pos 1) (base +ℤ pos 1) (omega (arith, signed)), days_before_year-next y (y +ℤ pos 1) refl, days_before_year-next base (base +ℤ pos 1) refl)

-- 146,097 days are whole weeks
pub weekday-shift : (c a b : ℤ) → a ≡ b +ℤ c *ℤ pos 146_097 → days_from_sunday_of a ≡ days_from_sunday_of b
weekday-shift c a b e = omega (arith, signed)

-- the two parts of a year's flags
flags_of_year-parts : (y : ℤ) → flags_of_year y + 8 * leap_day y ≡ 9 + (days_from_sunday_of (days_before_year y) + 5) % 7
unfolding flags_of_year
flags_of_year-parts y = grind arith

leap_day-shift : (c : ℤ) (y base : ℤ) → y ≡ c *ℤ pos 400 +ℤ base → leap_day y ≡ leap_day base
leap_day-shift c y base e = omega (arith, year_length-shift c y base e, year_length-leap_day y, year_length-leap_day base)

flags_of_year-shift : (c : ℤ) (y base : ℤ) → y ≡ c *ℤ pos 400 +ℤ base → flags_of_year y ≡ flags_of_year base
flags_of_year-shift c y base e =
    let weekdays = weekday-shift c (days_before_year y) (days_before_year base) (days_before_year-shift c y base e) in
    omega (arith, flags_of_year-parts y, flags_of_year-parts base, leap_day-shift c y base e, ap (λ w. (w + 5) % 7) weekdays)

-- a year has the flags of its year in the cycle
pub flags_of_year-cycle : (y r : ℤ) → r ≡ int_rem_euclid y (pos 400) → flags_of_year y ≡ flags_of_year r
flags_of_year-cycle y r e = flags_of_year-shift (int_div_euclid y (pos 400)) y r (omega (arith, signed))

pub flags_of_year-in_range : (y : ℤ) → IsYearFlags (flags_of_year y)
flags_of_year-in_range y = (omega (arith, flags_of_year-parts y, leap_day-bound y), (λ e. omega (arith, flags_of_year-parts y, leap_day-bound y)))
  where
    leap_day-bound : (y : ℤ) → leap_day y ≤ 1
    leap_day-bound y = grind (arith, nat_tests)

-- ---- the names of the day 400 years on

-- 400 years on, a year begins so many days later, and is as long
pub days_before_year-again : (y z : ℤ) → z ≡ y +ℤ pos 400 → days_before_year z ≡ days_before_year y +ℤ pos 146_097
days_before_year-again y z e = omega (arith, signed, days_before_year-closed y, days_before_year-closed z)

pub year_length-again : (y z : ℤ) → z ≡ y +ℤ pos 400 → year_length z ≡ year_length y
year_length-again y z e = year_length-shift (pos 1) z y (omega (arith, signed, e))

-- years with so many days are leap, or not, alike
abbrev length_in : Bool → ℕ
length_in leap = cond leap 366 365

same_kind : (a b : Bool) → length_in a ≡ length_in b → a ≡ b
same_kind true true e = refl
same_kind true false e = absurd (omega (arith, e))
same_kind false true e = absurd (omega (arith, e))
same_kind false false e = refl

pub is_leap_year-again : (y z : ℤ) → z ≡ y +ℤ pos 400 → is_leap_year z ≡ is_leap_year y
is_leap_year-again y z e = same_kind (is_leap_year z) (is_leap_year y) (year_length-again y z e)

pub ordinal_name-again : (n m : ℤ) → m ≡ n +ℤ pos 146_097 → (year_of m ≡ year_of n +ℤ pos 400) × (ordinal_of m ≡ ordinal_of n)
ordinal_name-again n m e =
    let named = ordinal_name_of-number n in
    let y = year_of n in
    let later : ℤ = y +ℤ pos 400 in
    let number : day_number_of_yo later (ordinal_of n) ≡ m = omega (arith, signed, named.number, days_before_year-again y later refl) in
    let exists : IsOrdinalName later (ordinal_of n) = (named.exists.0, omega (arith, named.exists.1, year_length-again y later refl)) in
    (year_of-number m later (ordinal_of n) number exists, ordinal_of-number m later (ordinal_of n) number exists)

pub calendar_name-again : (n m : ℤ) → m ≡ n +ℤ pos 146_097 → (month_of m ≡ month_of n) × (day_of m ≡ day_of n)
calendar_name-again n m e =
    let again = ordinal_name-again n m e in
    let kind = is_leap_year-again (year_of n) (year_of m) again.0 in (
      ap (λ l. month_of_ordinal l (ordinal_of m)) kind ∙ ap (month_of_ordinal (is_leap_year (year_of n))) again.1,
      ap (λ l. day_of_ordinal l (ordinal_of m)) kind ∙ ap (day_of_ordinal (is_leap_year (year_of n))) again.1,
    )

pub iso_name-again : (n m : ℤ) → m ≡ n +ℤ pos 146_097 → (iso_year_of m ≡ iso_year_of n +ℤ pos 400) × (iso_week_of m ≡ iso_week_of n)
iso_name-again n m e =
    let later : thursday_of_week m ≡ thursday_of_week n +ℤ pos 146_097 = omega (arith, signed, thursday_of_week-monday n, thursday_of_week-monday m, days_from_monday-of n, days_from_monday-of m) in
    let again = ordinal_name-again (thursday_of_week n) (thursday_of_week m) later in
    (again.0, omega (arith, again.1))
