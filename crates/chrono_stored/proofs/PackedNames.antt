-- Dates packed into one number: what is read back.
use Rattle.std.proofs.Common.{◌≡◌, ℕ, ◌+◌, ◌%◌, ◌≤◌, true, false, cond, refl, sym, ◌∙◌, ap, arith, ℤ, pos, FitsSigned, w32}
use Rattle.std.specs.Int.{int_rem_euclid}
use Rattle.chrono_units.specs.Years.{IsYear, is_leap_year}
use Rattle.chrono_units.specs.Weekday.{weekday_from_monday, weekday_from_sunday}
use Rattle.chrono_calendar.specs.Days.{days_before_year, IsOrdinalName, day_number_of_yo, year_of, ordinal_of}
use Rattle.chrono_calendar.specs.Weeks.{days_from_sunday_of}
use Rattle.chrono_calendar.specs.Flags.{flags_of_year}
use Rattle.chrono_stored.specs.PackedName.{packed_name, packed_year, packed_ordinal, IsPackedName}
use Rattle.chrono_calendar.proofs.Signed.{signed}
use Rattle.chrono_stored.proofs.WeekRemainders.{weekdays_agree}
use Rattle.chrono_calendar.proofs.Names.{year_length_bounds, year_of-number, ordinal_of-number}

-- flags are a number of four binary digits that is not 0
pub flags_of_year_bounds : (y : ℤ) → (1 ≤ flags_of_year y) × (flags_of_year y ≤ 15)
unfolding flags_of_year
flags_of_year_bounds y = (grind arith, grind arith)

-- a packed name is read back
pub packed_name-year : (y : ℤ) (o : ℕ) → IsOrdinalName y o → packed_year (packed_name y o) ≡ y
packed_name-year y o h = omega (arith, signed, year_length_bounds y, flags_of_year_bounds y)

pub packed_name-ordinal : (y : ℤ) (o : ℕ) → IsOrdinalName y o → packed_ordinal (packed_name y o) ≡ o
packed_name-ordinal y o h = omega (arith, signed, year_length_bounds y, flags_of_year_bounds y)

-- what is packed from a year of the range and a day of it is stored so
pub IsPackedName-made : (y : ℤ) (o : ℕ) → IsYear y → IsOrdinalName y o → IsPackedName (packed_name y o)
IsPackedName-made y o h k = record {
  year = rw (packed_name-year y o k) h;
  exists = rw (packed_name-year y o k, packed_name-ordinal y o k) k;
  flags = rw (packed_name-year y o k, packed_name-ordinal y o k) refl;
}

-- a stored number is an i32
IsPackedName-fits : (z : ℤ) → IsPackedName z → FitsSigned w32 z
IsPackedName-fits z h =
    omega (arith, signed, h.year, h.exists, h.flags, year_length_bounds (packed_year z), flags_of_year_bounds (packed_year z))

-- the number z stores the day n
pub record IsStored (z n : ℤ) : Type 0 where
  pub year : packed_year z ≡ year_of n
  pub ordinal : packed_ordinal z ≡ ordinal_of n
  pub number : z ≡ packed_name (year_of n) (ordinal_of n)
  pub fits : FitsSigned w32 z
  pub in_range : IsYear (year_of n)
  pub exists : IsOrdinalName (year_of n) (ordinal_of n)

-- a stored number and the day that it means
pub IsPackedName-stored : (z n : ℤ) → IsPackedName z → day_number_of_yo (packed_year z) (packed_ordinal z) ≡ n → IsStored z n
IsPackedName-stored z n h e =
    let years = year_of-number n (packed_year z) (packed_ordinal z) e h.exists in
    let ordinals = ordinal_of-number n (packed_year z) (packed_ordinal z) e h.exists in
    record {
      year = sym years;
      ordinal = sym ordinals;
      number = rw (years, ordinals) h.flags;
      fits = IsPackedName-fits z h;
      in_range = rw years h.year;
      exists = rw (years, ordinals) h.exists;
    }

-- the low four digits are the flags of the year
pub flags-read : (z n : ℤ) (f : ℕ) → IsStored z n → pos f ≡ int_rem_euclid z (pos 16) → f ≡ flags_of_year (year_of n)
flags-read z n f h e = omega (arith, signed, h.number, flags_of_year_bounds (year_of n))

-- and the low three of those tell the weekday of each day
low_digits : (y : ℤ) → flags_of_year y % 8 ≡ (days_from_sunday_of (days_before_year y) + 5) % 7 + 1
unfolding flags_of_year
low_digits y = elim (is_leap_year y) as (λ b. (cond b 0 8 + ((days_from_sunday_of (days_before_year y) + 5) % 7 + 1)) % 8 ≡ (days_from_sunday_of (days_before_year y) + 5) % 7 + 1) [ true ↦ omega arith | false ↦ omega arith ]

from_monday : (y : ℤ) (o : ℕ) → (o + flags_of_year y % 8) % 7 ≡ (days_from_sunday_of (day_number_of_yo y o) + 6) % 7
from_monday y o = omega (arith, signed, low_digits y)

pub weekday-flags : (y : ℤ) (o : ℕ) → weekday_from_monday ((o + flags_of_year y % 8) % 7) ≡ weekday_from_sunday (days_from_sunday_of (day_number_of_yo y o))
weekday-flags y o =
    ap weekday_from_monday (from_monday y o) ∙ weekdays_agree (days_from_sunday_of (day_number_of_yo y o)) (omega (arith, signed))
