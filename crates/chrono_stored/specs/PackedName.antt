-- The number that stores a date's year, its place there and the year's flags.
use Rattle.std.specs.Prelude.{◌≡◌, ℕ, ◌+◌, ◌*◌, ◌/◌, ℤ, pos, ◌+ℤ◌, ◌*ℤ◌, unsigned_abs}
use Rattle.std.specs.Int.{int_div_euclid, int_rem_euclid}
use Rattle.chrono_units.specs.Years.{IsYear}
use Rattle.chrono_calendar.specs.Days.{IsOrdinalName}
use Rattle.chrono_calendar.specs.Flags.{flags_of_year}

-- a year and an ordinal as one number: the year above 13 binary digits, the ordinal above four, and the year's flags
abbrev pub packed_name : ℤ → ℕ → ℤ
packed_name y o = y *ℤ pos 8192 +ℤ pos (o * 16 + flags_of_year y)

-- the year in a stored number
abbrev pub packed_year : ℤ → ℤ
packed_year z = int_div_euclid z (pos 8192)

-- the ordinal in a stored number
abbrev pub packed_ordinal : ℤ → ℕ
packed_ordinal z = unsigned_abs (int_rem_euclid z (pos 8192)) / 16

-- the number z stores a date
pub record IsPackedName (z : ℤ) : Type 0 where
  pub year : IsYear (packed_year z)
  pub exists : IsOrdinalName (packed_year z) (packed_ordinal z)
  pub flags : z ≡ packed_name (packed_year z) (packed_ordinal z)
