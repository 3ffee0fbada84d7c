-- What the numbers of C say, where they say something.
use Rattle.std.specs.Prelude.{ℕ, ◌-◌, ◌&&◌, nat_le, if◌then◌else◌, ℤ, Option, Some, None}
use Rattle.chrono_units.specs.Years.{is_year, month_length}
use Rattle.chrono_units.specs.Weekday.{weekday_from_monday}
use Rattle.chrono_units.specs.declared.weekday.Weekday.{Weekday}

-- the weekday with a number of ISO 8601, 1 for Monday to 7 for Sunday
abbrev pub weekday_numbered : ℕ → Option Weekday
weekday_numbered n = if nat_le 1 n && nat_le n 7 then Some (weekday_from_monday (n - 1)) else None

-- the days of the month m of a year that has dates
abbrev pub days_in_month : ℤ → ℕ → Option ℕ
days_in_month y m = if is_year y && (nat_le 1 m && nat_le m 12) then Some (month_length y m) else None
