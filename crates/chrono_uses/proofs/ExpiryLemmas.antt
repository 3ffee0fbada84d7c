-- What the days of expiry have in common: Fridays, and months that are long enough.
use Rattle.std.proofs.Common.{◌≡◌, ◌≤◌, ℤ, true, refl, arith}
use Rattle.chrono_datetime.specs.MonthMoves.{month_length_of}
use Rattle.chrono_datetime.specs.WeekdaySet.{contains, single}
use Rattle.chrono_datetime.specs.declared.Weekday.{Weekday}
use Rattle.chrono_datetime.specs.declared.Weekday.TheVariants.{Mon, Tue, Wed, Thu, Fri, Sat, Sun}

-- a day of the set of Fridays is a Friday
pub friday : (d : Weekday) → contains (single Fri) d ≡ true → d ≡ Fri
friday = elim [ Mon ↦ λ e. cc | Tue ↦ λ e. cc | Wed ↦ λ e. cc | Thu ↦ λ e. cc | Fri ↦ λ e. refl | Sat ↦ λ e. cc | Sun ↦ λ e. cc ]

-- a month has four weeks or more
pub long : (n : ℤ) → 28 ≤ month_length_of n
long n = grind arith
