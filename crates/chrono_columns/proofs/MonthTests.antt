-- Months counted from March of the year -262,400, and the moves that the library has no date for.
use Rattle.std.proofs.Common.{ℤ, pos, neg_ℤ, ◌+ℤ◌, ◌-ℤ◌, ◌≤ℤ◌, ◌<ℤ◌, arith}
use Rattle.chrono_units.specs.Years.{IsYear}
use Rattle.chrono_calendar.specs.MonthMoves.{year_of_month_index}
use Rattle.chrono_calendar.proofs.Signed.{signed}

-- a month of the library is less than 7,000,000 months from any other
pub near_month : (begun k : ℤ) → pos 0 ≤ℤ begun → begun <ℤ pos 7_000_000 → IsYear (year_of_month_index (begun +ℤ k -ℤ pos 3_148_798)) → (neg_ℤ (pos 7_000_000) <ℤ k) × (k <ℤ pos 7_000_000)
near_month begun k low high year = (omega (arith, signed, low, high, year), omega (arith, signed, low, high, year))
