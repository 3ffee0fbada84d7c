use Rattle.std.proofs.Common.{◌≡◌, ℕ, ℤ, pos, ◌+ℤ◌, ◌-ℤ◌, arith, unsigned_abs, to_z, of_z, w32}
use Rattle.chrono_text.proofs.Signed.{casts}
use Rattle.chrono_calendar.proofs.IsoWeeks.{days_before_year-counted}
use Rattle.chrono_calendar.proofs.counted_years.days_counted_before.Goals as goal

-- the years before a year as the code counts them
abbrev years_counted : ℤ → ℕ
years_counted y = unsigned_abs (to_z w32 (of_z w32 (to_z w32 (of_z w32 (to_z w32 (of_z w32 y) -ℤ pos 1)) +ℤ pos 262_400)))

pub returns : goal.returns
returns c =
    let years : pos (years_counted c.args.year) ≡ c.args.year +ℤ pos 262_399 = omega (arith, casts) in
    days_before_year-counted c.args.year (years_counted c.args.year) _ years (omega arith)
