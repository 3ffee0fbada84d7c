-- No year so far is in the set.
use Rattle.std.proofs.Common.{◌≡◌, pos, ◌≤ℤ◌, ◌<ℤ◌, ◌-ℤ◌, ℤ, false, unsigned_abs}
use Rattle.timed_cron.specs.Years.{has_year}
use Rattle.timed_cron.proofs.year_set.YearSet.last_to.Given as goal

abbrev pub invariant-loop-year : goal.invariant-loop-year
invariant-loop-year l = (pos 1_969 ≤ℤ l.year) × (l.year ≤ℤ pos 2_099) × ((z : ℤ) → l.year <ℤ z → z ≤ℤ l.fn.to → has_year l.fn.self z ≡ false)

abbrev pub decreases-loop-year : goal.decreases-loop-year
decreases-loop-year l = unsigned_abs (l.year -ℤ pos 1_969)
