-- No year so far is in the set.
use Rattle.std.proofs.Common.{pos, ◌≤ℤ◌, ◌-ℤ◌, unsigned_abs}
use Rattle.timed_cron.specs.Years.{NoYearIn}
use Rattle.timed_cron.proofs.year_set.YearSet.first_from.Given as goal

abbrev pub invariant-loop-year : goal.invariant-loop-year
invariant-loop-year l = (pos 1_970 ≤ℤ l.year) × (l.year ≤ℤ pos 2_100) × NoYearIn l.fn.self l.fn.from l.year

abbrev pub decreases-loop-year : goal.decreases-loop-year
decreases-loop-year l = unsigned_abs (pos 2_100 -ℤ l.year)
