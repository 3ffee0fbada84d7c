-- No moment that is due was passed over, and no year after `year` comes any more.
use Rattle.std.proofs.Common.{pos, neg_ℤ, ◌≤ℤ◌, ◌-ℤ◌, unsigned_abs}
use Rattle.timed_cron.proofs.YearSteps.{IsPrevFrom}
use Rattle.timed_cron.proofs.timed_schedule.TimedSchedule.prev_in_years.Given as goal

abbrev pub invariant-loop-previous : goal.invariant-loop-previous
invariant-loop-previous l = (neg_ℤ (pos 262_143) ≤ℤ l.year) × IsPrevFrom l.fn.self l.fn.years l.fn.start l.from l.year

abbrev pub decreases-loop-previous : goal.decreases-loop-previous
decreases-loop-previous l = unsigned_abs (l.year -ℤ neg_ℤ (pos 262_144))
