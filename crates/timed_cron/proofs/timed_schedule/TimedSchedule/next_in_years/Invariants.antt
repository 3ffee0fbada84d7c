-- No moment that is due was passed over, and no year before `year` comes any more.
use Rattle.std.proofs.Common.{pos, ◌≤ℤ◌, ◌-ℤ◌, unsigned_abs}
use Rattle.timed_cron.proofs.YearSteps.{IsNextFrom}
use Rattle.timed_cron.proofs.timed_schedule.TimedSchedule.next_in_years.Given as goal

abbrev pub invariant-loop-next : goal.invariant-loop-next
invariant-loop-next l = (l.year ≤ℤ pos 262_142) × IsNextFrom l.fn.self l.fn.years l.fn.start l.from l.year

abbrev pub decreases-loop-next : goal.decreases-loop-next
decreases-loop-next l = unsigned_abs (pos 262_143 -ℤ l.year)
