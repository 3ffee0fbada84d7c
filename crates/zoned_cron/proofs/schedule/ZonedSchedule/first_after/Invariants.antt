-- The schedule fires at no instant after the start and up to this second.
use Rattle.std.proofs.Common.{pos, ◌-ℤ◌, ◌≤ℤ◌, ◌<ℤ◌, ℤ, unsigned_abs}
use Rattle.chrono_instant.specs.Instants.{IsEpochSecond}
use Rattle.zoned_cron.specs.Fires.{Fires}
use Rattle.zoned_cron.proofs.schedule.ZonedSchedule.first_after.Given as goal

abbrev pub invariant-loop-next : goal.invariant-loop-next
invariant-loop-next g l =
    IsEpochSecond l.second × (l.fn.start ≤ℤ l.second)
    × ((u : ℤ) → l.fn.start <ℤ u → Fires l.self.schedule.sets (g.Z.TimeZone.ahead l.self.zone) l.self.policy u → l.second <ℤ u)

abbrev pub decreases-loop-next : goal.decreases-loop-next
decreases-loop-next g l = unsigned_abs (pos 8_210_266_876_799 -ℤ l.second)
