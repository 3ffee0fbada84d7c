-- The best instant so far is no earlier than each that a local time behind this one fires at.
use Rattle.std.proofs.Common.{◌≡◌, true, pos, ◌+ℤ◌, ◌<ℤ◌, IfSome, unsigned_abs}
use Rattle.chrono_datetime.specs.Moment.{IsMoment}
use Rattle.chrono_instant.specs.Instants.{epoch_second}
use Rattle.chrono_cron.specs.Due.{is_due}
use Rattle.zoned_cron.specs.Fires.{Fires}
use Rattle.zoned_cron.specs.Private.{CoversBehind}
use Rattle.zoned_cron.proofs.schedule.ZonedSchedule.last_before.Given as goal

abbrev pub invariant-loop-local : goal.invariant-loop-local
invariant-loop-local g l =
    IsMoment l.local × (is_due l.self.schedule.sets l.local ≡ true)
    × CoversBehind l.self.schedule.sets (g.Z.TimeZone.ahead l.self.zone) l.self.policy l.fn.end (epoch_second l.local) l.best
    × IfSome l.best (λ c. (c <ℤ l.fn.end) × Fires l.self.schedule.sets (g.Z.TimeZone.ahead l.self.zone) l.self.policy c)

abbrev pub decreases-loop-local : goal.decreases-loop-local
decreases-loop-local g l = unsigned_abs (epoch_second l.local +ℤ pos 8_334_601_228_801)
