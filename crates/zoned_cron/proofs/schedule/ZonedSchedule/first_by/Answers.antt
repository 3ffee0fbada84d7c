use Rattle.chrono_instant.specs.Instants.{epoch_second}
use Rattle.zoned_cron.proofs.HeldInstants.{begins_sooner}
use Rattle.zoned_cron.proofs.Settled.{shown_later}
use Rattle.zoned_cron.proofs.ShownOnce.{next_between}
use Rattle.zoned_cron.proofs.schedule.ZonedSchedule.first_by.Goals as goal

pub instant_ahead-requires-clause-begun : goal.instant_ahead-requires-clause-begun
instant_ahead-requires-clause-begun g c =
    let z = c.args.self.now in
    let held = c.args.held.now in
    let start = c.args.start.now in
    let planned = c.in-Some.planned in
    begins_sooner (g.Z.TimeZone.ahead z.zone) held (epoch_second start) (epoch_second planned) c.requires.held c.requires.begun (shown_later z held.offset start planned c.in-Some.ensures)

pub returns-in-Some-instant_ahead : goal.returns-in-Some-instant_ahead
returns-in-Some-instant_ahead g c =
    next_between g.Z.TimeZone.ahead c.args.self.now c.args.held.now c.args.start.now c.in-Some.planned c.in-Some-instant_ahead.found c.requires.held c.requires.begun c.in-Some.ensures c.in-Some-instant_ahead.ensures
