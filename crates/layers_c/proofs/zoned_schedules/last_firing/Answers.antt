use Rattle.std.proofs.Common.{subst}
use Rattle.zone.specs.Parts.{zone_offset}
use Rattle.zoned_cron.specs.declared.policy.Policy.{Policy}
use Rattle.layers_c.specs.ZonedSchedules.{IsLastBy}
use Rattle.layers_c.proofs.zoned_schedules.last_firing.Goals as goal

pub returns-clause-last : goal.returns-clause-last
returns-clause-last c = λ shows.
    let by : Policy → Type 0 = λ p. IsLastBy c.args.schedule.sets (zone_offset c.args.zone.now) p c.args.start c.last_by.result in
    let found = c.last_by.ensures.last shows in
    record { clock = λ follows. subst by (c.vixie.ensures.clock follows) found; fixed = λ stays. subst by (c.vixie.ensures.fixed stays) found }
