use Rattle.std.proofs.Common.{subst}
use Rattle.zone.specs.Parts.{zone_offset}
use Rattle.zoned_cron.specs.declared.policy.Policy.{Policy}
use Rattle.layers_c.specs.ZonedSchedules.{IsNextBy}
use Rattle.layers_c.proofs.zoned_schedules.next_firing.Goals as goal

pub returns-clause-next : goal.returns-clause-next
returns-clause-next c = λ shows.
    let by : Policy → Type 0 = λ p. IsNextBy c.args.schedule.sets (zone_offset c.args.zone.now) p c.args.start c.next_by.result in
    let found = c.next_by.ensures.next shows in
    record { clock = λ follows. subst by (c.vixie.ensures.clock follows) found; fixed = λ stays. subst by (c.vixie.ensures.fixed stays) found }
