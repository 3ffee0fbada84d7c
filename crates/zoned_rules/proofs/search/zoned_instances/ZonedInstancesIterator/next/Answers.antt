use Rattle.std.proofs.Common.{subst}
use Rattle.chrono_datetime.specs.Moment.{IsMoment, Moment}
use Rattle.zoned_rules.proofs.GivenInstances.{goes_on}
use Rattle.zoned_rules.proofs.search.zoned_instances.ZonedInstancesIterator.next.Goals as goal

pub returns-clause-goes : goal.returns-clause-goes
returns-clause-goes g c =
    let z = c.args.self.now.rule in
    let is = subst (λ (m : Moment). IsMoment m) c.naive_utc.ensures c.date_times_exist.ensures in
    let found = c.next_after-self.ensures in
    goes_on z.local (g.Z.TimeZone.ahead z.zone) z.bound c.args.self.now c.in_ok-start.start c.next_after-self.result c.in_ok-start.was is found.instance found.later
