use Rattle.std.proofs.Common.{subst}
use Rattle.chrono_datetime.specs.Moment.{IsMoment, Moment}
use Rattle.zoned_rules.proofs.GivenMembers.{goes_on}
use Rattle.zoned_rules.proofs.search.zoned_members.ZonedMembersIterator.next.Goals as goal

pub returns-clause-goes : goal.returns-clause-goes
returns-clause-goes g c =
    let is = subst (λ (m : Moment). IsMoment m) c.naive_utc.ensures c.date_times_exist.ensures in
    let found = c.next_after-self.ensures in
    goes_on (g.Z.TimeZone.ahead) c.args.self.now.set c.args.self.now c.in_ok-start.start c.next_after-self.result c.in_ok-start.was is found.member found.later
