use Rattle.std.proofs.Common.{subst}
use Rattle.chrono_datetime.specs.Moment.{Moment}
use Rattle.zoned_cron.specs.FiringLists.{IsNextFiring}
use Rattle.zoned_cron.proofs.FiringLists.{next_parts}
use Rattle.zoned_cron.proofs.schedule.ZonedSchedule.next_after.Goals as goal

pub returns-clause-fires : goal.returns-clause-fires
returns-clause-fires g c =
    let ahead = g.Z.TimeZone.ahead in
    let z = c.args.self.now in
    (next_parts ahead z c.args.start.utc c.first_by.result (subst (λ (m : Moment). IsNextFiring ahead z m c.first_by.result) c.naive_utc-utc.ensures c.first_by.ensures)).0

pub returns-clause-zone : goal.returns-clause-zone
returns-clause-zone g c =
    let ahead = g.Z.TimeZone.ahead in
    let z = c.args.self.now in
    (next_parts ahead z c.args.start.utc c.first_by.result (subst (λ (m : Moment). IsNextFiring ahead z m c.first_by.result) c.naive_utc-utc.ensures c.first_by.ensures)).1

pub returns-clause-later : goal.returns-clause-later
returns-clause-later g c =
    let ahead = g.Z.TimeZone.ahead in
    let z = c.args.self.now in
    (next_parts ahead z c.args.start.utc c.first_by.result (subst (λ (m : Moment). IsNextFiring ahead z m c.first_by.result) c.naive_utc-utc.ensures c.first_by.ensures)).2

pub returns-clause-least : goal.returns-clause-least
returns-clause-least g c =
    let ahead = g.Z.TimeZone.ahead in
    let z = c.args.self.now in
    (next_parts ahead z c.args.start.utc c.first_by.result (subst (λ (m : Moment). IsNextFiring ahead z m c.first_by.result) c.naive_utc-utc.ensures c.first_by.ensures)).3

pub returns-clause-none : goal.returns-clause-none
returns-clause-none g c =
    let ahead = g.Z.TimeZone.ahead in
    let z = c.args.self.now in
    (next_parts ahead z c.args.start.utc c.first_by.result (subst (λ (m : Moment). IsNextFiring ahead z m c.first_by.result) c.naive_utc-utc.ensures c.first_by.ensures)).4
