use Rattle.std.proofs.Common.{refl, subst, arith}
use Rattle.chrono_datetime.specs.Moment.{IsMoment, Moment}
use Rattle.chrono_datetime.proofs.Signed.{casts}
use Rattle.zoned_rules.proofs.GivenMembers.{given_in_order}
use Rattle.zoned_rules.proofs.zoned_recurrence.ZonedRecurrence.after.Goals as goal

pub returns-clause-few : goal.returns-clause-few
returns-clause-few g c =
    let is = subst (λ (m : Moment). IsMoment m) c.naive_utc.ensures c.date_times_exist.ensures in
    omega (arith, casts, is.date, is.time.second)

pub returns-clause-runs : goal.returns-clause-runs
returns-clause-runs g c = λ given drains. given_in_order (g.Z.TimeZone.ahead) c.args.self _ c.args.start given refl refl drains
