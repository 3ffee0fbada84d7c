use Rattle.std.proofs.Common.{rules, ◌≡◌, true, arith, ◌<ℤ◌}
use Rattle.chrono_datetime.proofs.Signed.{signed}
use Rattle.chrono_business.specs.KnownYears.{is_known}
use Rattle.chrono_business.proofs.KnownDays.{all-known}
use Rattle.chrono_business.proofs.known_years.KnownYears.contains_all.Goals as goal

pub returns : goal.returns
returns c =
    let first : is_known c.args.self c.args.from ≡ true = search rules in
    let order : c.args.from <ℤ c.args.to = omega (arith, signed, c.if-num_days_from_ce.false, c.num_days_from_ce.ensures.value, c.num_days_from_ce-2.ensures.value) in
    rw c.contains_some.ensures (all-known c.args.self c.args.from c.args.to _ c.moved_by_days.result first order c.moved_by_days.ensures.date (omega (arith, signed)))
