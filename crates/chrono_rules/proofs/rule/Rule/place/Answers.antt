use Rattle.std.proofs.Common.{◌≡◌, arith, ◌+ℤ◌, to_z, of_z, w64}
use Rattle.chrono_datetime.proofs.Signed.{signed}
use Rattle.chrono_rules.specs.Periods.{period_first}
use Rattle.chrono_rules.proofs.rule.Rule.place.Goals as goal

pub returns-clause-value : goal.returns-clause-value
returns-clause-value c =
    let first : c.args.date +ℤ to_z w64 (of_z w64 c.to_period_first-first.result) ≡ period_first c.args.self.now.frequency c.args.self.now.week_start c.args.date = omega (arith, signed, c.to_period_first-first.ensures) in
    rw first at c.count_passing.ensures.value
