use Rattle.std.proofs.Common.{◌≡◌, arith, pos, ◌+ℤ◌, to_z, of_z, w64}
use Rattle.chrono_datetime.proofs.Signed.{signed}
use Rattle.chrono_rules.specs.Periods.{period_end}
use Rattle.chrono_rules.proofs.rule.Rule.place_from_end.Goals as goal

pub returns-clause-value : goal.returns-clause-value
returns-clause-value c =
    let here : c.args.date +ℤ pos 0 ≡ c.args.date = omega (arith, signed) in
    let end : c.args.date +ℤ to_z w64 (of_z w64 c.to_period_end-end.result) ≡ period_end c.args.self.now.frequency c.args.self.now.week_start c.args.date = omega (arith, signed, c.to_period_end-end.ensures) in
    rw (here, end) at c.count_passing.ensures.value
