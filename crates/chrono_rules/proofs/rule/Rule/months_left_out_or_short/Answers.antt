use Rattle.chrono_rules.proofs.Months.{length_here, month_on}
use Rattle.chrono_datetime.proofs.Signed.{signed}
use Rattle.std.proofs.Common.{arith, w32}
use Rattle.std.proofs.lemmas.Int.{to_z-of_z}
use Rattle.chrono_rules.proofs.rule.Rule.months_left_out_or_short.Goals as goal

pub returns-then-months-gt0-clause-passed : goal.returns-then-months-gt0-clause-passed
returns-then-months-gt0-clause-passed c = λ d j lt at. c.months_left_out-months.ensures.passed d j lt (month_on d c.args.year c.args.month j c.requires.month at)

pub returns-then-is_shorter-clause-passed : goal.returns-then-is_shorter-clause-passed
returns-then-is_shorter-clause-passed c = λ d j lt at.
    let length = length_here d c.args.year _ c.args.month j (to_z-of_z w32 c.args.year (omega (arith, signed, c.requires.low, c.requires.high))) c.requires.month lt at in
    c.requires.short d (omega (arith, length, c.is_shorter.ensures c.if-is_shorter.true))
