use Rattle.std.proofs.Common.{arith}
use Rattle.layers_c.specs.Rules.{rule_faults}
use Rattle.layers_c.proofs.Numbered.{numbered_past, numbered_within}
use Rattle.layers_c.proofs.rule_faults.fault_numbered.Goals as goal

pub returns-then-place-ge29 : goal.returns-then-place-ge29
returns-then-place-ge29 c = numbered_past rule_faults c.args.number c.if-number-eq0.false (omega (arith, c.if-place-ge29.true))

pub returns : goal.returns
returns c = numbered_within rule_faults c.args.number _ c.if-number-eq0.false (omega (arith, c.if-place-ge29.false))
