use Rattle.std.proofs.Common.{arith}
use Rattle.layers_c.specs.Rules.{rule_parts}
use Rattle.layers_c.proofs.Numbered.{numbered_within}
use Rattle.layers_c.proofs.rule_faults.part_numbered.Goals as goal

pub returns : goal.returns
returns c = numbered_within rule_parts c.args.number _ c.if-number-eq0.false (omega (arith, c.if-place-ge11.false))
