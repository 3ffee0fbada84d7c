use Rattle.std.proofs.Common.{arith}
use Rattle.layers_c.specs.Schedules.{schedule_faults}
use Rattle.layers_c.proofs.Numbered.{numbered_within}
use Rattle.layers_c.proofs.schedule_faults.fault_numbered.Goals as goal

pub returns : goal.returns
returns c = numbered_within schedule_faults c.args.number _ c.if-number-eq0.false (omega (arith, c.if-place-ge14.false))
