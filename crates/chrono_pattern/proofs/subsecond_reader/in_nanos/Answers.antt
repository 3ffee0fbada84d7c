use Rattle.std.proofs.Common.{arith}
use Rattle.chrono_text.proofs.FractionLemmas.{nanos_below}
use Rattle.chrono_pattern.proofs.subsecond_reader.in_nanos.Goals as goal

pub overflow_mul-result : goal.overflow_mul-result
overflow_mul-result c = let below = nanos_below c.args.places c.args.value c.requires.few c.requires.small in rw c.pow.ensures (omega arith)

pub returns-clause-small : goal.returns-clause-small
returns-clause-small c = let below = nanos_below c.args.places c.args.value c.requires.few c.requires.small in rw c.pow.ensures (omega arith)
