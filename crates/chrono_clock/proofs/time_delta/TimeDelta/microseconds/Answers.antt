use Rattle.std.proofs.Common.{pos, arith}
use Rattle.std.proofs.lemmas.Int.{quot-rem}
use Rattle.chrono_text.proofs.Signed.{signed}
use Rattle.chrono_clock.proofs.time_delta.TimeDelta.microseconds.Goals as goal

pub overflow_mul-microseconds : goal.overflow_mul-microseconds
overflow_mul-microseconds c = omega (arith, signed, quot-rem c.args.microseconds (pos 1_000_000))

pub from_signed-requires-clause-past_second : goal.from_signed-requires-clause-past_second
from_signed-requires-clause-past_second c = omega (arith, signed, quot-rem c.args.microseconds (pos 1_000_000))

pub from_signed-requires-clause-in_range : goal.from_signed-requires-clause-in_range
from_signed-requires-clause-in_range c = omega (arith, signed, quot-rem c.args.microseconds (pos 1_000_000))

pub returns : goal.returns
returns c = omega (arith, signed, quot-rem c.args.microseconds (pos 1_000_000))
