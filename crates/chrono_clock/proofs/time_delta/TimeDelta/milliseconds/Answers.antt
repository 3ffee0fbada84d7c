use Rattle.std.proofs.Common.{pos, arith}
use Rattle.std.proofs.lemmas.Int.{quot-rem}
use Rattle.chrono_text.proofs.Signed.{rem_euclid_parts}
use borrow.Author.Differences.{ints}
use Rattle.chrono_clock.proofs.time_delta.TimeDelta.milliseconds.Goals as goal

pub overflow_mul-milliseconds : goal.overflow_mul-milliseconds
overflow_mul-milliseconds c = omega (arith, ints, rem_euclid_parts, quot-rem c.args.milliseconds (pos 1_000))

pub from_signed-requires-clause-past_second : goal.from_signed-requires-clause-past_second
from_signed-requires-clause-past_second c = omega (arith, ints, rem_euclid_parts, quot-rem c.args.milliseconds (pos 1_000))

pub from_signed-requires-clause-in_range : goal.from_signed-requires-clause-in_range
from_signed-requires-clause-in_range c = omega (arith, ints, rem_euclid_parts, quot-rem c.args.milliseconds (pos 1_000))

pub returns : goal.returns
returns c = omega (arith, ints, rem_euclid_parts, quot-rem c.args.milliseconds (pos 1_000))
