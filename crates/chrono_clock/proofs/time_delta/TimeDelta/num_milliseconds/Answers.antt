use Rattle.std.proofs.Common.{pos, arith}
use Rattle.std.proofs.lemmas.Int.{quot-rem}
use Rattle.chrono_text.proofs.Signed.{signed}
use Rattle.chrono_clock.proofs.time_delta.TimeDelta.num_milliseconds.Goals as goal

pub overflow_mul-result : goal.overflow_mul-result
overflow_mul-result c = omega (arith, signed, quot-rem c.args.self.now (pos 1_000_000_000), quot-rem c.args.self.now (pos 1_000_000))

pub overflow_add-result : goal.overflow_add-result
overflow_add-result c = omega (arith, signed, quot-rem c.args.self.now (pos 1_000_000_000), quot-rem c.args.self.now (pos 1_000_000))

pub returns : goal.returns
returns c = omega (arith, signed, quot-rem c.args.self.now (pos 1_000_000_000), quot-rem c.args.self.now (pos 1_000_000))
