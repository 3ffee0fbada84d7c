use Rattle.std.proofs.Common.{arith}
use Rattle.chrono_text.proofs.Signed.{signed}
use Rattle.chrono_clock.proofs.naive_time.landed.Goals as goal

pub overflow_cast-day : goal.overflow_cast-day
overflow_cast-day c = omega (arith, signed)

pub overflow_cast-time : goal.overflow_cast-time
overflow_cast-time c = omega (arith, signed)
