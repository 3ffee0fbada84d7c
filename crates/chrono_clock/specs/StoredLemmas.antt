-- The stored parts of a number of nanoseconds: its floor in seconds, and what lies past that.
use Rattle.std.proofs.Common.{◌≡◌, ℕ, ◌<◌, ℤ, arith}
use Rattle.chrono_clock.specs.Duration.{nanos_per_second, nanos_of, floor_secs, past_floor}
use Rattle.chrono_text.proofs.Signed.{signed}

pub floor_secs-nanos_of : (s : ℤ) (n : ℕ) → n < nanos_per_second → floor_secs (nanos_of s n) ≡ s
floor_secs-nanos_of s n h = omega (arith, signed)

pub past_floor-nanos_of : (s : ℤ) (n : ℕ) → n < nanos_per_second → past_floor (nanos_of s n) ≡ n
past_floor-nanos_of s n h = omega (arith, signed)
