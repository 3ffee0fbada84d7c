-- Clocks that are set once, as known values of what fires.
use Rattle.std.specs.Prelude.{if◌then◌else◌, ℤ, pos}
use Rattle.std.specs.Int.RustNames.{int_lt}

-- up to the second 100,000 the clock is ahead of UTC by the first number of seconds, and from then on by the other
abbrev pub set_once : ℤ → ℤ → ℤ → ℤ
set_once first other u = if int_lt u (pos 100_000) then first else other
