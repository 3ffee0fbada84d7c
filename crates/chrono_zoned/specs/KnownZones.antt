-- Two zones with one change each, as known values of what a local time stands for.
use Rattle.std.specs.Prelude.{if◌then◌else◌, ℤ, pos}
use Rattle.std.specs.Int.RustNames.{int_lt}

-- at the second 1,000 the clock is set an hour ahead: it shows 999, and then 4,600
abbrev pub set_ahead : ℤ → ℤ
set_ahead u = if int_lt u (pos 1_000) then pos 0 else pos 3_600

-- at the second 1,000 the clock is set an hour back: it shows 4,599, and then 1,000
abbrev pub set_back : ℤ → ℤ
set_back u = if int_lt u (pos 1_000) then pos 3_600 else pos 0
