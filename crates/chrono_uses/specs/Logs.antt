-- When a log line is of the last hour.
use Rattle.std.specs.Prelude.{Bool, ◌&&◌, int_le, pos, ◌+ℤ◌}
use Rattle.chrono_datetime.specs.Moment.{Moment}
use Rattle.chrono_instant.specs.Instants.{epoch_second}

-- the line's second is not after that of `now`, and at most 3,600 seconds before it
abbrev pub is_within_hour : Moment → Moment → Bool
is_within_hour now line =
    int_le (epoch_second line) (epoch_second now) && int_le (epoch_second now) (epoch_second line +ℤ pos 3_600)
