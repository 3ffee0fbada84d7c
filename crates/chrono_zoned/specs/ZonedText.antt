-- The texts of date-times in a zone, as lists of ASCII codes.
use Rattle.std.specs.Prelude.{ℕ, List, ◌++◌, codes, ℤ}
use Rattle.std.specs.Str.{byte}
use Rattle.chrono_datetime.specs.Moment.{Moment}
use Rattle.chrono_datetime.specs.MomentText.{moment_text}
use Rattle.chrono_instant.specs.OffsetText.{offset_text}

-- what `{}` writes: the local date and time with a space between them, a space, and the offset
abbrev pub zoned_text : Moment → ℤ → List ℕ
zoned_text local offset = moment_text (byte " ") local ++ codes " " ++ offset_text offset

-- what `{:?}` writes (ISO 8601 date and time of day with its offset)
abbrev pub zoned_debug_text : Moment → ℤ → List ℕ
zoned_debug_text local offset = moment_text (byte "T") local ++ offset_text offset
