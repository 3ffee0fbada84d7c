-- The texts of date-times, as lists of ASCII codes.
use Rattle.std.specs.Prelude.{ℕ, List, [], ◌∷◌, ◌++◌}
use Rattle.chrono_clock.specs.TimeText.{time_text}
use Rattle.chrono_naive.specs.DateText.{date_text}
use Rattle.chrono_datetime.specs.Moment.{Moment}

-- the date, a character, and the time of day (ISO 8601 date and time of day, where the character is a `T`)
abbrev pub moment_text : ℕ → Moment → List ℕ
moment_text separator m = date_text m.date ++ separator ∷ [] ++ time_text m.time
