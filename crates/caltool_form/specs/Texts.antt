-- The texts that answers are made of, beside those of chrono_units, chrono_clock and chrono_text.
use Rattle.std.specs.Prelude.{ℕ, List, [], ◌∷◌, ◌++◌, ℤ, Option, Some, None, codes}
use Rattle.chrono_clock.specs.Moment.{Moment}
use Rattle.chrono_text.specs.Text.{calendar_text}
use Rattle.chrono_clock.specs.TimeText.{time_text}
use Rattle.chrono_calendar.specs.Days.{year_of, month_of, day_of}

-- a text that may not be there
abbrev pub text_or_none : {A : Type 0} → (A → List ℕ) → Option A → List ℕ
text_or_none text None = codes "none"
text_or_none text (Some a) = text a

-- the date n (ISO 8601 calendar date)
abbrev pub text_of_date : ℤ → List ℕ
text_of_date n = calendar_text (year_of n) (month_of n) (day_of n)

-- a date, a character, and a time of day (ISO 8601 date and time of day, where the character is a `T`)
abbrev pub text_of_moment : ℕ → Moment → List ℕ
text_of_moment separator m = text_of_date m.date ++ separator ∷ [] ++ time_text m.time
