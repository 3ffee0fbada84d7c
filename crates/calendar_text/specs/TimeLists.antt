-- The times that a list has left.
use Rattle.std.specs.Prelude.{ℕ, ◌+◌, List, [], ◌++◌, length, Option, Some, None}
use Rattle.chrono_text.specs.Lists.{pieces}
use Rattle.calendar_text.specs.CalendarTexts.{content_lines, listed_times, times_of}
use Rattle.calendar_text.specs.declared.calendar_time.CalendarTime.{CalendarTime}
use Rattle.calendar_text.specs.declared.property.Property.{Property}

-- the pieces of a text, if there is one
abbrev pub pieces_left : ℕ → Option (List ℕ) → List (List ℕ)
pieces_left separator None = []
pieces_left separator (Some text) = pieces separator text

-- how many bytes and separators it has in front of its end
abbrev pub size_left : Option (List ℕ) → ℕ
size_left None = 0
size_left (Some text) = length text + 1

-- the times of a list that was begun
abbrev pub times_listed : Option (List ℕ) → List CalendarTime
times_listed None = []
times_listed (Some values) = listed_times values

-- those of the lines behind it
abbrev pub times_behind : Property → Option (List ℕ) → List CalendarTime
times_behind property None = []
times_behind property (Some text) = times_of property (content_lines text)

-- both
unfoldable pub times_left : Property → Option (List ℕ) → Option (List ℕ) → List CalendarTime
times_left property values text = times_listed values ++ times_behind property text
