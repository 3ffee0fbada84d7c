-- Sequences of days, each so many spans from the first.
use Rattle.std.specs.Prelude.{ℕ, ℤ, pos, ◌*ℤ◌, int_le, if◌then◌else◌, Option, Some, None}
use Rattle.std.specs.Option.{option_and_then}
use Rattle.dates_answer.specs.declared.span.Span.{Span}
use Rattle.dates_answer.specs.Moves.{unit_move}

-- the day n, if it does not lie past the day end for one who goes on, or back where the number is below 0
unfoldable pub days_up_to : ℤ → ℤ → ℤ → Option ℤ
days_up_to count end n = if (if int_le (pos 0) count then int_le n end else int_le end n) then Some n else None

-- the day first moved by k spans at once, as twice one month is two months, if that is a date
abbrev pub moved_times : ℤ → Span → ℕ → Option ℤ
moved_times first step k = unit_move step.unit first (step.count *ℤ pos k)

-- the day of a sequence at the place k, if that is a date and not past the end
abbrev pub sequence_day : ℤ → ℤ → Span → ℕ → Option ℤ
sequence_day first end step k = option_and_then (days_up_to step.count end) (moved_times first step k)
