-- Days moved by spans.
use Rattle.std.specs.Prelude.{ℤ, pos, ◌+ℤ◌, ◌*ℤ◌, List, [], ◌∷◌, Option, Some}
use Rattle.std.specs.Option.{option_and_then}
use Rattle.chrono_datetime.specs.Days.{date_of_day}
use Rattle.chrono_datetime.specs.MonthMoves.{month_move}
use Rattle.dates_answer.specs.declared.span.Span.{Span}
use Rattle.dates_answer.specs.declared.span.Unit.{Unit}
use Rattle.dates_answer.specs.declared.span.Unit.TheVariants.{Days, Weeks, Months, Years}

-- the day n moved by z of a unit at once, if that is a date: a week is seven days and a year twelve months
unfoldable pub unit_move : Unit → ℤ → ℤ → Option ℤ
unit_move Days n z = date_of_day (n +ℤ z)
unit_move Weeks n z = date_of_day (n +ℤ pos 7 *ℤ z)
unit_move Months n z = month_move n z
unit_move Years n z = month_move n (pos 12 *ℤ z)

-- the day n moved by a span
abbrev pub span_move : ℤ → Span → Option ℤ
span_move n span = unit_move span.unit n span.count

-- where the day n comes to by spans, one after another
unfoldable pub moved_from : List Span → ℤ → Option ℤ
moved_from [] n = Some n
moved_from (span ∷ spans) n = option_and_then (moved_from spans) (span_move n span)
