-- A month as a sheet: which day stands in which cell, and how a row is written.
use Rattle.std.specs.Prelude.{◌≡◌, Bool, ℕ, ◌+◌, ◌*◌, ◌<◌, false, true, not, ◌&&◌, if◌then◌else◌, nat_lt, ℤ, pos, ◌+ℤ◌, int_le, List, [], ◌∷◌, map, ◌++◌, codes, Option, Some, None}
use Rattle.std.specs.Option.{option_map}
use Rattle.std.specs.Fmt.{decimal}
use Rattle.std.specs.List.{flat_map}
use Rattle.std.specs.Ordering.{int_eq}
use Rattle.chrono_datetime.specs.declared.Weekday.{Weekday}
use Rattle.chrono_datetime.specs.declared.Weekday.TheVariants.{Thu}
use Rattle.chrono_datetime.specs.Days.{date_of_day, day_of}
use Rattle.chrono_datetime.specs.MonthMoves.{month_first_of, month_last_of}
use Rattle.chrono_datetime.specs.Weekday.{days_since}
use Rattle.chrono_datetime.specs.Weeks.{iso_week_of, week_first_of}
use Rattle.chrono_business.specs.OpenDays.{Closed, is_open}
use Rattle.dates_answer.specs.declared.row.Cell.{Cell}
use Rattle.dates_answer.specs.declared.row.SheetRow.{SheetRow}

-- the day of a cell, whether it lies in the month or not. The week that begins on the weekday start, and in which the
-- month of the day n begins, is the first row. Its first day is the first cell. Day follows day along the rows of seven
abbrev pub day_of_cell : ℤ → Weekday → ℕ → ℕ → ℤ
day_of_cell n start row column = week_first_of (month_first_of n) start +ℤ pos (7 * row + column)

-- the day that stands in a cell: that of the cell, if it lies in the month of the day n
unfoldable pub sheet_day : ℤ → Weekday → ℕ → ℕ → Option ℤ
sheet_day n start row column =
    let day = day_of_cell n start row column in
    if int_le (month_first_of n) day && int_le day (month_last_of n) then Some day else None

-- the ISO week of a row: that of its Thursday, if that is a date
abbrev pub week_of_row : ℤ → Weekday → ℕ → Option ℕ
week_of_row n start row = option_map iso_week_of (date_of_day (day_of_cell n start row (days_since Thu start)))

-- none of the seven cells of a row has a day
abbrev pub IsEmptyRow : ℤ → Weekday → ℕ → Type 0
IsEmptyRow n start row = (column : ℕ) → column < 7 → sheet_day n start row column ≡ None

-- whether a day is the one that is marked, if one is
abbrev pub is_marked : Option ℤ → ℤ → Bool
is_marked None d = false
is_marked (Some m) d = int_eq m d

-- a cell of a day, if it has one: its day of the month, whether the calendar is closed, and whether the day is marked
abbrev pub cell_of : Closed → Option ℤ → Option ℤ → Cell
cell_of c m None = record { day = None; closed = false; marked = false }
cell_of c m (Some d) = record { day = Some (day_of d); closed = not (is_open c d); marked = is_marked m d }

-- the cells of a row, from the first column to the last
abbrev pub cells_of_row : Closed → Option ℤ → ℤ → Weekday → ℕ → List Cell
cells_of_row c m n start row = map (λ column. cell_of c m (sheet_day n start row column)) (0 ∷ 1 ∷ 2 ∷ 3 ∷ 4 ∷ 5 ∷ 6 ∷ [])

-- a number in two columns, with a text in front of one digit
abbrev pub two_columns : List ℕ → ℕ → List ℕ
two_columns front k = if nat_lt k 10 then front ++ decimal k else decimal k

-- what stands in a cell: its day, or spaces
abbrev pub day_text : Option ℕ → List ℕ
day_text None = codes "  "
day_text (Some d) = two_columns (codes " ") d

-- what stands behind a day: `*` where it is closed, `<` where it is marked, and `#` where it is both
abbrev pub mark_text : Bool → Bool → List ℕ
mark_text true true = codes "#"
mark_text true false = codes "*"
mark_text false true = codes "<"
mark_text false false = codes " "

-- a cell: its day, and behind it its mark
abbrev pub cell_text : Cell → List ℕ
cell_text cell = day_text cell.day ++ mark_text cell.closed cell.marked

-- the week in front of a row, as `W09`, or spaces
abbrev pub label_text : Option ℕ → List ℕ
label_text None = codes "   "
label_text (Some week) = codes "W" ++ two_columns (codes "0") week

-- a row: its week and its cells
abbrev pub row_text : SheetRow → List ℕ
row_text row = label_text row.week ++ (codes " " ++ flat_map cell_text row.cells)
