-- The table of rows of a TZif file.
use Rattle.std.specs.Prelude.{◌≡◌, ◌<◌, ℕ, List, length}
use Rattle.zone_table.specs.Table.{row_at}
use Rattle.zone_table.specs.declared.row.Row.{Row}
use Rattle.zone_file.specs.Kinds.{IsFileRow}
use Rattle.zone_file.specs.declared.rows.ZoneRowsError.{ZoneRowsError}
use Rattle.zone_file.specs.declared.rows.ZoneRowsError.TheVariants.{NoRoom, NoRow}

-- the first n rows are those of the file
abbrev pub AreFileRows : ℕ → List ℕ → List ℕ → List ℕ → ℕ → List Row → Type 0
AreFileRows version times places kinds n rows = (k : ℕ) → k < n → IsFileRow version times places kinds k (row_at rows k)

-- why so many rows do not take those of the file: they are too few for the number named, or the row named is none
abbrev pub IsRowsError : ℕ → List ℕ → List ℕ → List ℕ → ℕ → ZoneRowsError → Type 0
IsRowsError version times places kinds room (NoRoom n) = (n ≡ length places) × (room < n)
IsRowsError version times places kinds room (NoRow k) = (k < length places) × ((row : Row) → ¬ IsFileRow version times places kinds k row)
