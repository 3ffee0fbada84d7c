-- The search for the last row that has begun.
use Rattle.std.specs.Prelude.{◌≡◌, ◌+◌, ◌-◌, ◌<◌, ℤ, List, drop, length}
use Rattle.zone_table.specs.declared.row.Row.{Row}
use Rattle.zone_table.specs.Sequence.{Come}
use Rattle.zone_table.specs.Table.{row_second}

-- `from` are the rows from the last one on that has begun by the second u
pub record FromLast (rows : List Row) (u : ℤ) (from : List Row) : Type 0 where
  pub part : from ≡ drop (length rows - length from) rows
  pub some : 0 < length from
  pub come : Come (row_second rows) (length rows) u (length rows - length from + 1)
