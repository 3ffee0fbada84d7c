use Rattle.std.proofs.Common.{◌≡◌, take, map}
use Rattle.layers_c.specs.OpenDayColumns.{from_date32_entry}
use Rattle.layers_c.proofs.open_day_columns.write_from_date32.Given as goal

abbrev pub invariant-loop-i : goal.invariant-loop-i
invariant-loop-i l = take l.i l.dates ≡ map from_date32_entry (take l.i l.days)
