use Rattle.std.proofs.Common.{ap}
use Rattle.std.proofs.lemmas.List.{get_or_default}
use Rattle.zone_table.specs.declared.row.Row.{Row}
use Rattle.zone_table.specs.Table.{no_row}
use Rattle.zone_table.proofs.row.table_offset.Goals as goal

pub returns : goal.returns
returns c = ap (λ (r : Row). r.offset) (get_or_default c.args.rows.now c.args.place c.index-rows-place.result no_row c.requires)
