use Rattle.std.proofs.Common.{◌∙◌, ap, length, w64, to_z, of_z}
use Rattle.std.proofs.lemmas.Int.{to_z-of_z}
use Rattle.zone_table.specs.Table.{offset_after, row_second, table_offset}
use Rattle.zone_table.proofs.LocalTimes.{seconds_rise}
use Rattle.zone_table.proofs.SearchLemmas.{offset-last, offset-none}
use Rattle.zone_table.proofs.offsets.offset_of_instant.Goals as goal

pub last_begun-requires : goal.last_begun-requires
last_begun-requires c = seconds_rise (row_second c.args.rows.now) (offset_after c.args.first c.args.rows.now) (length c.args.rows.now) c.requires

pub returns-in-Some : goal.returns-in-Some
returns-in-Some c =
    c.table_offset.ensures ∙ offset-last c.args.first c.args.rows.now c.in-Some.from.now (to_z w64 (of_z w64 c.args.second)) c.in-Some.ensures.some
    ∙ ap (table_offset c.args.first c.args.rows.now) (to_z-of_z w64 c.args.second c.ranges.second)

pub returns-in-None : goal.returns-in-None
returns-in-None c =
    offset-none c.args.first c.args.rows.now (to_z w64 (of_z w64 c.args.second)) c.in-None.ensures.none
    ∙ ap (table_offset c.args.first c.args.rows.now) (to_z-of_z w64 c.args.second c.ranges.second)
