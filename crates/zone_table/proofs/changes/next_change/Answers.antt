use Rattle.std.proofs.Common.{◌≡◌, ◌∙◌, ℕ, ℤ, sym, subst, length, w64, to_z, of_z}
use Rattle.std.proofs.lemmas.Int.{to_z-of_z}
use Rattle.zone_table.specs.Changes.{IsNextChange}
use Rattle.zone_table.specs.Sequence.{ChangesFirst, IsSameFrom, come_by}
use Rattle.zone_table.specs.Table.{offset_after, table_offset, row_second}
use Rattle.zone_table.proofs.LocalTimes.{seconds_rise}
use Rattle.zone_table.proofs.NextAndPrevious.{next_is, steady_from}
use Rattle.zone_table.proofs.SequenceLemmas.{Come-at, Come-count}
use Rattle.zone_table.proofs.changes.next_change.Goals as goal

pub rows_begun-requires : goal.rows_begun-requires
rows_begun-requires c = seconds_rise (row_second c.args.rows.now) (offset_after c.args.first c.args.rows.now) (length c.args.rows.now) c.requires

pub returns-in-Some-clause-next : goal.returns-in-Some-clause-next
returns-in-Some-clause-next c =
    let rows = c.args.rows.now in
    let row : to_z w64 (of_z w64 c.second_at.result) ≡ row_second rows c.in-Some.place = to_z-of_z w64 c.second_at.result (record { sfits = c.second_at.type_inv }) ∙ c.second_at.ensures in
    let count : come_by (row_second rows) (length rows) c.args.second ≡ c.rows_begun.result =
    Come-count (row_second rows) (length rows) c.args.second c.rows_begun.result
    (Come-at (row_second rows) (length rows) (to_z w64 (of_z w64 c.args.second)) c.args.second c.rows_begun.result (to_z-of_z w64 c.args.second c.ranges.second) c.rows_begun.ensures) in
    let found = subst (λ (m : ℕ). ChangesFirst (offset_after c.args.first rows) m (length rows) c.in-Some.place) (sym count) c.in-Some.ensures.found in
    subst (λ (t : ℤ). IsNextChange (table_offset c.args.first rows) c.args.second t) (sym row)
    (next_is (row_second rows) (offset_after c.args.first rows) (length rows) c.args.second c.in-Some.place c.requires found)

pub returns-in-None-clause-none : goal.returns-in-None-clause-none
returns-in-None-clause-none c =
    let rows = c.args.rows.now in
    let count : come_by (row_second rows) (length rows) c.args.second ≡ c.rows_begun.result =
    Come-count (row_second rows) (length rows) c.args.second c.rows_begun.result
    (Come-at (row_second rows) (length rows) (to_z w64 (of_z w64 c.args.second)) c.args.second c.rows_begun.result (to_z-of_z w64 c.args.second c.ranges.second) c.rows_begun.ensures) in
    let same = subst (λ (m : ℕ). IsSameFrom (offset_after c.args.first rows) m (length rows)) (sym count) c.in-None.ensures.none in
    steady_from (row_second rows) (offset_after c.args.first rows) (length rows) c.args.second c.requires same
