use Rattle.std.proofs.Common.{◌≡◌, ◌∙◌, inl, inr, ap, arith, length, sym, w64, to_z, of_z}
use Rattle.std.proofs.lemmas.Bool.Decides.{leb_tells}
use Rattle.std.proofs.lemmas.Int.{ints, to_z-of_z}
use Rattle.zone_table.specs.Sequence.{come_by}
use Rattle.zone_table.specs.Table.{offset_after, row_second}
use Rattle.zone_table.proofs.LocalTimes.{seconds_rise}
use Rattle.zone_table.proofs.NextAndPrevious.{holds_until}
use Rattle.zone_table.proofs.SequenceLemmas.{Come-at, Come-count, IsRising-le}
use Rattle.zone_table.proofs.offsets.stretch_of_instant.Goals as goal

pub rows_begun-count-requires : goal.rows_begun-count-requires
rows_begun-count-requires c = seconds_rise (row_second c.args.rows.now) (offset_after c.args.first c.args.rows.now) (length c.args.rows.now) c.requires

pub returns-then-count-rows-clause-offset : goal.returns-then-count-rows-clause-offset
returns-then-count-rows-clause-offset c =
    let rows = c.args.rows.now in
    c.offset_of_count-offset.ensures
    ∙ ap (offset_after c.args.first rows) (sym (Come-count (row_second rows) (length rows) c.args.second c.rows_begun-count.result
    (Come-at (row_second rows) (length rows) (to_z w64 (of_z w64 c.args.second)) c.args.second c.rows_begun-count.result (to_z-of_z w64 c.args.second c.ranges.second) c.rows_begun-count.ensures)))

pub returns-then-count-rows-clause-holds : goal.returns-then-count-rows-clause-holds
returns-then-count-rows-clause-holds c =
    let rows = c.args.rows.now in
    let row : to_z w64 (of_z w64 c.second_at-until.result) ≡ row_second rows c.rows_begun-count.result = to_z-of_z w64 c.second_at-until.result (record { sfits = c.second_at-until.type_inv }) ∙ c.second_at-until.ensures in
    let count : come_by (row_second rows) (length rows) c.args.second ≡ c.rows_begun-count.result =
    Come-count (row_second rows) (length rows) c.args.second c.rows_begun-count.result
    (Come-at (row_second rows) (length rows) (to_z w64 (of_z w64 c.args.second)) c.args.second c.rows_begun-count.result (to_z-of_z w64 c.args.second c.ranges.second) c.rows_begun-count.ensures) in
    holds_until (row_second rows) (offset_after c.args.first rows) (length rows) c.args.second (to_z w64 (of_z w64 c.second_at-until.result)) c.rows_begun-count.result c.requires count (λ _. omega (arith, ints, row))

pub returns-clause-offset : goal.returns-clause-offset
returns-clause-offset c =
    let rows = c.args.rows.now in
    c.without_end.ensures.offset ∙ c.offset_of_count-offset.ensures
    ∙ ap (offset_after c.args.first rows) (sym (Come-count (row_second rows) (length rows) c.args.second c.rows_begun-count.result
    (Come-at (row_second rows) (length rows) (to_z w64 (of_z w64 c.args.second)) c.args.second c.rows_begun-count.result (to_z-of_z w64 c.args.second c.ranges.second) c.rows_begun-count.ensures)))

pub returns-clause-holds : goal.returns-clause-holds
returns-clause-holds c =
    let rows = c.args.rows.now in
    let count : come_by (row_second rows) (length rows) c.args.second ≡ c.rows_begun-count.result =
    Come-count (row_second rows) (length rows) c.args.second c.rows_begun-count.result
    (Come-at (row_second rows) (length rows) (to_z w64 (of_z w64 c.args.second)) c.args.second c.rows_begun-count.result (to_z-of_z w64 c.args.second c.ranges.second) c.rows_begun-count.ensures) in
    holds_until (row_second rows) (offset_after c.args.first rows) (length rows) c.args.second c.without_end.result.until c.rows_begun-count.result c.requires count (λ lt. absurd (omega (arith, lt, c.if-count-rows.false)))

pub returns-then-count-rows-clause-rows : goal.returns-then-count-rows-clause-rows
returns-then-count-rows-clause-rows c = λ k lt behind.
    let rows = c.args.rows.now in
    let row : to_z w64 (of_z w64 c.second_at-until.result) ≡ row_second rows c.rows_begun-count.result = to_z-of_z w64 c.second_at-until.result (record { sfits = c.second_at-until.type_inv }) ∙ c.second_at-until.ensures in
    let here = to_z-of_z w64 c.args.second c.ranges.second in
    elim (leb_tells (c.rows_begun-count.result) k) [
      | inl from ↦
          let rise = IsRising-le (row_second rows) (length rows) (seconds_rise (row_second rows) (offset_after c.args.first rows) (length rows) c.requires) c.rows_begun-count.result k from.1 lt in
          omega (arith, ints, row, rise)
      | inr before ↦ let come = c.rows_begun-count.ensures.come k before.1 in absurd (omega (arith, ints, come, here, behind))
    ]

pub returns-clause-rows : goal.returns-clause-rows
returns-clause-rows c = λ k lt behind.
    let come = c.rows_begun-count.ensures.come k (omega (arith, lt, c.if-count-rows.false)) in
    absurd (omega (arith, ints, come, to_z-of_z w64 c.args.second c.ranges.second, behind))

pub returns-then-count-rows-clause-end : goal.returns-then-count-rows-clause-end
returns-then-count-rows-clause-end c =
    let rows = c.args.rows.now in
    let row : to_z w64 (of_z w64 c.second_at-until.result) ≡ row_second rows c.rows_begun-count.result = to_z-of_z w64 c.second_at-until.result (record { sfits = c.second_at-until.type_inv }) ∙ c.second_at-until.ensures in
    let later = c.rows_begun-count.ensures.later c.rows_begun-count.result (omega arith) c.if-count-rows.true in
    let here = to_z-of_z w64 c.args.second c.ranges.second in
    inr ((c.rows_begun-count.result, c.if-count-rows.true, sym row), omega (arith, ints, row, later, here))

pub returns-clause-end : goal.returns-clause-end
returns-clause-end c = inl c.without_end.ensures.end
