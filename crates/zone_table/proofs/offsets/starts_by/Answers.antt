use Rattle.std.proofs.Common.{arith, ℕ, ◌+◌, ◌-◌, ◌/◌, length, w64, to_z, of_z}
use Rattle.std.proofs.lemmas.Int.{ints}
use Rattle.zone_table.specs.Sequence.{local_start}
use Rattle.zone_table.specs.Table.{offset_after, row_second}
use Rattle.zone_table.proofs.SequenceLemmas.{Bisected-down, Bisected-up}
use Rattle.zone_table.proofs.offsets.starts_by.Goals as goal

pub loop-low-preserved-then-start_of-from : goal.loop-low-preserved-then-start_of-from
loop-low-preserved-then-start_of-from c =
    let middle : ℕ = c.loop-low.low + (c.loop-low.high - c.loop-low.low) / 2 in
    Bisected-up (local_start (row_second c.args.rows.now) (offset_after c.args.first c.args.rows.now)) (length c.args.rows.now) (to_z w64 (of_z w64 c.args.local)) c.loop-low.low c.loop-low.high middle c.requires c.loop-low.invariant
    (omega (arith, c.loop-low-test.true))
    (omega (arith, ints, c.if-start_of-from.true, c.start_of.ensures, c.start_of.type_inv, c.from.ensures, c.from.type_inv, c.ranges.local.sfits))

pub loop-low-preserved : goal.loop-low-preserved
loop-low-preserved c =
    let middle : ℕ = c.loop-low.low + (c.loop-low.high - c.loop-low.low) / 2 in
    Bisected-down (local_start (row_second c.args.rows.now) (offset_after c.args.first c.args.rows.now)) (length c.args.rows.now) (to_z w64 (of_z w64 c.args.local)) c.loop-low.low c.loop-low.high middle c.requires c.loop-low.invariant
    (omega arith)
    (omega (arith, c.loop-low-test.true))
    (omega (arith, ints, c.if-start_of-from.false, c.start_of.ensures, c.start_of.type_inv, c.from.ensures, c.from.type_inv, c.ranges.local.sfits))
