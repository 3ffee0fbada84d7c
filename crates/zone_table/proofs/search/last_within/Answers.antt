use Rattle.std.proofs.Common.{ℤ, ◌≤ℤ◌, subst, sym, w64, to_z, of_z}
use Rattle.std.proofs.lemmas.Int.{to_z-of_z}
use Rattle.zone_table.specs.Table.{row_second}
use Rattle.zone_table.proofs.SearchLemmas.{FromLast-one, Within, Within-half, Within-windows}
use Rattle.zone_table.proofs.search.last_within.Goals as goal

pub loop-width-init : goal.loop-width-init
loop-width-init c =
    let same = to_z-of_z w64 c.args.second c.ranges.second in
    let begun = subst (λ (u : ℤ). row_second c.args.rows.now 0 ≤ℤ u) (sym same) c.requires.begun in
    Within-windows c.args.rows.now c.step-from.result.now (to_z w64 (of_z w64 c.args.second)) c.args.width c.requires.rising c.requires.some c.requires.most c.requires.least begun c.step-from.ensures

pub loop-width-preserved : goal.loop-width-preserved
loop-width-preserved c =
    Within-half c.args.rows.now c.loop-width.from.now c.step-from-in-loop-width.result.now (to_z w64 (of_z w64 c.args.second)) c.loop-width.width c.requires.rising c.loop-width.invariant c.step-from-in-loop-width.ensures

pub returns : goal.returns
returns c =
    FromLast-one c.args.rows.now c.loop-width.from.now c.args.second c.loop-width.width c.requires.rising
    (subst (λ (u : ℤ). Within c.args.rows.now c.loop-width.from.now u c.loop-width.width) (to_z-of_z w64 c.args.second c.ranges.second) c.loop-width.invariant)
    c.loop-width-test.false
