use Rattle.std.proofs.Common.{get_or, pos, FitsSigned, rules, w32, w64}
use Rattle.std.proofs.lemmas.Int.{to_z-of_z}
use Rattle.layers_c.specs.OpenDayColumnsWithin.{IsBetweenWithin}
use Rattle.layers_c.proofs.ColumnLemmas.{element-more}
use Rattle.layers_c.proofs.open_day_columns_within.write_between.Goals as goal

pub loop-i-preserved : goal.loop-i-preserved
loop-i-preserved c =
    let from = get_or c.args.from.now c.loop-i.i (pos 0) in
    let to = get_or c.args.to.now c.loop-i.i (pos 0) in
    let fits : FitsSigned w32 (get_or c.args.from.now c.loop-i.i (pos 0)) = search rules in
    let fits_too : FitsSigned w32 (get_or c.args.to.now c.loop-i.i (pos 0)) = search rules in
    let fits_days : FitsSigned w64 c.between_of.result = search rules in
    let here = rw (to_z-of_z w32 from fits, to_z-of_z w32 to fits_too) at c.between_of.ensures in
    element-more (λ k e. IsBetweenWithin c.args.years c.args.calendar.now (get_or c.args.from.now k (pos 0)) (get_or c.args.to.now k (pos 0)) e) (pos 0) c.loop-i.days c.loop-i.i _
    (search rules) c.loop-i.invariant (rw (to_z-of_z w64 c.between_of.result fits_days) here)
