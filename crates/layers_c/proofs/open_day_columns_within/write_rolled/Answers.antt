use Rattle.std.proofs.Common.{get_or, pos, FitsSigned, rules, w32}
use Rattle.std.proofs.lemmas.Int.{to_z-of_z}
use Rattle.layers_c.specs.OpenDayColumnsWithin.{IsRolledWithin}
use Rattle.layers_c.proofs.ColumnLemmas.{element-more}
use Rattle.layers_c.proofs.open_day_columns_within.write_rolled.Goals as goal

pub loop-i-preserved : goal.loop-i-preserved
loop-i-preserved c =
    let number = get_or c.args.dates.now c.loop-i.i (pos 0) in
    let fits : FitsSigned w32 (get_or c.args.dates.now c.loop-i.i (pos 0)) = search rules in
    let fits_too : FitsSigned w32 c.rolled_of.result = search rules in
    let here = rw (to_z-of_z w32 number fits) at c.rolled_of.ensures in
    element-more (λ k e. IsRolledWithin c.args.years c.args.calendar.now c.args.roll (get_or c.args.dates.now k (pos 0)) e) (pos 0) c.loop-i.rolled c.loop-i.i _ (search rules) c.loop-i.invariant
    (rw (to_z-of_z w32 c.rolled_of.result fits_too) here)
