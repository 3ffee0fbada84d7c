use Rattle.std.proofs.Common.{ℕ, ◌<◌, pos, get_or}
use Rattle.layers_c.specs.OpenDayColumnsWithin.{IsMovedWithin}
use Rattle.layers_c.proofs.open_day_columns_within.write_moved.Given as goal

abbrev pub invariant-loop-i : goal.invariant-loop-i
invariant-loop-i l = (k : ℕ) → k < l.i → IsMovedWithin l.years l.calendar l.n (get_or l.dates k (pos 0)) (get_or l.moved k (pos 0))
