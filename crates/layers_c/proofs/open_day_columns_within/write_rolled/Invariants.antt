use Rattle.std.proofs.Common.{ℕ, ◌<◌, pos, get_or}
use Rattle.layers_c.specs.OpenDayColumnsWithin.{IsRolledWithin}
use Rattle.layers_c.proofs.open_day_columns_within.write_rolled.Given as goal

abbrev pub invariant-loop-i : goal.invariant-loop-i
invariant-loop-i l = (k : ℕ) → k < l.i → IsRolledWithin l.years l.calendar l.roll (get_or l.dates k (pos 0)) (get_or l.rolled k (pos 0))
