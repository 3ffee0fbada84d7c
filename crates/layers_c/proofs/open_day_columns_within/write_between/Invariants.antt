use Rattle.std.proofs.Common.{ℕ, ◌<◌, pos, get_or}
use Rattle.layers_c.specs.OpenDayColumnsWithin.{IsBetweenWithin}
use Rattle.layers_c.proofs.open_day_columns_within.write_between.Given as goal

abbrev pub invariant-loop-i : goal.invariant-loop-i
invariant-loop-i l = (k : ℕ) → k < l.i → IsBetweenWithin l.years l.calendar (get_or l.from k (pos 0)) (get_or l.to k (pos 0)) (get_or l.days k (pos 0))
