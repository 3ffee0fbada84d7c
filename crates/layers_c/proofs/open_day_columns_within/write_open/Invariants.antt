use Rattle.std.proofs.Common.{◌≡◌, ℕ, ◌<◌, pos, get_or}
use Rattle.layers_c.specs.OpenDayColumnsWithin.{open_within_entry}
use Rattle.layers_c.proofs.open_day_columns_within.write_open.Given as goal

abbrev pub invariant-loop-i : goal.invariant-loop-i
invariant-loop-i l = (k : ℕ) → k < l.i → get_or l.marks k 0 ≡ open_within_entry l.years l.calendar (get_or l.dates k (pos 0))
