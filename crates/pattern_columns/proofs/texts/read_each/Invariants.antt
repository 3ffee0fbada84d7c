use Rattle.std.proofs.Common.{ℕ, ◌<◌, [], pos, get_or}
use Rattle.pattern_columns.specs.Layouts.{IsEntryBy, layout_text}
use Rattle.pattern_columns.proofs.texts.read_each.Given as goal

abbrev pub invariant-loop-i : goal.invariant-loop-i
invariant-loop-i l = (k : ℕ) → k < l.i → IsEntryBy (layout_text l.layout) (get_or l.texts k []) (get_or l.out k (pos 0))
