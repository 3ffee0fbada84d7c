use Rattle.std.proofs.Common.{ℕ, ◌<◌, [], pos, get_or}
use Rattle.pattern_columns.specs.Layouts.{IsEntryBy, compact_text}
use Rattle.pattern_columns.proofs.compact.read_compact_dates.Given as goal

abbrev pub invariant-loop-i : goal.invariant-loop-i
invariant-loop-i l = (k : ℕ) → k < l.i → IsEntryBy compact_text (get_or l.texts k []) (get_or l.out k (pos 0))
