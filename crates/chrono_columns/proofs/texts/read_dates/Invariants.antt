use Rattle.std.proofs.Common.{ℕ, ◌<◌, [], pos, get_or}
use Rattle.chrono_columns.specs.Columns.{IsTextEntry}
use Rattle.chrono_columns.proofs.texts.read_dates.Given as goal

abbrev pub invariant-loop-i : goal.invariant-loop-i
invariant-loop-i l = (k : ℕ) → k < l.i → IsTextEntry (get_or l.texts k []) (get_or l.out k (pos 0))
