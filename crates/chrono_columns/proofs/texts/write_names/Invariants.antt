use Rattle.std.proofs.Common.{◌≡◌, ℕ, ◌<◌, [], pos, get_or}
use Rattle.chrono_columns.specs.Columns.{name_text_entry}
use Rattle.chrono_columns.proofs.texts.write_names.Given as goal

abbrev pub invariant-loop-i : goal.invariant-loop-i
invariant-loop-i l =
    (k : ℕ) → k < l.i → get_or l.texts k [] ≡ name_text_entry (get_or l.years k (pos 0)) (get_or l.months k 0) (get_or l.days k 0)
