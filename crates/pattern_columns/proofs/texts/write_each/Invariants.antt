use Rattle.std.proofs.Common.{◌≡◌, ℕ, ◌<◌, [], pos, get_or}
use Rattle.pattern_columns.specs.Layouts.{layout_text, name_text_by}
use Rattle.pattern_columns.proofs.texts.write_each.Given as goal

abbrev pub invariant-loop-i : goal.invariant-loop-i
invariant-loop-i l =
    (k : ℕ) → k < l.i → get_or l.texts k [] ≡ name_text_by 10 (layout_text l.layout) (get_or l.years k (pos 0)) (get_or l.months k 0) (get_or l.days k 0)
