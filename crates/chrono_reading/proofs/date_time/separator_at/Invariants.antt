-- No byte so far is a separator.
use Rattle.std.proofs.Common.{ℕ, ◌<◌, get_or}
use Rattle.chrono_reading.specs.DateTimeTexts.{IsSeparator}
use Rattle.chrono_reading.proofs.date_time.separator_at.Given as goal

abbrev pub invariant-loop-at : goal.invariant-loop-at
invariant-loop-at l = (k : ℕ) → k < l.at → ¬ IsSeparator (get_or l.text k 0)
