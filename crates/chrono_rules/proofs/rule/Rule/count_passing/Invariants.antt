-- The dates that pass are counted up to the day that lies `later` days later.
use Rattle.std.proofs.Common.{◌≡◌, ◌≤ℤ◌, ◌+ℤ◌, ◌-ℤ◌, pos, unsigned_abs}
use Rattle.chrono_datetime.specs.Recurrence.{count_between}
use Rattle.chrono_rules.specs.ByParts.{date_passes}
use Rattle.chrono_rules.proofs.rule.Rule.count_passing.Given as goal

abbrev pub invariant-loop-later : goal.invariant-loop-later
invariant-loop-later l =
    (l.fn.first ≤ℤ l.later) × (l.later ≤ℤ l.fn.end)
    × (l.count ≡ count_between (date_passes l.self l.fn.start) (l.fn.date +ℤ l.fn.first) (l.fn.date +ℤ l.later))
    × ((l.fn.first +ℤ pos l.count) ≤ℤ l.later)

abbrev pub decreases-loop-later : goal.decreases-loop-later
decreases-loop-later l = unsigned_abs (l.fn.end -ℤ l.later)
