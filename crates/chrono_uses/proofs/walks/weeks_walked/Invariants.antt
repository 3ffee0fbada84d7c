-- The weeks walked through and those left make the whole.
use Rattle.std.proofs.Common.{◌≡◌, ◌+◌, length}
use Rattle.chrono_datetime.specs.DateLists.{weeks_from}
use Rattle.chrono_uses.proofs.walks.weeks_walked.Given as goal

abbrev pub invariant-loop-weeks : goal.invariant-loop-weeks
invariant-loop-weeks l = l.weeks + length (weeks_from l.dates) ≡ length (weeks_from l.fn.date)

abbrev pub decreases-loop-weeks : goal.decreases-loop-weeks
decreases-loop-weeks l = length (weeks_from l.dates)
