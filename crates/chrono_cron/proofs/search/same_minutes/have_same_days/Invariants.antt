-- The days so far agree.
use Rattle.std.proofs.Common.{◌≡◌, pos, neg_ℤ, ◌+ℤ◌}
use Rattle.chrono_cron.proofs.SameDues.{AgreeFrom}
use Rattle.chrono_cron.proofs.search.same_minutes.have_same_days.Given as goal

abbrev pub invariant-loop-left : goal.invariant-loop-left
invariant-loop-left l = (l.date +ℤ pos l.left ≡ neg_ℤ (pos 95_746_129) +ℤ pos 146_097) × AgreeFrom l.one l.other (neg_ℤ (pos 95_746_129)) l.date

abbrev pub decreases-loop-left : goal.decreases-loop-left
decreases-loop-left l = l.left
