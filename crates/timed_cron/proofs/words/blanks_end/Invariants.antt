-- The bytes so far are blanks.
use Rattle.std.proofs.Common.{◌≤◌, ◌-◌, length}
use Rattle.timed_cron.specs.Private.{AreBlank}
use Rattle.timed_cron.proofs.words.blanks_end.Given as goal

abbrev pub invariant-loop-place : goal.invariant-loop-place
invariant-loop-place l = (l.fn.from ≤ l.place) × (l.place ≤ length l.text) × AreBlank l.text l.fn.from l.place

abbrev pub decreases-loop-place : goal.decreases-loop-place
decreases-loop-place l = length l.text - l.place
