-- The rest has the star bit if the whole field has it and no item so far has.
use Rattle.std.proofs.Common.{◌≡◌, length}
use Rattle.timed_cron.specs.RobfigTexts.{has_star}
use Rattle.timed_cron.proofs.robfig_reader.has_star.Given as goal

abbrev pub invariant-loop-behind : goal.invariant-loop-behind
invariant-loop-behind l = has_star l.initial.rest ≡ has_star l.rest

abbrev pub decreases-loop-behind : goal.decreases-loop-behind
decreases-loop-behind l = length l.rest
