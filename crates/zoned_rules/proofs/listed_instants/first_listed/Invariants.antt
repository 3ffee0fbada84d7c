-- The best second so far is no later than each of the instants but the rest, and it is one of them.
use Rattle.std.proofs.Common.{ℤ, ◌<ℤ◌, length}
use Rattle.zoned_rules.specs.Private.{IsReached}
use Rattle.zoned_rules.proofs.InstantLists.{IsWalkedOver}
use Rattle.zoned_rules.proofs.listed_instants.first_listed.Given as goal

abbrev pub invariant-loop-first : goal.invariant-loop-first
invariant-loop-first g l = IsWalkedOver IsReached (λ (c : ℤ). l.fn.after <ℤ c) (g.Z.TimeZone.ahead l.zone) l.fn.instants l.rest l.best

abbrev pub decreases-loop-first : goal.decreases-loop-first
decreases-loop-first g l = length l.rest
