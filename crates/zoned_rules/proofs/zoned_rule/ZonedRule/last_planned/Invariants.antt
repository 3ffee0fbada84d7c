-- The best instant so far is no earlier than each that a later local time stands for.
use Rattle.std.proofs.Common.{pos, ◌+ℤ◌, ◌<ℤ◌, IfSome, unsigned_abs}
use Rattle.chrono_instant.specs.Instants.{epoch_second}
use Rattle.zoned_rules.specs.Private.{IsListedSince, IsStoodFor, ReachesBehind}
use Rattle.zoned_rules.proofs.zoned_rule.ZonedRule.last_planned.Given as goal

abbrev pub invariant-loop-local : goal.invariant-loop-local
invariant-loop-local g l =
    IsListedSince l.self.local l.local
    × ReachesBehind l.self.local (g.Z.TimeZone.ahead l.self.zone) l.fn.end (epoch_second l.local) l.best
    × IfSome l.best (λ c. (c <ℤ l.fn.end) × IsStoodFor l.self.local (g.Z.TimeZone.ahead l.self.zone) c)

abbrev pub decreases-loop-local : goal.decreases-loop-local
decreases-loop-local g l = unsigned_abs (epoch_second l.local +ℤ pos 8_334_601_228_801)
