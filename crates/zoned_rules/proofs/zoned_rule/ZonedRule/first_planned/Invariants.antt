-- The best instant so far is no later than each that an earlier local time stands for.
use Rattle.std.proofs.Common.{pos, ◌-ℤ◌, ◌<ℤ◌, IfSome, unsigned_abs}
use Rattle.chrono_instant.specs.Instants.{epoch_second}
use Rattle.zoned_rules.specs.Private.{IsListedSince, IsStoodFor, ReachesAhead}
use Rattle.zoned_rules.proofs.zoned_rule.ZonedRule.first_planned.Given as goal

abbrev pub invariant-loop-local : goal.invariant-loop-local
invariant-loop-local g l =
    IsListedSince l.self.local l.local
    × ReachesAhead l.self.local (g.Z.TimeZone.ahead l.self.zone) l.fn.after (epoch_second l.local) l.best
    × IfSome l.best (λ c. (l.fn.after <ℤ c) × IsStoodFor l.self.local (g.Z.TimeZone.ahead l.self.zone) c)

abbrev pub decreases-loop-local : goal.decreases-loop-local
decreases-loop-local g l = unsigned_abs (pos 8_210_266_876_799 -ℤ epoch_second l.local)
