-- No day before this one meets a weekday.
use Rattle.std.proofs.Common.{ℕ, ◌<◌}
use Rattle.zoned_rules.specs.Private.{MissesWeekday}
use Rattle.zoned_rules.proofs.local_rule.LocalRule.meets_weekday.Given as goal

abbrev pub invariant-loop-day : goal.invariant-loop-day
invariant-loop-day l = (j : ℕ) → j < l.day → MissesWeekday l.self j
