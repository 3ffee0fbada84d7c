use Rattle.std.proofs.Common.{sym, subst, ◌∙◌}
use Rattle.zoned_rules.specs.LocalTimes.{LocalParts}
use Rattle.zoned_rules.specs.Private.{IsListed}
use Rattle.zoned_rules.proofs.CandidateDays.{never, none_there}
use Rattle.zoned_rules.proofs.CountedUnits.{interval_units-some}
use Rattle.zoned_rules.proofs.local_rule.LocalRule.may_have_time.Goals as goal

pub returns : goal.returns
returns c = λ off q h.
    let s : LocalParts = record { days = c.self.inside.days; times = c.self.inside.times; start = c.self.inside.start; steps = c.self.inside.steps } in
    never s c.common_interval.result c.date.result q (interval_units-some s.steps) c.common_interval.ensures.positive c.common_interval.ensures.interval c.common_interval.ensures.day
    (none_there c.first_time.result c.first_time.ensures.none (sym c.is_some.ensures ∙ off)) (subst (λ (y : LocalParts). IsListed y q) (sym c.self.view_is) h)
