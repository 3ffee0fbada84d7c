use Rattle.std.proofs.Common.{rules, ◌≡◌, ℤ, true, subst, sym}
use Rattle.chrono_rules.specs.Instances.{is_instance}
use Rattle.zoned_rules.specs.LocalTimes.{LocalParts}
use Rattle.zoned_rules.specs.Private.{IsListed}
use Rattle.zoned_rules.proofs.CountedUnits.{interval_units-some}
use Rattle.zoned_rules.proofs.WeeklyUnits.{misses}
use Rattle.zoned_rules.proofs.local_rule.LocalRule.may_have_weekday.Goals as goal

pub returns : goal.returns
returns c = λ off q h.
    let s : LocalParts = record { days = c.self.inside.days; times = c.self.inside.times; start = c.self.inside.start; steps = c.self.inside.steps } in
    misses s c.weekly_interval.result q (interval_units-some s.steps) c.weekly_interval.ensures.positive c.weekly_interval.ensures.interval c.weekly_interval.ensures.week
    (λ n is. c.instances_have_listed_weekdays.ensures.plain n (search rules) (search rules) (search rules) (subst (λ (d : ℤ). is_instance c.self.inside.days d n ≡ true) (sym c.date.ensures) is))
    (c.meets_weekday.ensures off) (subst (λ (y : LocalParts). IsListed y q) (sym c.self.view_is) h)
