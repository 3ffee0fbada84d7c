use Rattle.std.proofs.Common.{refl}
use Rattle.chrono_cron.proofs.MomentOrder.{never-days, never-minutes, not_never}
use Rattle.chrono_cron.proofs.field_sets.FieldSets.is_never_due.Goals as goal

pub returns-in_default : goal.returns-in_default
returns-in_default c = (λ yes. never-minutes c.args.self.now c.in_default.ensures.none, λ never. refl)

pub returns-in_default-first_day : goal.returns-in_default-first_day
returns-in_default-first_day c =
    (λ yes. never-days c.args.self.now c.first_date-first.result.0 c.first_date-first.ensures.of_type c.in_default-first_day.ensures.none, λ never. refl)

pub returns : goal.returns
returns c =
    let day = c.in-Some-first_day in (
      λ yes. cc,
      λ never. absurd (not_never c.args.self.now c.in-Some-first_day.field-0 c.in-Some.field-0 c.in-Some-first_day.ensures.in_range c.in-Some-first_day.ensures.member c.in-Some.ensures.within c.in-Some.ensures.member never),
    )
