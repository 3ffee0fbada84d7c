-- When a schedule fires next in a zone, and when it fired last.
use Rattle.std.specs.Prelude.{ℤ, Option, IfSome, IfNone}
use Rattle.chrono_datetime.specs.Moment.{Moment, IsBefore}
use Rattle.chrono_cron.specs.declared.field_sets.FieldSets.{FieldSets}
use Rattle.zoned_cron.specs.Fires.{FiresAt, FollowsClock, NotFiringAfter, NotFiringBefore, NotFiringBetween, as_planned, as_shown}
use Rattle.zoned_cron.specs.declared.policy.Policy.{Policy}

-- what is found after a moment of UTC: the first at which the schedule fires by a policy, and none if there is none
pub record IsNextBy (s : FieldSets) (ahead : ℤ → ℤ) (p : Policy) (start : Moment) (found : Option Moment) : Type 0 where
  pub fires : IfSome found (λ m. FiresAt s ahead p m)
  pub later : IfSome found (λ m. IsBefore start m)
  pub least : IfSome found (λ m. NotFiringBetween s ahead p start m)
  pub none : IfNone found (NotFiringAfter s ahead p start)

-- by the policy of Vixie's cron: a schedule whose minutes or hours begin with `*` goes by what the clock shows, and another fires once each, but
-- where the clock is set ahead by three hours or back by more
pub record IsNextFiring (s : FieldSets) (ahead : ℤ → ℤ) (start : Moment) (found : Option Moment) : Type 0 where
  pub clock : FollowsClock s → IsNextBy s ahead as_shown start found
  pub fixed : ¬ FollowsClock s → IsNextBy s ahead as_planned start found

-- what is found before a moment of UTC: the last at which the schedule fires by a policy, and none if there is none
pub record IsLastBy (s : FieldSets) (ahead : ℤ → ℤ) (p : Policy) (start : Moment) (found : Option Moment) : Type 0 where
  pub fires : IfSome found (λ m. FiresAt s ahead p m)
  pub earlier : IfSome found (λ m. IsBefore m start)
  pub greatest : IfSome found (λ m. NotFiringBetween s ahead p m start)
  pub none : IfNone found (NotFiringBefore s ahead p start)

-- by the same policy of Vixie's cron
pub record IsLastFiring (s : FieldSets) (ahead : ℤ → ℤ) (start : Moment) (found : Option Moment) : Type 0 where
  pub clock : FollowsClock s → IsLastBy s ahead as_shown start found
  pub fixed : ¬ FollowsClock s → IsLastBy s ahead as_planned start found
