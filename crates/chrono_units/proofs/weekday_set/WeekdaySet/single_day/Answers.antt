use Rattle.std.proofs.Common.{◌∙◌, sym, ap}
use Rattle.chrono_units.specs.WeekdaySet.{walk, first_day}
use Rattle.chrono_units.specs.declared.weekday.Weekday.TheVariants.{Mon}
use Rattle.chrono_units.proofs.SetMembers.{single-of_first, ones-single, first_day-single}
use Rattle.chrono_units.proofs.weekday_set.WeekdaySet.single_day.Goals as goal

pub returns-then-self-eq1 : goal.returns-then-self-eq1
returns-then-self-eq1 c =
    λ d. (
      λ h. sym c.self.view_is ∙ single-of_first c.self.inside.digits c.self.invariant c.if-self-eq1.true d (ap (λ s. first_day (walk s Mon)) c.self.view_is ∙ sym c.first.ensures ∙ h),
      λ h. c.first.ensures ∙ ap (λ s. first_day (walk s Mon)) h ∙ first_day-single d,
    )

pub returns-else-self-eq1 : goal.returns-else-self-eq1
returns-else-self-eq1 c =
    λ d. (λ h. cc, λ h. absurd (c.if-self-eq1.false (ones-single c.self.inside.digits c.self.invariant d (c.self.view_is ∙ h))))
