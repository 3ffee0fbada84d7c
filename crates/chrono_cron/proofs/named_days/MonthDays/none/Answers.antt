use Rattle.std.proofs.Common.{◌≡◌, ℕ, false, refl, ap, ◌∙◌}
use Rattle.chrono_sets.specs.FiniteSets.{FiniteSet, has, no_numbers}
use Rattle.chrono_sets.proofs.Members.{has-no_numbers}
use Rattle.chrono_cron.proofs.NamedDaySets.{none_by_place, none_by_weekday}
use Rattle.chrono_cron.proofs.named_days.MonthDays.none.Goals as goal

no_member : (set : FiniteSet) → set ≡ no_numbers → (k : ℕ) → has set k ≡ false
no_member set is k = ap (λ s. has s k) is ∙ has-no_numbers k

pub returns-clause-place : goal.returns-clause-place
returns-clause-place c = λ p follow w.
    let none = no_member c.none-none.result c.none-none.ensures in
    none_by_place _ p follow w none none refl

pub returns-clause-weekday : goal.returns-clause-weekday
returns-clause-weekday c = λ p follow w.
    let none = no_member c.none-none.result c.none-none.ensures in
    none_by_weekday _ p follow w none none
