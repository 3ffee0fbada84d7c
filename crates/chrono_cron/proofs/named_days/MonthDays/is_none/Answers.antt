use Rattle.std.proofs.Common.{◌≡◌, ℕ, false, sym, ◌∙◌, ap₂, ◌||◌}
use Rattle.std.proofs.lemmas.Bool.{not-true}
use Rattle.chrono_sets.specs.FiniteSets.{has}
use Rattle.chrono_sets.proofs.Members.{has-none}
use Rattle.chrono_cron.proofs.NamedDaySets.{none_by_place, none_by_weekday, none_of_four}
use Rattle.chrono_cron.proofs.named_days.MonthDays.is_none.Goals as goal
use Rattle.chrono_cron.proofs.named_days.MonthDays.is_none.Goals.{Then-is_empty}

-- no set has a member
members : (c : Then-is_empty) (k : ℕ) → (has c.args.self.now.from_end k ≡ false) × (has c.args.self.now.nearest_workdays k ≡ false) × (has c.args.self.now.last_weekdays k ≡ false) × (has c.args.self.now.nth_weekdays k ≡ false)
members c k =
    none_of_four (has c.args.self.now.from_end k) (has c.args.self.now.nearest_workdays k) (has c.args.self.now.last_weekdays k) (has c.args.self.now.nth_weekdays k)
    (ap₂ (λ a b. a || b) (sym (c.union.ensures k)) (sym (c.union-2.ensures k)) ∙ (sym (c.union-all.ensures k) ∙ has-none _ k (sym c.is_empty.ensures ∙ c.if-is_empty.true)))

pub returns-then-is_empty-clause-place : goal.returns-then-is_empty-clause-place
returns-then-is_empty-clause-place c = λ last p follow w.
    none_by_place c.args.self.now p follow w (λ k. (members c k).0) (λ k. (members c k).1) (not-true c.args.self.now.last_workday last)

pub returns-then-is_empty-clause-weekday : goal.returns-then-is_empty-clause-weekday
returns-then-is_empty-clause-weekday c = λ last p follow w.
    none_by_weekday c.args.self.now p follow w (λ k. (members c k).2) (λ k. (members c k).3)
