use Rattle.std.proofs.Common.{◌≡◌, pos, ◌+ℤ◌, refl, sym, ◌∙◌, IsSome, None, Option, ◌↔◌}
use Rattle.chrono_naive.proofs.DayMoves.{some-date_of_day, none-date_of_day}
use Rattle.chrono_naive.proofs.naive_week.NaiveWeek.checked_days.Goals as goal

no_answer : {A : Type 0} (o : Option A) (P : Type 0) → o ≡ None → (P → ⊥) → IsSome o ↔ P
no_answer o P e h = rw e ((λ t. cc), (λ p. absurd (h p)))

pub returns-in_err-first-clause-exists : goal.returns-in_err-first-clause-exists
returns-in_err-first-clause-exists c =
    no_answer _ _ c.from_residual.ensures (λ h. none-date_of_day c.args.self.now (sym c.in_err-first.was ∙ c.checked_first_day.ensures.date) h.0)

pub returns-in_err-last-clause-exists : goal.returns-in_err-last-clause-exists
returns-in_err-last-clause-exists c =
    no_answer _ _ c.from_residual-in_err-last.ensures (λ h. none-date_of_day (c.args.self.now +ℤ pos 6) (sym c.in_err-last.was ∙ c.checked_last_day.ensures.date) h.1)

pub returns-clause-exists : goal.returns-clause-exists
returns-clause-exists c =
    let first = some-date_of_day c.args.self.now c.in_ok-first.first (sym c.in_ok-first.was ∙ c.checked_first_day.ensures.date) in
    let last = some-date_of_day (c.args.self.now +ℤ pos 6) c.in_ok-last.last (sym c.in_ok-last.was ∙ c.checked_last_day.ensures.date) in
    ((λ _. (first.0, last.0)), (λ _. refl))

pub returns-clause-days : goal.returns-clause-days
returns-clause-days c =
    let first = some-date_of_day c.args.self.now c.in_ok-first.first (sym c.in_ok-first.was ∙ c.checked_first_day.ensures.date) in
    let last = some-date_of_day (c.args.self.now +ℤ pos 6) c.in_ok-last.last (sym c.in_ok-last.was ∙ c.checked_last_day.ensures.date) in
    record { start = c.new.ensures.start ∙ first.1; end = c.new.ensures.end ∙ last.1; whole = c.new.ensures.exhausted }
