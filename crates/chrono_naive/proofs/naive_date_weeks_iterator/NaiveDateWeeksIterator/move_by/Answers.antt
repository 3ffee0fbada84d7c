use Rattle.std.proofs.Common.{◌≡◌, Option, ap, sym, ◌∙◌, ℤ, ◌+ℤ◌, FitsSigned, w64, to_z, of_z}
use Rattle.std.proofs.lemmas.Int.{to_z-of_z}
use Rattle.chrono_calendar.specs.Days.{date_of_day}
use Rattle.chrono_naive.proofs.DayMoves.{some-date_of_day, none-date_of_day}
use Rattle.chrono_naive.proofs.naive_date_weeks_iterator.NaiveDateWeeksIterator.move_by.Goals as goal

-- the days are a machine number's, and the date that moves is the iterator's cursor
moved : (o : Option ℤ) (a n k : ℤ) → FitsSigned w64 k → a ≡ n → o ≡ date_of_day (a +ℤ to_z w64 (of_z w64 k)) → o ≡ date_of_day (n +ℤ k)
moved o a n k fits same e = e ∙ ap (λ d. date_of_day (a +ℤ d)) (to_z-of_z w64 k fits) ∙ ap (λ m. date_of_day (m +ℤ k)) same

pub returns-in_err-self-inside-clause-date : goal.returns-in_err-self-inside-clause-date
returns-in_err-self-inside-clause-date c =
    rw c.from_residual.ensures (none-date_of_day (c.args.self.now +ℤ c.args.days) (sym c.in_err-self-inside.was ∙ moved _ _ c.args.self.now c.args.days c.ranges.days c.self.view_is c.moved_by_days.ensures.date))

pub returns-clause-date : goal.returns-clause-date
returns-clause-date c =
    ((some-date_of_day (c.args.self.now +ℤ c.args.days) c.in_ok-self-inside.field-0 (sym c.in_ok-self-inside.was ∙ moved _ _ c.args.self.now c.args.days c.ranges.days c.self.view_is c.moved_by_days.ensures.date)).0, c.self.view_is)

pub returns-clause-moved : goal.returns-clause-moved
returns-clause-moved c =
    (some-date_of_day (c.args.self.now +ℤ c.args.days) c.in_ok-self-inside.field-0 (sym c.in_ok-self-inside.was ∙ moved _ _ c.args.self.now c.args.days c.ranges.days c.self.view_is c.moved_by_days.ensures.date)).1
