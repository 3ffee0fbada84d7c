use Rattle.std.proofs.Common.{◌≡◌, ℤ, Some, pos, ◌-ℤ◌, ap, sym, ◌∙◌, arith, to_z, of_z, w32}
use Rattle.chrono_calendar.specs.Days.{IsDate, date_of_day}
use Rattle.chrono_calendar.proofs.Signed.{signed, casts}
use Rattle.chrono_naive.specs.DateLists.{IsDayCursor}
use Rattle.chrono_naive.proofs.DayMoves.{some-date_of_day, none-date_of_day}
use Rattle.chrono_naive.proofs.DateListLemmas.{date_of_day-cursor}
use Rattle.chrono_naive.proofs.naive_date_days_iterator.NaiveDateDaysIterator.next_back.Goals as goal

-- the date d that was read at the cursor
read : (a n d : ℤ) → IsDayCursor a → a ≡ n → Some d ≡ date_of_day (to_z w32 (of_z w32 a)) → IsDate n × (d ≡ n)
read a n d h e f = some-date_of_day n d (date_of_day-cursor (Some d) a n h e f)

pub returns-in_err-date-clause-date : goal.returns-in_err-date-clause-date
returns-in_err-date-clause-date c =
    rw c.from_residual.ensures (λ h. none-date_of_day c.args.self.now (sym c.in_err-date.was ∙ date_of_day-cursor _ c.self.inside.cursor c.args.self.now c.self.invariant c.self.view_is c.from_num_days_from_ce_opt.ensures.date) h.0)

pub returns-in_err-pred_opt-clause-date : goal.returns-in_err-pred_opt-clause-date
returns-in_err-pred_opt-clause-date c =
    let found = read c.self.inside.cursor c.args.self.now c.in_ok-date.date c.self.invariant c.self.view_is (sym c.in_ok-date.was ∙ c.from_num_days_from_ce_opt.ensures.date) in
    rw c.from_residual-in_err-pred_opt.ensures (λ h. none-date_of_day (c.args.self.now -ℤ pos 1) (sym c.in_err-pred_opt.was ∙ c.pred_opt.ensures.date ∙ ap (λ n. date_of_day (n -ℤ pos 1)) found.1) h.1)

pub returns-clause-date : goal.returns-clause-date
returns-clause-date c =
    let found = read c.self.inside.cursor c.args.self.now c.in_ok-date.date c.self.invariant c.self.view_is (sym c.in_ok-date.was ∙ c.from_num_days_from_ce_opt.ensures.date) in
    let before = some-date_of_day (c.args.self.now -ℤ pos 1) c.in_ok-pred_opt.field-0 (sym c.in_ok-pred_opt.was ∙ c.pred_opt.ensures.date ∙ ap (λ n. date_of_day (n -ℤ pos 1)) found.1) in
    ((found.0, before.0), found.1)

pub returns-clause-moved : goal.returns-clause-moved
returns-clause-moved c =
    let found = read c.self.inside.cursor c.args.self.now c.in_ok-date.date c.self.invariant c.self.view_is (sym c.in_ok-date.was ∙ c.from_num_days_from_ce_opt.ensures.date) in
    let before = some-date_of_day (c.args.self.now -ℤ pos 1) c.in_ok-pred_opt.field-0 (sym c.in_ok-pred_opt.was ∙ c.pred_opt.ensures.date ∙ ap (λ n. date_of_day (n -ℤ pos 1)) found.1) in
    omega (arith, casts, c.day_number-self-inside.ensures.value, c.day_number-self-inside.ensures.in_range, before.1)

pub returns-clause-ended : goal.returns-clause-ended
returns-clause-ended c = λ e. absurd (omega (arith, signed, e, (returns-clause-date c).0.0.1))
