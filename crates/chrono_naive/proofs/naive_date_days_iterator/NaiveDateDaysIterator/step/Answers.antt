use Rattle.std.proofs.Common.{◌≡◌, None, Some, pos, ◌+ℤ◌, to_z, of_z, w32, refl, sym, ◌∙◌, arith}
use Rattle.chrono_calendar.proofs.Signed.{signed, casts}
use Rattle.chrono_naive.proofs.DayMoves.{some-date_of_day, none-date_of_day}
use Rattle.chrono_naive.proofs.DateListLemmas.{date_of_day-cursor, IsDayCursor-ended, days_from-yields}
use Rattle.chrono_naive.proofs.naive_date_days_iterator.NaiveDateDaysIterator.step.Goals as goal

-- ---- where there is no date at the cursor

pub returns-in_err-next-clause-date : goal.returns-in_err-next-clause-date
returns-in_err-next-clause-date c =
    rw c.from_residual.ensures (none-date_of_day c.args.self.now (sym c.in_err-next.was ∙ date_of_day-cursor _ c.self.inside.cursor c.args.self.now c.self.invariant c.self.view_is c.from_num_days_from_ce_opt.ensures.date))

pub returns-in_err-next-clause-refused : goal.returns-in_err-next-clause-refused
returns-in_err-next-clause-refused c =
    let no_date = rw c.from_residual.ensures at (returns-in_err-next-clause-date c) in
    rw c.from_residual.ensures (IsDayCursor-ended c.args.self.now (rw c.self.view_is at c.self.invariant) no_date)

pub returns-in_err-next-clause-steps : goal.returns-in_err-next-clause-steps
returns-in_err-next-clause-steps c =
    let no_date = rw c.from_residual.ensures at (returns-in_err-next-clause-date c) in
    rw c.from_residual.ensures (days_from-yields c.args.self.now c.args.self.now None (rw c.self.view_is at c.self.invariant) no_date tt refl)

-- ---- and where there is one

pub returns-clause-date : goal.returns-clause-date
returns-clause-date c =
    some-date_of_day c.args.self.now c.in_ok-next.next (sym c.in_ok-next.was ∙ date_of_day-cursor _ c.self.inside.cursor c.args.self.now c.self.invariant c.self.view_is c.from_num_days_from_ce_opt.ensures.date)

pub invariant_of-self : goal.invariant_of-self
invariant_of-self c =
    let found = returns-clause-date c in
    (omega (arith, casts, c.self.invariant.0, c.self.view_is, found.0.1), omega (arith, casts, c.self.invariant.0, c.self.view_is, found.0.1))

pub returns-clause-steps : goal.returns-clause-steps
returns-clause-steps c =
    let found = returns-clause-date c in
    let next : to_z w32 (of_z w32 (to_z w32 (of_z w32 c.self.inside.cursor) +ℤ pos 1)) ≡ c.args.self.now +ℤ pos 1 = omega (arith, casts, c.self.invariant.0, c.self.view_is, found.0.1) in
    days_from-yields c.args.self.now _ (Some c.in_ok-next.next) (rw c.self.view_is at c.self.invariant) found next tt

pub returns-clause-ended : goal.returns-clause-ended
returns-clause-ended c = λ e. absurd (omega (arith, signed, e, (returns-clause-date c).0.1))
