use Rattle.std.proofs.Common.{◌≡◌, ℕ, ◌+◌, subst, ap, ◌∙◌, arith, pos, ◌+ℤ◌, ◌-ℤ◌, unsigned_abs, w32}
use Rattle.std.proofs.lemmas.Int.{to_z-of_z}
use Rattle.chrono_datetime.specs.Recurrence.{count_where, first_date}
use Rattle.chrono_datetime.proofs.Signed.{casts, signed}
use Rattle.chrono_business.specs.OpenDays.{AreHolidays, Closed, is_workday, open_days}
use Rattle.chrono_business.proofs.Ranks.{rank-at_place}
use Rattle.chrono_business.proofs.calendar.Calendar.rank_of_day.Goals as goal

-- the open days before the day and the holidays before it are the workdays before it
counted : (c : goal.After-holidays_before) → open_days c.args.self.now first_date c.args.day + c.holidays_before.result ≡ c.workdays.result
counted c =
    let now = c.args.self.now in
    let P : Closed → Type 0 = λ v. AreHolidays v.weekend v.holidays in
    let k : ℕ = unsigned_abs (c.args.day -ℤ first_date) in
    let at : c.args.day ≡ first_date +ℤ pos k = omega (arith, signed, c.requires.from) in
    let weekend : c.self.inside.week ≡ now.weekend = ap (λ (v : Closed). v.weekend) c.self.view_is in
    let workdays : c.workdays.result ≡ count_where (is_workday now.weekend) k first_date =
    rw weekend at c.workdays.ensures.counted ∙ ap (λ n. count_where (is_workday now.weekend) n first_date) (omega (arith, casts, at)) in
    omega (arith, workdays, rank-at_place now c.args.day k c.holidays_before.result (subst P c.self.view_is c.self.invariant) at c.holidays_before.ensures.bound (simp (to_z-of_z w32 c.args.day c.ranges.day) at c.holidays_before.ensures.place))

pub overflow_cast-result : goal.overflow_cast-result
overflow_cast-result c = omega (arith, counted c, c.workdays.type_inv)

pub overflow_sub-result : goal.overflow_sub-result
overflow_sub-result c = omega (arith, counted c)

pub returns-clause-value : goal.returns-clause-value
returns-clause-value c = omega (arith, counted c)
