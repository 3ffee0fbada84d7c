use Rattle.std.proofs.Common.{◌≡◌, ℕ, ◌+◌, ◌*◌, ◌/◌, subst, ap, arith, ℤ, pos, ◌+ℤ◌, refl}
use Rattle.std.proofs.lemmas.Option.{IfSome_then}
use Rattle.chrono_datetime.specs.Recurrence.{first_date}
use Rattle.chrono_datetime.proofs.Signed.{casts, signed}
use Rattle.chrono_business.specs.OpenDays.{AreHolidays, Closed}
use Rattle.chrono_business.proofs.Ranks.{IsOpenAt, none-open, none-past, placed-by_weeks, placed-open}
use Rattle.chrono_business.proofs.calendar.Calendar.at_rank.Goals as goal

abbrev IsCalendar : Closed → Type 0
IsCalendar v = AreHolidays v.weekend v.holidays

pub returns-then-per_week-eq0-clause-none : goal.returns-then-per_week-eq0-clause-none
returns-then-per_week-eq0-clause-none c =
    let weekend : c.self.inside.week ≡ c.args.self.now.weekend = ap (λ (v : Closed). v.weekend) c.self.view_is in
    let week = rw weekend at c.workdays_of_week.ensures.counted in
    none-open c.args.self.now c.args.rank (subst IsCalendar c.self.view_is c.self.invariant) (omega (arith, week, c.from-per_week.ensures, c.if-per_week-eq0.true))

-- the day so many workdays on, by whole weeks, is the open day of the rank
pub returns-then-days-gt-DATES_AFTER_FIRST-clause-none : goal.returns-then-days-gt-DATES_AFTER_FIRST-clause-none
returns-then-days-gt-DATES_AFTER_FIRST-clause-none c =
    let now = c.args.self.now in
    let weekend : c.self.inside.week ≡ now.weekend = ap (λ (v : Closed). v.weekend) c.self.view_is in
    let are = subst IsCalendar c.self.view_is c.self.invariant in
    let j = c.holidays_up_to.result in
    let n : ℕ = c.from.result + j in
    let k : ℕ = n / c.from-per_week.result * 7 + c.from-2.result in
    let e : ℤ = first_date +ℤ pos k in
    let week = rw weekend at c.workdays_of_week.ensures.counted in
    let workday = rw weekend at c.days_to_workday-place.ensures.workday in
    let count = rw weekend at c.days_to_workday-place.ensures.counted in
    let placed = placed-by_weeks now c.args.rank j n c.from-per_week.result c.days_to_workday-place.result k e (omega (arith, week, c.from-per_week.ensures)) (omega (arith, c.from.ensures)) (omega (arith, c.from-2.ensures)) refl workday count c.holidays_up_to.ensures.bound c.holidays_up_to.ensures.behind c.holidays_up_to.ensures.ahead in
    none-past now c.args.rank e (placed-open now c.args.rank j k e are placed) (omega (arith, signed, c.if-days-gt-DATES_AFTER_FIRST.true))

found : (c : goal.After-from_num_days_from_ce_opt) (e : ℤ) → e ≡ first_date +ℤ pos ((c.from.result + c.holidays_up_to.result) / c.from-per_week.result * 7 + c.from-2.result) → IsOpenAt c.args.self.now c.args.rank e
found c e at =
    let now = c.args.self.now in
    let weekend : c.self.inside.week ≡ now.weekend = ap (λ (v : Closed). v.weekend) c.self.view_is in
    let are = subst IsCalendar c.self.view_is c.self.invariant in
    let j = c.holidays_up_to.result in
    let n : ℕ = c.from.result + j in
    let k : ℕ = n / c.from-per_week.result * 7 + c.from-2.result in
    let week = rw weekend at c.workdays_of_week.ensures.counted in
    let workday = rw weekend at c.days_to_workday-place.ensures.workday in
    let count = rw weekend at c.days_to_workday-place.ensures.counted in
    placed-open now c.args.rank j k e are
    (placed-by_weeks now c.args.rank j n c.from-per_week.result c.days_to_workday-place.result k e (omega (arith, week, c.from-per_week.ensures)) (omega (arith, c.from.ensures)) (omega (arith, c.from-2.ensures)) at workday count c.holidays_up_to.ensures.bound c.holidays_up_to.ensures.behind c.holidays_up_to.ensures.ahead)

pub returns-clause-passes : goal.returns-clause-passes
returns-clause-passes c =
    IfSome_then c.from_num_days_from_ce_opt.result c.from_num_days_from_ce_opt.ensures.number (λ e h. (found c e (omega (arith, casts, h, c.if-days-gt-DATES_AFTER_FIRST.false))).passes)

pub returns-clause-count : goal.returns-clause-count
returns-clause-count c =
    IfSome_then c.from_num_days_from_ce_opt.result c.from_num_days_from_ce_opt.ensures.number (λ e h. (found c e (omega (arith, casts, h, c.if-days-gt-DATES_AFTER_FIRST.false))).count)
