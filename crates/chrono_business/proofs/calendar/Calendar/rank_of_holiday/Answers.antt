use Rattle.std.proofs.Common.{◌≡◌, ℕ, ◌+◌, subst, ap, ◌∙◌, arith, ℤ, pos, ◌+ℤ◌, ◌-ℤ◌, unsigned_abs}
use Rattle.std.specs.Prelude.{slice_index_or}
use Rattle.std.proofs.lemmas.List.{get_or_default}
use Rattle.chrono_datetime.specs.Recurrence.{count_where, first_date}
use Rattle.chrono_datetime.proofs.Signed.{casts, signed}
use Rattle.chrono_business.specs.OpenDays.{AreHolidays, Closed, is_workday, open_days}
use Rattle.chrono_business.proofs.Ranks.{rank-holiday}
use Rattle.chrono_business.proofs.calendar.Calendar.rank_of_holiday.Goals as goal

abbrev IsCalendar : Closed → Type 0
IsCalendar v = AreHolidays v.weekend v.holidays

-- its rank and its place are the workdays before it
counted : (c : goal.After-workdays) (d : ℤ) → open_days c.args.self.now first_date (slice_index_or c.args.self.now.holidays c.args.place d) + c.args.place ≡ c.workdays.result
counted c d =
    let now = c.args.self.now in
    let day : ℤ = slice_index_or now.holidays c.args.place d in
    let k : ℕ = unsigned_abs (day -ℤ first_date) in
    let are = subst IsCalendar c.self.view_is c.self.invariant in
    let at : day ≡ first_date +ℤ pos k = omega (arith, signed, (are.dates c.args.place d c.requires).0) in
    let weekend : c.self.inside.week ≡ now.weekend = ap (λ (v : Closed). v.weekend) c.self.view_is in
    let holidays : c.self.inside.holidays ≡ now.holidays = ap (λ (v : Closed). v.holidays) c.self.view_is in
    let read = rw holidays at (rw c.as_slice-holidays.ensures at c.index-holidays-place.is) in
    let same : c.num_days_from_ce.result ≡ day = c.num_days_from_ce.ensures.value ∙ (read ∙ get_or_default now.holidays c.args.place _ d c.requires) in
    let workdays : c.workdays.result ≡ count_where (is_workday now.weekend) k first_date =
    rw weekend at c.workdays.ensures.counted ∙ ap (λ n. count_where (is_workday now.weekend) n first_date) (omega (arith, casts, at, same)) in
    omega (arith, workdays, rank-holiday now d c.args.place k are c.requires at)

pub overflow_cast-result : goal.overflow_cast-result
overflow_cast-result c = omega (arith, counted c (pos 0), c.workdays.type_inv)

pub overflow_sub-result : goal.overflow_sub-result
overflow_sub-result c = omega (arith, counted c (pos 0))

pub returns : goal.returns
returns c = λ d. omega (arith, counted c d)
