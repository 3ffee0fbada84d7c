use Rattle.std.proofs.Common.{Some, ap, ◌∙◌, sym, arith, ℤ}
use Rattle.chrono_calendar.specs.Days.{IsDate, day_of}
use Rattle.chrono_calendar.specs.MonthMoves.{month_first_of}
use Rattle.chrono_calendar.proofs.Signed.{casts}
use Rattle.chrono_calendar.proofs.MonthDays.{date_of_month_first, day_of-bounds, in_month-IsDate, month_first_of-is}
use Rattle.chrono_naive.proofs.naive_date.NaiveDate.first_day_of_month.Goals as goal

-- the first day of the month is a date
date : (n : ℤ) → IsDate n → IsDate (month_first_of n)
date n h = in_month-IsDate n (month_first_of n) h (month_first_of-is n).month

pub unwrap-requires : goal.unwrap-requires
unwrap-requires c =
    let n = c.args.self.now in
    let h = c.moved_by_days.ensures.in_range in
    let first = date n h in
    let day = c.year_month_day-day.ensures.day in
    c.moved_by_days.ensures.exists.1 (omega (arith, casts, h, first, day, c.from.ensures, day_of-bounds n), omega (arith, casts, h, first, day, c.from.ensures, day_of-bounds n))

pub returns-clause-first : goal.returns-clause-first
returns-clause-first c =
    omega (arith, casts, rw c.unwrap.ensures at c.moved_by_days.ensures.back, c.year_month_day-day.ensures.day, c.from.ensures, day_of-bounds c.args.self.now)

pub returns-clause-name : goal.returns-clause-name
returns-clause-name c =
    date_of_month_first c.args.self.now c.moved_by_days.ensures.in_range ∙ ap Some (sym (returns-clause-first c))

pub returns-clause-month : goal.returns-clause-month
returns-clause-month c = rw (returns-clause-first c) (month_first_of-is c.args.self.now).month

pub returns-clause-day : goal.returns-clause-day
returns-clause-day c = ap day_of (returns-clause-first c) ∙ (month_first_of-is c.args.self.now).day
