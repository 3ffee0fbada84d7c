use Rattle.std.proofs.Common.{◌≡◌, ℕ, Bool, Some, ap, ◌∙◌, sym, arith, ℤ, to_z, of_z, w32}
use Rattle.chrono_units.specs.Years.{is_leap_year, month_length_in}
use Rattle.chrono_calendar.specs.Days.{IsDate, year_of, day_of}
use Rattle.chrono_calendar.specs.MonthMoves.{month_last_of, month_length_of}
use Rattle.chrono_calendar.proofs.Signed.{casts}
use Rattle.chrono_calendar.proofs.MonthDays.{date_of_month_last, day_of-bounds, in_month-IsDate, month_last_of-is}
use Rattle.chrono_naive.proofs.naive_date.NaiveDate.last_day_of_month.Goals as goal

-- the last day of the month is a date
date : (n : ℤ) → IsDate n → IsDate (month_last_of n)
date n h = in_month-IsDate n (month_last_of n) h (month_last_of-is n).month

same_length : (a b : Bool) (m p : ℕ) → a ≡ b → m ≡ p → month_length_in a m ≡ month_length_in b p
same_length a b m p e f = cc

-- the length of the month, as it was read
length : (c : goal.After-moved_by_days) → c.month_length-length.result ≡ month_length_of c.args.self.now
length c =
    let read = c.year_month_day-year.ensures in
    let year : to_z w32 (of_z w32 c.year_month_day-year.result.0) ≡ year_of c.args.self.now = omega (arith, casts, read.year, read.in_range) in
    c.month_length-length.ensures ∙ same_length _ _ _ _ (c.is_leap_year.ensures ∙ ap is_leap_year year) read.month

pub unwrap-requires : goal.unwrap-requires
unwrap-requires c =
    let n = c.args.self.now in
    let h = c.moved_by_days.ensures.in_range in
    let last = date n h in
    let read = c.year_month_day-year.ensures in
    let length = length c in
    c.moved_by_days.ensures.exists.1 (omega (arith, casts, h, last, length, read.day, c.from.ensures, c.from-2.ensures, day_of-bounds n), omega (arith, casts, h, last, length, read.day, c.from.ensures, c.from-2.ensures, day_of-bounds n))

pub returns-clause-last : goal.returns-clause-last
returns-clause-last c =
    let read = c.year_month_day-year.ensures in
    let length = length c.before in
    omega (arith, casts, rw c.unwrap.ensures at c.moved_by_days.ensures.back, length, read.day, c.from.ensures, c.from-2.ensures, day_of-bounds c.args.self.now)

pub returns-clause-name : goal.returns-clause-name
returns-clause-name c =
    date_of_month_last c.args.self.now c.moved_by_days.ensures.in_range ∙ ap Some (sym (returns-clause-last c))

pub returns-clause-month : goal.returns-clause-month
returns-clause-month c = rw (returns-clause-last c) (month_last_of-is c.args.self.now).month

pub returns-clause-day : goal.returns-clause-day
returns-clause-day c = ap day_of (returns-clause-last c) ∙ (month_last_of-is c.args.self.now).day
