use Rattle.std.proofs.Common.{arith, ℤ, pos, ◌+ℤ◌, ◌≤ℤ◌, of_z, to_z, w64}
use Rattle.std.proofs.lemmas.Bool.{false≢true}
use Rattle.std.proofs.lemmas.Int.{by_lt_z}
use Rattle.chrono_calendar.proofs.MonthMoveLaws.{year_of-range}
use Rattle.chrono_datetime.specs.Days.{IsDate, year_of}
use Rattle.chrono_datetime.specs.MonthMoves.{InSameMonth, month_index_of, year_of_month_index}
use Rattle.chrono_datetime.specs.Years.{IsYear}
use Rattle.chrono_datetime.proofs.MonthOrder.{month_of-range}
use Rattle.chrono_datetime.proofs.MonthPlaces.{later_month, month_before_first}
use Rattle.chrono_datetime.proofs.Signed.{casts, signed}
use Rattle.chrono_rules.proofs.Months.{first_later}
use Rattle.chrono_rules.proofs.search.skipped_days.days_to_month.Goals as goal

-- a month outside the calendar is later than that of any date
none_later : (first day d months : ℤ) → (IsYear (year_of_month_index (month_index_of first +ℤ months)) → ⊥) → InSameMonth first day → IsYear (year_of day) → IsYear (year_of d)
    → pos 0 ≤ℤ months → (month_index_of day +ℤ months) ≤ℤ month_index_of d → ⊥
none_later first day d months none same low high some more =
    let a = month_of-range day in
    let b = month_of-range d in
    none (omega (arith, signed, same.0, same.1, low.0, a, some), omega (arith, signed, same.0, same.1, high.1, b, more))

pub returns-in-Some-clause-earlier : goal.returns-in-Some-clause-earlier
returns-in-Some-clause-earlier c = λ d low high.
    let found = first_later c.args.day c.first_day_of_month.result c.in-Some.first c.args.months c.first_day_of_month.ensures.month c.first_day_of_month.ensures.day (omega (arith, casts, c.in-Some.ensures.month)) c.in-Some.ensures.day in
    omega (arith, casts, found.0, month_before_first d c.in-Some.first found.1 (omega (arith, casts, high)))

pub returns-in-Some-clause-low : goal.returns-in-Some-clause-low
returns-in-Some-clause-low c =
    let found = first_later c.args.day c.first_day_of_month.result c.in-Some.first c.args.months c.first_day_of_month.ensures.month c.first_day_of_month.ensures.day (omega (arith, casts, c.in-Some.ensures.month)) c.in-Some.ensures.day in
    omega (arith, casts, later_month c.args.day c.in-Some.first (omega (arith, casts, found.0, c.requires.some)))

pub returns-in-None-clause-earlier : goal.returns-in-None-clause-earlier
returns-in-None-clause-earlier c = λ d low high.
    let day = c.args.day in
    let here = c.num_days_from_ce.ensures in
    let own : IsDate day = (omega (arith, casts, here.value, here.in_range), omega (arith, casts, here.value, here.in_range)) in
    let date : IsDate d = (omega (arith, casts, low, own.0), omega (arith, casts, high, here.value)) in
    let months = to_z w64 (of_z w64 c.args.months) in
    by_lt_z (month_index_of d) (month_index_of day +ℤ c.args.months) (λ less. less)
    (λ more.
    absurd (none_later c.first_day_of_month.result day d months (λ year. false≢true (c.in-None.ensures.exists.1 year))
    c.first_day_of_month.ensures.month (year_of-range day own) (year_of-range d date) (omega (arith, casts, c.requires.some, c.requires.high))
    (omega (arith, casts, c.requires.some, c.requires.high, more))))
