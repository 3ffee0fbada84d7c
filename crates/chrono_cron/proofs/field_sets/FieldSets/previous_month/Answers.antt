use Rattle.std.proofs.Common.{◌≡◌, inr, refl, ◌∙◌, arith, pos, None, ◌-ℤ◌}
use Rattle.chrono_datetime.specs.Days.{year_of}
use Rattle.chrono_datetime.specs.Years.{IsYear}
use Rattle.chrono_datetime.proofs.MonthOrder.{month_of-range}
use Rattle.chrono_datetime.proofs.Signed.{signed}
use Rattle.chrono_datetime.proofs.MonthPlaces.{first_day_exists, first_year, last_place, month_before, year_before}
use Rattle.chrono_datetime.proofs.Years.{year_fits}
use Rattle.chrono_cron.proofs.DueMonths.{after_earlier_month, after_previous_year, earlier_in_year, if_unnamed, no_day_of_no_month, previous_year_fits}
use Rattle.chrono_cron.proofs.field_sets.FieldSets.previous_month.Goals as goal
use Rattle.chrono_cron.proofs.field_sets.FieldSets.previous_month.Goals.{After-last_day_of_month, After-last_day_of_month-2}

-- the first day that was named
year : (c : After-last_day_of_month) → year_of c.in-Some-from_ymd_opt.first ≡ year_of c.args.date
year c = c.in-Some-from_ymd_opt.ensures.year ∙ (year_fits c.year_month_day-year.result.0 c.year_month_day-year.ensures.in_range ∙ c.year_month_day-year.ensures.year)

pub returns-in-Some-clause-earlier : goal.returns-in-Some-clause-earlier
returns-in-Some-clause-earlier c =
    month_before c.args.date c.in-Some-from_ymd_opt.first c.last_day_of_month.result c.last_day_of_month.ensures.month (year c)
    (omega (arith, c.in-Some-from_ymd_opt.ensures.month, c.in-Some.ensures.before, c.year_month_day-year.ensures.month))

pub returns-in-Some-clause-passed : goal.returns-in-Some-clause-passed
returns-in-Some-clause-passed c = λ d low high.
    let e = c.last_day_of_month.result in
    let same = c.last_day_of_month.ensures.month in
    after_earlier_month c.args.self.now c.args.date d e high low (last_place c.in-Some-from_ymd_opt.first e same c.last_day_of_month.ensures.day) (same.0 ∙ year c)
    (λ j from end. c.in-Some.ensures.greatest j (omega (arith, from, same.1, c.in-Some-from_ymd_opt.ensures.month)) (omega (arith, end, c.year_month_day-year.ensures.month)))

-- no month is one of the schedule's
pub returns-in_default-last_in-clause-none : goal.returns-in_default-last_in-clause-none
returns-in_default-last_in-clause-none c =
    (λ d high date. inr (no_day_of_no_month c.args.self.now d c.in_default-last_in.ensures.none))

-- there is no earlier year
pub returns-in_default-from_ymd_opt-2-clause-none : goal.returns-in_default-from_ymd_opt-2-clause-none
returns-in_default-from_ymd_opt-2-clause-none c =
    let fits = previous_year_fits c.year_month_day-year.result.0 c.year_month_day-year.ensures.in_range in
    let own = rw c.year_month_day-year.ensures.year at c.year_month_day-year.ensures.in_range in
    (if_unnamed None (year_of c.args.date -ℤ pos 1) c.in-Some-last_in.last 1 _
    (rw (fits, c.year_month_day-year.ensures.year) at c.in_default-from_ymd_opt-2.ensures.exists)
    (λ nameless d high date.
    let past = λ (year : IsYear (year_of c.args.date -ℤ pos 1)). nameless (first_day_exists (year_of c.args.date -ℤ pos 1) c.in-Some-last_in.last year c.in-Some-last_in.ensures.not_before c.in-Some-last_in.ensures.before) in
    let same = first_year c.args.date d own past ((c.dates_are_days_of_years.ensures d).0 date) high in
    earlier_in_year c.args.self.now c.args.date d 1 high same (omega (arith, month_of-range d))
    (λ j from end. c.in_default.ensures.none j from (omega (arith, end, c.year_month_day-year.ensures.month)))))

previous : (c : After-last_day_of_month-2) → year_of c.in-Some-from_ymd_opt-2.first ≡ year_of c.args.date -ℤ pos 1
previous c =
    let own = c.year_month_day-year.ensures.year in
    c.in-Some-from_ymd_opt-2.ensures.year ∙ (previous_year_fits c.year_month_day-year.result.0 c.year_month_day-year.ensures.in_range ∙ rw own refl)

pub returns-clause-earlier : goal.returns-clause-earlier
returns-clause-earlier c =
    year_before c.args.date c.in-Some-from_ymd_opt-2.first c.last_day_of_month-2.result c.last_day_of_month-2.ensures.month (previous c)

pub returns-clause-passed : goal.returns-clause-passed
returns-clause-passed c = λ d low high.
    let e = c.last_day_of_month-2.result in
    let same = c.last_day_of_month-2.ensures.month in
    after_previous_year c.args.self.now c.args.date d e high low (last_place c.in-Some-from_ymd_opt-2.first e same c.last_day_of_month-2.ensures.day) (omega (arith, signed, same.0, previous c))
    (λ j from end. c.in_default.ensures.none j from (omega (arith, end, c.year_month_day-year.ensures.month)))
    (λ j from end. c.in-Some-last_in.ensures.greatest j (omega (arith, from, same.1, c.in-Some-from_ymd_opt-2.ensures.month)) end)
