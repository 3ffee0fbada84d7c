use Rattle.std.proofs.Common.{◌≡◌, ◌+◌, inr, ◌∙◌, arith, pos, ◌+ℤ◌}
use Rattle.chrono_datetime.specs.Days.{year_of, month_of}
use Rattle.chrono_datetime.specs.Years.{IsYear}
use Rattle.chrono_datetime.proofs.MonthOrder.{month_of-range}
use Rattle.chrono_datetime.proofs.Signed.{signed}
use Rattle.chrono_datetime.proofs.MonthPlaces.{first_day_exists, last_year, later_month}
use Rattle.chrono_datetime.proofs.Years.{year_fits}
use Rattle.chrono_cron.proofs.DueMonths.{NoMonths, before_later_month, before_next_year, if_named, if_unnamed, later_in_year, next_year_fits, no_day_of_no_month}
use Rattle.chrono_cron.proofs.field_sets.FieldSets.next_month.Goals as goal
use Rattle.chrono_cron.proofs.field_sets.FieldSets.next_month.Goals.{After-from_ymd_opt-2}

pub returns-in-Some-clause-later : goal.returns-in-Some-clause-later
returns-in-Some-clause-later c =
    let fits = year_fits c.year_month_day-year.result.0 c.year_month_day-year.ensures.in_range in
    if_named c.from_ymd_opt.result _ c.in-Some.later 1 _ (rw fits at c.from_ymd_opt.ensures.year) c.from_ymd_opt.ensures.month c.from_ymd_opt.ensures.day
    (λ e year month day.
    later_month c.args.date e (omega (arith, signed, year, month, c.year_month_day-year.ensures.year, c.year_month_day-year.ensures.month, c.in-Some.ensures.not_before, month_of-range c.args.date)))

pub returns-in-Some-clause-passed : goal.returns-in-Some-clause-passed
returns-in-Some-clause-passed c =
    let fits = year_fits c.year_month_day-year.result.0 c.year_month_day-year.ensures.in_range in
    if_named c.from_ymd_opt.result _ c.in-Some.later 1 _ (rw fits at c.from_ymd_opt.ensures.year) c.from_ymd_opt.ensures.month c.from_ymd_opt.ensures.day
    (λ e year month day d low high.
    before_later_month c.args.self.now c.args.date d e low high day (year ∙ c.year_month_day-year.ensures.year)
    (λ j from end. c.in-Some.ensures.least j (omega (arith, from, c.year_month_day-year.ensures.month)) (omega (arith, end, month))))

-- no month is one of the schedule's
pub returns-in_default-first_in-clause-none : goal.returns-in_default-first_in-clause-none
returns-in_default-first_in-clause-none c =
    (λ d low date. inr (no_day_of_no_month c.args.self.now d c.in_default-first_in.ensures.none))

-- none of the year's later months is
rest_of_year : (c : After-from_ymd_opt-2) → NoMonths c.args.self.now (month_of c.args.date + 1) 13
rest_of_year c = λ j from end. c.in_default.ensures.none j (omega (arith, from, c.year_month_day-year.ensures.month)) end

pub returns-clause-later : goal.returns-clause-later
returns-clause-later c =
    let fits = next_year_fits c.year_month_day-year.result.0 c.year_month_day-year.ensures.in_range in
    if_named c.from_ymd_opt-2.result _ c.in-Some-first_in.first 1 _ (rw fits at c.from_ymd_opt-2.ensures.year) c.from_ymd_opt-2.ensures.month c.from_ymd_opt-2.ensures.day
    (λ e year month day.
    later_month c.args.date e (omega (arith, signed, year, c.year_month_day-year.ensures.year, month_of-range c.args.date, month_of-range e)))

pub returns-clause-passed : goal.returns-clause-passed
returns-clause-passed c =
    let fits = next_year_fits c.year_month_day-year.result.0 c.year_month_day-year.ensures.in_range in
    if_named c.from_ymd_opt-2.result _ c.in-Some-first_in.first 1 _ (rw fits at c.from_ymd_opt-2.ensures.year) c.from_ymd_opt-2.ensures.month c.from_ymd_opt-2.ensures.day
    (λ e year month day d low high.
    let next : year_of e ≡ year_of c.args.date +ℤ pos 1 = omega (arith, signed, year, c.year_month_day-year.ensures.year) in
    before_next_year c.args.self.now c.args.date d e low high day next (rest_of_year c)
    (λ j from end. c.in-Some-first_in.ensures.least j from (omega (arith, end, month))))

-- there is no later year
pub returns-clause-none : goal.returns-clause-none
returns-clause-none c =
    let fits = next_year_fits c.year_month_day-year.result.0 c.year_month_day-year.ensures.in_range in
    let own = rw c.year_month_day-year.ensures.year at c.year_month_day-year.ensures.in_range in
    if_unnamed c.from_ymd_opt-2.result (year_of c.args.date +ℤ pos 1) c.in-Some-first_in.first 1 _
    (rw (fits, c.year_month_day-year.ensures.year) at c.from_ymd_opt-2.ensures.exists)
    (λ nameless d low date.
    let past = λ (year : IsYear (year_of c.args.date +ℤ pos 1)). nameless (first_day_exists (year_of c.args.date +ℤ pos 1) c.in-Some-first_in.first year c.in-Some-first_in.ensures.not_before c.in-Some-first_in.ensures.before) in
    let same = last_year c.args.date d own past ((c.dates_are_days_of_years.ensures d).0 date) low in
    later_in_year c.args.self.now c.args.date d 13 low same (omega (arith, month_of-range d)) (rest_of_year c))
