use Rattle.std.proofs.Common.{◌≡◌, refl, sym, ap, ◌∙◌, true, arith, ℤ}
use Rattle.chrono_datetime.specs.Days.{year_of, month_of, day_of}
use Rattle.chrono_datetime.specs.MonthMoves.{InSameMonth}
use Rattle.chrono_datetime.proofs.Signed.{signed}
use Rattle.chrono_sets.specs.FiniteSets.{has}
use Rattle.chrono_datetime.proofs.MonthPlaces.{between_earlier, past_month, place-bounds, places}
use Rattle.chrono_datetime.proofs.Years.{year_fits}
use Rattle.chrono_cron.proofs.DueMonths.{if_named, if_unnamed, listed_day, no_day, no_listed_day}
use Rattle.chrono_cron.proofs.field_sets.FieldSets.last_in_month.Goals as goal
use Rattle.chrono_cron.proofs.field_sets.FieldSets.last_in_month.Goals.{After-from_ymd_opt}

pub returns-then-not-contains-clause-none : goal.returns-then-not-contains-clause-none
returns-then-not-contains-clause-none c = λ d low same.
    no_day c.args.self.now d (ap (has c.args.self.now.months) (same.1 ∙ sym c.year_month_day-year.ensures.month) ∙ (sym c.contains.ensures ∙ c.if-not-contains.true))

pub returns-in_default-clause-none : goal.returns-in_default-clause-none
returns-in_default-clause-none c =
    (λ d high same.
    let month = ap (has c.args.self.now.months) (sym c.year_month_day-year.ensures.month) ∙ (sym c.contains.ensures ∙ c.if-not-contains.false) in
    no_listed_day c.args.self.now c.listed_in_month.result c.args.date d month c.listed_in_month.ensures same
    (c.in_default.ensures.none (day_of d) (place-bounds d).0 (omega (arith, signed, high, places c.args.date d same, c.year_month_day-year.ensures.day))))

-- the date made has the year and the month of the start
month : (c : After-from_ymd_opt) → has c.args.self.now.months (month_of c.args.date) ≡ true
month c = ap (has c.args.self.now.months) (sym c.year_month_day-year.ensures.month) ∙ (sym c.contains.ensures ∙ c.if-not-contains.false)

in_month : (c : After-from_ymd_opt) (e : ℤ) → year_of e ≡ c.year_month_day-year.result.0 → month_of e ≡ c.year_month_day-year.result.1 → InSameMonth e c.args.date
in_month c e year month = (year ∙ c.year_month_day-year.ensures.year, month ∙ c.year_month_day-year.ensures.month)

pub returns-clause-member : goal.returns-clause-member
returns-clause-member c =
    let fits = year_fits c.year_month_day-year.result.0 c.year_month_day-year.ensures.in_range in
    if_named c.from_ymd_opt.result _ c.year_month_day-year.result.1 c.in-Some.last _ (rw fits at c.from_ymd_opt.ensures.year) c.from_ymd_opt.ensures.month c.from_ymd_opt.ensures.day
    (λ e is_year is_month is_day.
    listed_day c.args.self.now c.listed_in_month.result c.args.date e (month c) c.listed_in_month.ensures (in_month c e is_year is_month)
    (ap (has c.listed_in_month.result) is_day ∙ c.in-Some.ensures.member))

pub returns-clause-not_after : goal.returns-clause-not_after
returns-clause-not_after c =
    let fits = year_fits c.year_month_day-year.result.0 c.year_month_day-year.ensures.in_range in
    if_named c.from_ymd_opt.result _ c.year_month_day-year.result.1 c.in-Some.last _ (rw fits at c.from_ymd_opt.ensures.year) c.from_ymd_opt.ensures.month c.from_ymd_opt.ensures.day
    (λ e is_year is_month is_day.
    omega (arith, signed, places c.args.date e (in_month c e is_year is_month), is_day, c.in-Some.ensures.before, c.year_month_day-year.ensures.day))

pub returns-clause-greatest : goal.returns-clause-greatest
returns-clause-greatest c =
    let fits = year_fits c.year_month_day-year.result.0 c.year_month_day-year.ensures.in_range in
    if_named c.from_ymd_opt.result _ c.year_month_day-year.result.1 c.in-Some.last _ (rw fits at c.from_ymd_opt.ensures.year) c.from_ymd_opt.ensures.month c.from_ymd_opt.ensures.day
    (λ e is_year is_month is_day d low high.
    let end = in_month c e is_year is_month in
    let same = between_earlier c.args.date d e (omega (arith, signed, low)) high end in
    no_listed_day c.args.self.now c.listed_in_month.result c.args.date d (month c) c.listed_in_month.ensures same
    (c.in-Some.ensures.greatest (day_of d) (omega (arith, signed, low, places c.args.date d same, places c.args.date e end, is_day)) (omega (arith, signed, high, places c.args.date d same, c.year_month_day-year.ensures.day))))

-- the month has each place up to the start's
pub returns-clause-none : goal.returns-clause-none
returns-clause-none c =
    let fits = year_fits c.year_month_day-year.result.0 c.year_month_day-year.ensures.in_range in
    if_unnamed c.from_ymd_opt.result (year_of c.args.date) (month_of c.args.date) c.in-Some.last _
    (rw (fits, c.year_month_day-year.ensures.year, c.year_month_day-year.ensures.month) at c.from_ymd_opt.ensures.exists)
    (λ nameless d high same.
    let year = rw c.year_month_day-year.ensures.year at c.year_month_day-year.ensures.in_range in
    let past = past_month c.args.date c.args.date c.in-Some.last year (refl, refl) c.in-Some.ensures.not_before nameless in
    absurd (omega (arith, past, c.in-Some.ensures.before, c.year_month_day-year.ensures.day)))
