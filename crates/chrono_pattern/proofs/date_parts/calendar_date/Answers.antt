use Rattle.std.proofs.Common.{◌≡◌, ap, ◌∙◌}
use Rattle.std.specs.Prelude.{unsigned_abs}
use Rattle.std.proofs.lemmas.Option.{same_Some}
use Rattle.chrono_datetime.specs.Days.{year_of}
use Rattle.chrono_calendar.proofs.MonthMoveLaws.{year_of-range}
use Rattle.chrono_pattern.proofs.DatePartLemmas.{calendar_names, day_cast, day_said, fits_each, is_missing, month_cast, month_said, year_cast, ymd_found}
use Rattle.chrono_pattern.proofs.date_parts.calendar_date.Goals as goal

pub returns-in_err-year : goal.returns-in_err-year
returns-in_err-year c = λ n date named fits.
    let found = c.in_err-year.ensures (year_of n) (year_of-range n date) (calendar_names c.args.parts named).year (fits_each c.args.parts n fits).year in cc

pub returns-in_err-month : goal.returns-in_err-month
returns-in_err-month c = λ n date named fits. absurd (is_missing c.args.parts.month c.in_err-month.was (calendar_names c.args.parts named).month)

pub returns-in_err-day : goal.returns-in_err-day
returns-in_err-day c = λ n date named fits. absurd (is_missing c.args.parts.day c.in_err-day.was (calendar_names c.args.parts named).day)

pub returns : goal.returns
returns c = λ n date named fits.
    let each = fits_each c.args.parts n fits in
    let year : c.in_ok-year.year ≡ year_of n = same_Some _ _ (c.in_ok-year.ensures (year_of n) (year_of-range n date) (calendar_names c.args.parts named).year each.year) in
    let month = month_cast _ n (month_said c.args.parts n _ each.day c.in_ok-month.was) in
    let day = day_cast _ n (day_said c.args.parts n _ each.day c.in_ok-day.was) in
    ymd_found n _ _ _ _ date c.from_ymd_opt.ensures.date (year_cast _ (year_of n) (year_of-range n date) year)
    (c.unsigned_abs.ensures.value ∙ ap unsigned_abs month) (c.unsigned_abs-2.ensures.value ∙ ap unsigned_abs day)
