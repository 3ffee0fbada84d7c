use Rattle.std.proofs.Common.{ap, ◌∙◌}
use Rattle.std.specs.Prelude.{unsigned_abs}
use Rattle.chrono_datetime.specs.Weeks.{weekday_of}
use Rattle.chrono_pattern.specs.DateParts.{weekday_at_number}
use Rattle.chrono_pattern.proofs.DatePartLemmas.{fits_each, is_missing, iso_found, iso_week_cast, iso_year_cast, isoweek_said, isoyear_said, numbered, week_names, weekday_cast, weekday_said}
use Rattle.chrono_pattern.proofs.date_parts.week_date.Goals as goal

pub returns-in_err-year : goal.returns-in_err-year
returns-in_err-year c = λ n date named fits. absurd (is_missing c.args.parts.isoyear c.in_err-year.was (week_names c.args.parts named).year)

pub returns-in_err-week : goal.returns-in_err-week
returns-in_err-week c = λ n date named fits. absurd (is_missing c.args.parts.isoweek c.in_err-week.was (week_names c.args.parts named).week)

pub returns-in_err-weekday : goal.returns-in_err-weekday
returns-in_err-weekday c = λ n date named fits. absurd (is_missing c.args.parts.weekday c.in_err-weekday.was (week_names c.args.parts named).weekday)

pub returns : goal.returns
returns c = λ n date named fits.
    let week = (fits_each c.args.parts n fits).week in
    let place = iso_week_cast _ n (isoweek_said c.args.parts n _ week c.in_ok-week.was) in
    let day = weekday_cast _ (weekday_of n) (weekday_said c.args.parts n _ week c.in_ok-weekday.was) in
    iso_found n _ _ _ _ date c.from_isoywd_opt.ensures.date (iso_year_cast _ n date (isoyear_said c.args.parts n _ week c.in_ok-year.was))
    (c.unsigned_abs.ensures.value ∙ ap unsigned_abs place) (c.weekday_at_number.ensures ∙ ap weekday_at_number day ∙ numbered (weekday_of n))
