use Rattle.std.proofs.Common.{◌≡◌, ℤ, ap, ◌∙◌}
use Rattle.std.specs.Prelude.{unsigned_abs}
use Rattle.std.proofs.lemmas.Option.{same_Some}
use Rattle.chrono_datetime.specs.Days.{day_number_of_yo, year_of}
use Rattle.chrono_datetime.specs.Weeks.{days_from_sunday_of, weekday_of}
use Rattle.chrono_calendar.proofs.MonthMoveLaws.{year_of-range}
use Rattle.chrono_pattern.specs.YearWeeks.{weeks_begun}
use Rattle.chrono_pattern.proofs.DatePartLemmas.{fits_each, is_missing, number_cast, said, weekday_cast, weekday_said, year_cast, year_is_year, year_week_names, yo_found}
use Rattle.chrono_pattern.proofs.YearWeekLemmas.{place_found, weeks_few}
use Rattle.chrono_pattern.proofs.date_parts.year_week_date.Goals as goal

pub returns-in_err-year : goal.returns-in_err-year
returns-in_err-year c = λ n date named of_week fits.
    let found = c.in_err-year.ensures (year_of n) (year_of-range n date) (year_week_names c.args.week c.args.parts named).0 (fits_each c.args.parts n fits).year in cc

pub returns-in_err-week : goal.returns-in_err-week
returns-in_err-week c = λ n date named of_week fits. absurd (is_missing c.args.week c.in_err-week.was (year_week_names c.args.week c.args.parts named).1)

pub returns-in_err-weekday : goal.returns-in_err-weekday
returns-in_err-weekday c = λ n date named of_week fits.
    absurd (is_missing c.args.parts.weekday c.in_err-weekday.was (year_week_names c.args.week c.args.parts named).2)

pub returns-in_err-first : goal.returns-in_err-first
returns-in_err-first c = λ n date named of_week fits.
    let year : c.in_ok-year.year ≡ year_of n = same_Some _ _ (c.in_ok-year.ensures (year_of n) (year_of-range n date) (year_week_names c.args.week c.args.parts named).0 (fits_each c.args.parts n fits).year) in
    let found = c.in_err-first.ensures.first (year_is_year _ (year_of n) (year_of-range n date) year) in cc

pub returns-in_err-ordinal : goal.returns-in_err-ordinal
returns-in_err-ordinal c = λ n date named of_week fits.
    let range = year_of-range n date in
    let year : c.in_ok-year.year ≡ year_of n = same_Some _ _ (c.in_ok-year.ensures (year_of n) range (year_week_names c.args.week c.args.parts named).0 (fits_each c.args.parts n fits).year) in
    let first = same_Some _ _ (c.in_ok-first.ensures.first (year_is_year _ (year_of n) range year)) ∙ ap (λ (y : ℤ). days_from_sunday_of (day_number_of_yo y 1)) (year_cast _ (year_of n) range year) in
    let week = c.unsigned_abs.ensures.value ∙ ap unsigned_abs (number_cast _ (weeks_begun c.args.start n) (weeks_few c.args.start n c.requires) (said c.args.week _ _ c.in_ok-week.was of_week)) in
    let weekday = c.unsigned_abs-2.ensures.value ∙ ap unsigned_abs (weekday_cast _ (weekday_of n) (weekday_said c.args.parts n _ (fits_each c.args.parts n fits).week c.in_ok-weekday.was)) in
    let found = place_found n c.args.start _ _ _ _ c.requires c.in_err-ordinal.ensures first week weekday in cc

pub returns : goal.returns
returns c = λ n date named of_week fits.
    let range = year_of-range n date in
    let year : c.in_ok-year.year ≡ year_of n = same_Some _ _ (c.in_ok-year.ensures (year_of n) range (year_week_names c.args.week c.args.parts named).0 (fits_each c.args.parts n fits).year) in
    let first = same_Some _ _ (c.in_ok-first.ensures.first (year_is_year _ (year_of n) range year)) ∙ ap (λ (y : ℤ). days_from_sunday_of (day_number_of_yo y 1)) (year_cast _ (year_of n) range year) in
    let week = c.unsigned_abs.ensures.value ∙ ap unsigned_abs (number_cast _ (weeks_begun c.args.start n) (weeks_few c.args.start n c.requires) (said c.args.week _ _ c.in_ok-week.was of_week)) in
    let weekday = c.unsigned_abs-2.ensures.value ∙ ap unsigned_abs (weekday_cast _ (weekday_of n) (weekday_said c.args.parts n _ (fits_each c.args.parts n fits).week c.in_ok-weekday.was)) in
    let found = place_found n c.args.start _ _ _ _ c.requires c.in_ok-ordinal.ensures first week weekday in
    yo_found n _ _ _ date c.from_yo_opt.ensures.date (year_cast _ (year_of n) range year) (same_Some _ _ found)
