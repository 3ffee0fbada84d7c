use Rattle.std.proofs.Common.{◌≡◌, ap, ◌∙◌}
use Rattle.std.specs.Prelude.{unsigned_abs}
use Rattle.std.proofs.lemmas.Option.{same_Some}
use Rattle.chrono_datetime.specs.Days.{year_of}
use Rattle.chrono_calendar.proofs.MonthMoveLaws.{year_of-range}
use Rattle.chrono_pattern.proofs.DatePartLemmas.{fits_each, is_missing, ordinal_cast, ordinal_names, ordinal_said, year_cast, yo_found}
use Rattle.chrono_pattern.proofs.date_parts.ordinal_date.Goals as goal

pub returns-in_err-year : goal.returns-in_err-year
returns-in_err-year c = λ n date named fits.
    let found = c.in_err-year.ensures (year_of n) (year_of-range n date) (ordinal_names c.args.parts named).0 (fits_each c.args.parts n fits).year in cc

pub returns-in_err-ordinal : goal.returns-in_err-ordinal
returns-in_err-ordinal c = λ n date named fits. absurd (is_missing c.args.parts.ordinal c.in_err-ordinal.was (ordinal_names c.args.parts named).1)

pub returns : goal.returns
returns c = λ n date named fits.
    let each = fits_each c.args.parts n fits in
    let year : c.in_ok-year.year ≡ year_of n = same_Some _ _ (c.in_ok-year.ensures (year_of n) (year_of-range n date) (ordinal_names c.args.parts named).0 each.year) in
    let ordinal = ordinal_cast _ n (ordinal_said c.args.parts n _ each.day c.in_ok-ordinal.was) in
    yo_found n _ _ _ date c.from_yo_opt.ensures.date (year_cast _ (year_of n) (year_of-range n date) year)
    (c.unsigned_abs.ensures.value ∙ ap unsigned_abs ordinal)
