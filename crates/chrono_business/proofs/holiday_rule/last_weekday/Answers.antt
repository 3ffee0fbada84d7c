use Rattle.std.proofs.Common.{◌∙◌, ap, sym, w32}
use Rattle.std.proofs.lemmas.Int.{to_z-of_z}
use Rattle.chrono_datetime.specs.Days.{date_of_day}
use Rattle.chrono_datetime.specs.Weeks.{week_first_of}
use Rattle.chrono_datetime.proofs.LastWeekdays.{last_weekday-None, last_weekday-back}
use Rattle.chrono_business.proofs.holiday_rule.last_weekday.Goals as goal

pub returns-in_err-first : goal.returns-in_err-first
returns-in_err-first c =
    let year = to_z-of_z w32 c.args.year c.ranges.year in
    c.from_residual.ensures ∙ sym (last_weekday-None c.args.year c.args.month c.args.weekday (rw year at c.in_err-first.ensures.date))

pub returns : goal.returns
returns c =
    let year = to_z-of_z w32 c.args.year c.ranges.year in
    c.checked_first_day.ensures.date
    ∙ ap date_of_day (c.week.ensures.first ∙ ap (λ n. week_first_of n c.args.weekday) c.last_day_of_month.ensures.last)
    ∙ sym (last_weekday-back c.args.year c.in_ok-first.first c.args.month c.args.weekday (sym (rw year at c.in_ok-first.ensures.date)))
