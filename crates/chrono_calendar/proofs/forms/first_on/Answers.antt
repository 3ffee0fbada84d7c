use Rattle.std.proofs.Common.{◌≡◌, ap, ◌∙◌, arith, pos, ◌+ℤ◌, to_z, of_z, w32}
use Rattle.std.specs.Option.{option_map}
use Rattle.chrono_calendar.specs.Days.{date_of_day}
use Rattle.chrono_text.proofs.Signed.{casts}
use Rattle.chrono_calendar.proofs.FirstOn.{date_of_day-on, date_on-no_days}
use Rattle.chrono_calendar.proofs.forms.first_on.Goals as goal

pub returns-in_err-ahead : goal.returns-in_err-ahead
returns-in_err-ahead g c =
    ap (option_map g.F.DayForm.number) c.from_residual.ensures ∙ date_on-no_days (g.F.DayForm.number c.args.f) c.args.set c.day-start.ensures.in_range (c.days_until.ensures.none.0 c.in_err-ahead.was)

pub returns : goal.returns
returns g c =
    let n = g.F.DayForm.number c.args.f in
    let ahead = c.in_ok-ahead.ahead in
    let day : to_z w32 (of_z w32 (to_z w32 (of_z w32 c.day-start.result) +ℤ to_z w32 ahead)) ≡ n +ℤ pos ahead = omega (arith, casts, c.day-start.ensures.value, c.day-start.ensures.in_range, c.in_ok-ahead.ensures.within) in
    c.from_day.ensures ∙ ap date_of_day day
    ∙ date_of_day-on n c.args.set ahead c.day-start.ensures.in_range (rw c.weekday.ensures at c.in_ok-ahead.ensures.member) (rw c.weekday.ensures at c.in_ok-ahead.ensures.least)
