use Rattle.std.proofs.Common.{ap, ◌∙◌, arith, w32}
use Rattle.std.proofs.lemmas.Int.{to_z-of_z}
use Rattle.std.specs.Option.{option_map}
use Rattle.chrono_units.specs.Weekday.{days_since}
use Rattle.chrono_calendar.proofs.NthWeekdays.{date_of_nth_weekday-zero, date_of_nth_weekday-no_month, date_of_nth_weekday-ymd}
use Rattle.chrono_calendar.proofs.forms.nth_weekday.Goals as goal

pub returns-then-n-eq0 : goal.returns-then-n-eq0
returns-then-n-eq0 g c = date_of_nth_weekday-zero c.args.year c.args.month c.args.n c.args.weekday c.if-n-eq0.true

pub returns-in_err-first : goal.returns-in_err-first
returns-in_err-first g c =
    let year = to_z-of_z w32 c.args.year c.ranges.year in
    ap (option_map g.F.DayForm.number) c.from_residual.ensures ∙ date_of_nth_weekday-no_month c.args.year c.args.month c.args.n c.args.weekday (rw year at c.in_err-first.ensures)

pub returns : goal.returns
returns g c =
    let year = to_z-of_z w32 c.args.year c.ranges.year in
    let ahead = c.days_since-ahead.ensures ∙ ap (days_since c.args.weekday) c.weekday.ensures in
    rw year at c.from_ymd-2.ensures ∙ date_of_nth_weekday-ymd c.args.year (g.F.DayForm.number c.in_ok-first.first) c.args.month c.args.n _ c.days_since-ahead.result c.args.weekday (rw year at c.in_ok-first.ensures) (omega arith) ahead (omega (arith, c.from.ensures))
