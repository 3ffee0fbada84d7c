use Rattle.std.proofs.Common.{◌≡◌, ◌∙◌, rules, None, to_z, of_z, w32}
use Rattle.std.proofs.lemmas.Int.{to_z-of_z}
use Rattle.chrono_units.specs.Years.{IsYear, is_leap_year}
use Rattle.chrono_calendar.specs.Days.{day_number_of_ymd, ordinal_of_ymd, IsCalendarName}
use Rattle.chrono_calendar.proofs.Dates.{date_of_ymd-SomeIff}
use Rattle.chrono_calendar.proofs.Months.{ordinal_within}
use Rattle.chrono_calendar.proofs.Names.{day_number_in_range}
use Rattle.chrono_stored.proofs.counted.CountedFormDayForm.from_ymd.Goals as goal

pub returns-in_err-days : goal.returns-in_err-days
returns-in_err-days c =
    let none = date_of_ymd-SomeIff None c.args.year c.args.month c.args.day (λ h. c.in_err-days.ensures (rw (to_z-of_z w32 c.args.year c.ranges.year) h)) in
    rw c.from_residual.ensures none

named : (c : goal.In_ok-days) → (IsYear c.args.year × IsCalendarName c.args.year c.args.month c.args.day) × (to_z w32 (of_z w32 c.in_ok-days.days) ≡ day_number_of_ymd c.args.year c.args.month c.args.day)
named c =
    let given = rw (to_z-of_z w32 c.args.year c.ranges.year) at c.in_ok-days.ensures in
    (given.0, to_z-of_z w32 c.in_ok-days.days (search rules) ∙ given.1)

pub invariant_of-result : goal.invariant_of-result
invariant_of-result c =
    let y = c.args.year in
    let date = named c in
    let within = ordinal_within (is_leap_year y) c.args.month c.args.day date.0.1.0 date.0.1.1 in
    rw date.1 (day_number_in_range y (ordinal_of_ymd y c.args.month c.args.day) date.0.0 within)

pub returns : goal.returns
returns c = date_of_ymd-SomeIff _ c.args.year c.args.month c.args.day (named c)
