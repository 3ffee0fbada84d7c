use Rattle.std.proofs.Common.{◌≡◌, ◌+◌, ◌-◌, ◌≤◌, arith}
use Rattle.std.specs.Int.{IsInRange}
use Rattle.chrono_units.specs.Years.{month_length_in}
use Rattle.chrono_calendar.specs.Days.{days_of_months_in}
use Rattle.chrono_calendar.proofs.MonthOrder.{days_of_months_in-next}
use Rattle.chrono_stored.proofs.month_day.ordinal_of_month_day.Goals as goal
use Rattle.chrono_stored.proofs.month_day.ordinal_of_month_day.Goals.{then-day-lt1-via-then-day-lt1, then-day-lt1-via-else-day-lt1+then-place-from}

pub returns-then-day-lt1 : goal.returns-then-day-lt1
returns-then-day-lt1 c = λ h.
    let next = days_of_months_in-next c.args.leap c.args.month h.0.0 in
    elim c.then-day-lt1.branch [
      | then-day-lt1-via-then-day-lt1 w ↦ omega (arith, w.if-day-lt1.true, h.1.0)
      | then-day-lt1-via-else-day-lt1+then-place-from w ↦
          omega (arith, next, h.1.1, w.if-place-from.true, c.from.ensures, c.from-2.ensures, w.from-else-day-lt1.ensures, c.days_before_month.ensures, w.days_before_month-else-day-lt1.ensures)
    ]

pub returns : goal.returns
returns c =
    let month : IsInRange 1 12 c.args.month = (omega (arith, c.if-month-lt1.false), omega (arith, c.if-month-gt12.false)) in
    let next = days_of_months_in-next c.args.leap c.args.month month.0 in
    let place : c.from.result + c.from-2.result ≡ days_of_months_in c.args.leap (c.args.month - 1) + c.args.day = omega (arith, c.from.ensures, c.from-2.ensures, c.days_before_month.ensures) in
    let last : c.args.day ≤ month_length_in c.args.leap c.args.month = omega (arith, next, place, c.if-place-from.false, c.from-else-day-lt1.ensures, c.days_before_month-else-day-lt1.ensures) in
    ((month, (omega (arith, c.if-day-lt1.false), last)), place)
