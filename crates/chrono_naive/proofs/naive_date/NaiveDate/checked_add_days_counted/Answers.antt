use Rattle.std.proofs.Common.{◌≡◌, min, pos, ◌+ℤ◌, to_z, of_z, w64, arith, ap, ◌∙◌}
use Rattle.chrono_calendar.specs.Days.{date_of_day}
use Rattle.chrono_calendar.proofs.Signed.{casts}
use Rattle.chrono_naive.proofs.DayMoves.{date_of_day-clipped_later}
use Rattle.chrono_naive.proofs.naive_date.NaiveDate.checked_add_days_counted.Goals as goal

pub returns-clause-date : goal.returns-clause-date
returns-clause-date c =
    let days : to_z w64 (of_z w64 c.clipped.result) ≡ pos (min c.args.days 9_223_372_036_854_775_807) = omega (arith, casts, c.clipped.ensures) in
    c.moved_by_days_counted.ensures.date ∙ ap (λ k. date_of_day (c.args.self +ℤ k)) days ∙ date_of_day-clipped_later c.args.self c.args.days c.moved_by_days_counted.ensures.in_range
