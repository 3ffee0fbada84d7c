use Rattle.std.proofs.Common.{◌≡◌, min, pos, ◌-ℤ◌, ◌+ℤ◌, arith, ap, ◌∙◌, to_z, of_z, w64}
use Rattle.chrono_calendar.specs.Days.{date_of_day}
use Rattle.chrono_calendar.proofs.Signed.{casts}
use Rattle.chrono_naive.proofs.DayMoves.{IsSome-date_of_day, IfSome-date_of_day, IfSome-earlier, date_of_day-clipped_earlier}
use Rattle.chrono_naive.proofs.naive_date.NaiveDate.checked_sub_days.Goals as goal

pub returns-clause-date : goal.returns-clause-date
returns-clause-date c =
    let days : c.args.self +ℤ to_z w64 (of_z w64 (pos 0 -ℤ to_z w64 (of_z w64 c.clipped.result))) ≡ c.args.self -ℤ pos (min c.args.days 9_223_372_036_854_775_807) = omega (arith, casts, c.clipped.ensures) in
    c.moved_by_days.ensures.date ∙ ap date_of_day days ∙ date_of_day-clipped_earlier c.args.self c.args.days c.moved_by_days.ensures.in_range

pub returns-clause-exists : goal.returns-clause-exists
returns-clause-exists c = IsSome-date_of_day _ (c.args.self -ℤ pos c.args.days) (returns-clause-date c)

pub returns-clause-moved : goal.returns-clause-moved
returns-clause-moved c = IfSome-date_of_day _ (c.args.self -ℤ pos c.args.days) (returns-clause-date c)

pub returns-clause-back : goal.returns-clause-back
returns-clause-back c = IfSome-earlier _ c.args.self (pos c.args.days) (returns-clause-date c)
