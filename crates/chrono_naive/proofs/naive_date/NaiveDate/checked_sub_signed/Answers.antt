use Rattle.std.proofs.Common.{◌≡◌, pos, ◌-ℤ◌, ◌+ℤ◌, to_z, of_z, w64, arith, ap, ◌∙◌}
use Rattle.chrono_clock.specs.Duration.{nanos_per_day, whole_units}
use Rattle.chrono_calendar.specs.Days.{date_of_day}
use Rattle.chrono_calendar.proofs.Signed.{casts}
use Rattle.chrono_naive.proofs.DayMoves.{IsSome-date_of_day, IfSome-date_of_day, whole_units-neg}
use Rattle.chrono_naive.proofs.naive_date.NaiveDate.checked_sub_signed.Goals as goal

pub returns-clause-date : goal.returns-clause-date
returns-clause-date c =
    let days : c.args.self +ℤ to_z w64 (of_z w64 (pos 0 -ℤ to_z w64 (of_z w64 c.num_days.result))) ≡ c.args.self -ℤ whole_units nanos_per_day c.args.rhs = omega (arith, casts, c.num_days.ensures.value) in
    c.moved_by_days.ensures.date ∙ ap date_of_day days

pub returns-clause-exists : goal.returns-clause-exists
returns-clause-exists c = IsSome-date_of_day _ (c.args.self -ℤ whole_units nanos_per_day c.args.rhs) (returns-clause-date c)

pub returns-clause-moved : goal.returns-clause-moved
returns-clause-moved c = IfSome-date_of_day _ (c.args.self -ℤ whole_units nanos_per_day c.args.rhs) (returns-clause-date c)

pub returns-clause-turned : goal.returns-clause-turned
returns-clause-turned c = returns-clause-date c ∙ ap (λ k. date_of_day (c.args.self +ℤ k)) (whole_units-neg c.args.rhs)
