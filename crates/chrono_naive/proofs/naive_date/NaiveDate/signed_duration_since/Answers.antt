use Rattle.std.proofs.Common.{◌≡◌, ◌-ℤ◌, to_z, of_z, w64, arith, ap, ◌∙◌}
use Rattle.chrono_clock.specs.Duration.{nanos_per_day, units_of}
use Rattle.chrono_calendar.proofs.Signed.{casts}
use Rattle.chrono_naive.proofs.naive_date.NaiveDate.signed_duration_since.Goals as goal

pub overflow_sub-day_number : goal.overflow_sub-day_number
overflow_sub-day_number c = omega (arith, casts, c.day_number.ensures.in_range, c.day_number-2.ensures.in_range)

pub returns : goal.returns
returns c =
    let days : to_z w64 (of_z w64 c.from.result) ≡ c.args.self -ℤ c.args.rhs = omega (arith, casts, c.from.ensures, c.day_number.ensures.value, c.day_number.ensures.in_range, c.day_number-2.ensures.value, c.day_number-2.ensures.in_range) in
    c.days.ensures ∙ ap (units_of nanos_per_day) days
