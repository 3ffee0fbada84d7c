use Rattle.std.proofs.Common.{◌+ℤ◌, refl, sym, ◌∙◌}
use Rattle.chrono_clock.specs.Duration.{nanos_per_day, whole_units}
use Rattle.chrono_calendar.proofs.NamedDates.{date_of_day-Some}
use Rattle.chrono_naive.proofs.DayMoves.{some-date_of_day}
use Rattle.chrono_naive.proofs.naive_date.ops.NaiveDateAddTimeDelta.add.Goals as goal

pub unwrap-requires : goal.unwrap-requires
unwrap-requires c = rw (c.checked_add_signed.ensures.date, date_of_day-Some (c.args.self +ℤ whole_units nanos_per_day c.args.rhs) c.requires) refl

pub returns : goal.returns
returns c = (some-date_of_day (c.args.self +ℤ whole_units nanos_per_day c.args.rhs) c.unwrap.result (sym c.unwrap.ensures ∙ c.checked_add_signed.ensures.date)).1
