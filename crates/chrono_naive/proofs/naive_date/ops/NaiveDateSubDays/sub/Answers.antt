use Rattle.std.proofs.Common.{pos, ◌-ℤ◌, refl}
use Rattle.chrono_calendar.proofs.NamedDates.{date_of_day-Some}
use Rattle.chrono_naive.proofs.naive_date.ops.NaiveDateSubDays.sub.Goals as goal

pub unwrap-requires : goal.unwrap-requires
unwrap-requires c = rw (c.checked_sub_days.ensures.date, date_of_day-Some (c.args.self -ℤ pos c.args.days) c.requires) refl
