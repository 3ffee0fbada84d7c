use Rattle.std.proofs.Common.{◌≡◌, ◌∙◌, arith}
use Rattle.chrono_datetime.specs.Days.{day_of}
use Rattle.chrono_datetime.specs.Weekday.{days_from_sunday}
use Rattle.chrono_datetime.specs.Weeks.{weekday_of}
use Rattle.chrono_sets.specs.FiniteSets.{has}
use Rattle.chrono_datetime.proofs.MonthPlaces.{place-bounds}
use Rattle.chrono_cron.proofs.DueMonths.{listed-day}
use Rattle.chrono_cron.proofs.field_sets.FieldSets.is_listed_plainly.Goals as goal

pub contains-by_day-requires : goal.contains-by_day-requires
contains-by_day-requires c = omega (arith, c.requires.day, place-bounds c.args.date)

pub returns : goal.returns
returns c =
    let s = c.args.self.now in
    let by_day : c.contains-by_day.result ≡ has s.days (day_of c.args.date) = rw c.requires.day at c.contains-by_day.ensures in
    let by_weekday : c.contains-by_weekday.result ≡ has s.weekdays (days_from_sunday (weekday_of c.args.date)) = rw (c.num_days_from_sunday.ensures, c.weekday.ensures.value) at c.contains-by_weekday.ensures in
    c.is_enough.ensures ∙ rw (by_day, by_weekday) (listed-day s c.args.date c.requires.place c.requires.weekday)
