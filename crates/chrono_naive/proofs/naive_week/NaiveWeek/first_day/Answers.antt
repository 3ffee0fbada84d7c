use Rattle.std.proofs.Common.{refl, sym, ◌∙◌}
use Rattle.chrono_calendar.proofs.NamedDates.{date_of_day-Some}
use Rattle.chrono_naive.proofs.DayMoves.{some-date_of_day}
use Rattle.chrono_naive.proofs.naive_week.NaiveWeek.first_day.Goals as goal

pub unwrap-requires : goal.unwrap-requires
unwrap-requires c = rw (c.checked_first_day.ensures.date, date_of_day-Some c.args.self.now c.requires) refl

pub returns : goal.returns
returns c = (some-date_of_day c.args.self.now c.unwrap.result (sym c.unwrap.ensures ∙ c.checked_first_day.ensures.date)).1
