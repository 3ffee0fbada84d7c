use Rattle.std.proofs.Common.{refl, pos, ◌+ℤ◌, ◌-ℤ◌, ◌*◌}
use Rattle.chrono_calendar.proofs.WeekDays.{weekday_of-after, weekday_of-next, weekday_of-previous, weekday_of-weeks, days_since-later}
use Rattle.chrono_calendar.proofs.law.weekdays_follow.Goals as goal

pub returns-clause-after : goal.returns-clause-after
returns-clause-after c = λ n k. weekday_of-after n (n +ℤ pos k) k refl

pub returns-clause-next : goal.returns-clause-next
returns-clause-next c = λ n. weekday_of-next n (n +ℤ pos 1) refl

pub returns-clause-previous : goal.returns-clause-previous
returns-clause-previous c = λ n. weekday_of-previous n (n -ℤ pos 1) refl

pub returns-clause-weeks_later : goal.returns-clause-weeks_later
returns-clause-weeks_later c = λ n w. weekday_of-weeks n (n +ℤ pos (7 * w)) w refl

pub returns-clause-since : goal.returns-clause-since
returns-clause-since c = λ n k. days_since-later n (n +ℤ pos k) k refl
