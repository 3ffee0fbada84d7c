use Rattle.std.proofs.Common.{refl, ◌+◌, ◌*◌}
use Rattle.chrono_calendar.specs.Weeks.{weekday_of}
use Rattle.chrono_calendar.proofs.CountWhere.{any_week, count_where-monday, count_where-row, count_where-weeks, weekdays-weekly}
use Rattle.chrono_calendar.proofs.law.weekly_counts_come_again.Goals as goal

pub returns-clause-weeks : goal.returns-clause-weeks
returns-clause-weeks c = λ p weekly w r n. count_where-weeks p weekly w r (7 * w + r) n refl

pub returns-clause-any_week : goal.returns-clause-any_week
returns-clause-any_week c = any_week

pub returns-clause-weekdays : goal.returns-clause-weekdays
returns-clause-weekdays c = weekdays-weekly

pub returns-clause-members : goal.returns-clause-members
returns-clause-members c = count_where-monday

pub returns-clause-row : goal.returns-clause-row
returns-clause-row c = λ q k n. count_where-row q k n (weekday_of n) refl
