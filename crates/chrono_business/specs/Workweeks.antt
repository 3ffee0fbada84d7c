-- The workdays of the week that begins with the first date, counted.
use Rattle.std.specs.Prelude.{◌≡◌, ℕ, ◌<◌, ◌≤◌, true, List, slice_index_or, pos, ◌+ℤ◌}
use Rattle.chrono_datetime.specs.WeekdaySet.{DaySet}
use Rattle.chrono_datetime.specs.Recurrence.{count_where, first_date}
use Rattle.chrono_business.specs.OpenDays.{is_workday}

-- the list has at each place up to 7 how many of as many days are workdays
abbrev pub AreCounts : DaySet → List ℕ → Type 0
AreCounts weekend counts = (days d : ℕ) → days ≤ 7 → slice_index_or counts days d ≡ count_where (is_workday weekend) days first_date

-- the day with so many days before it is the workday with so many workdays before it
pub record IsWorkdayAt (weekend : DaySet) (place days : ℕ) : Type 0 where
  pub workday : is_workday weekend (first_date +ℤ pos days) ≡ true
  pub count : count_where (is_workday weekend) days first_date ≡ place
  pub near : days < 7

-- the list has at the place of each workday the days before it
abbrev pub AreWorkdays : DaySet → List ℕ → Type 0
AreWorkdays weekend workdays = (place d : ℕ) → place < count_where (is_workday weekend) 7 first_date → IsWorkdayAt weekend place (slice_index_or workdays place d)
