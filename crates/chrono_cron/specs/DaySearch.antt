-- Words for what the search for a day passes over. It goes month by month.
use Rattle.std.specs.Prelude.{◌≡◌, ◌⊎◌, false, ℤ, ◌≤ℤ◌}
use Rattle.chrono_datetime.specs.Days.{IsDate}
use Rattle.chrono_datetime.specs.MonthMoves.{InSameMonth}
use Rattle.chrono_cron.specs.declared.field_sets.FieldSets.{FieldSets}
use Rattle.chrono_cron.specs.Due.{is_day}

-- no date of the calendar from one on and up to another is one of the schedule's
abbrev pub NoDayFromTo : FieldSets → ℤ → ℤ → Type 0
NoDayFromTo s first last = (d : ℤ) → first ≤ℤ d → d ≤ℤ last → IsDate d → is_day s d ≡ false

-- a day lies in the month of another, or it is none of the schedule's
abbrev pub InMonthOrNoDay : FieldSets → ℤ → ℤ → Type 0
InMonthOrNoDay s n d = InSameMonth d n ⊎ (is_day s d ≡ false)
