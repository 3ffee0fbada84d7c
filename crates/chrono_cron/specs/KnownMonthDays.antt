-- Words for days that are known to be named or not.
use Rattle.std.specs.Prelude.{ℕ, ◌-◌, Bool, ◌||◌, List, ℤ}
use Rattle.chrono_datetime.specs.Days.{day_of}
use Rattle.chrono_datetime.specs.MonthMoves.{month_length_of}
use Rattle.chrono_datetime.specs.Weekday.{days_from_sunday}
use Rattle.chrono_datetime.specs.Weeks.{weekday_of}
use Rattle.chrono_sets.specs.FiniteSets.{numbers}
use Rattle.chrono_cron.specs.declared.named_days.MonthDays.{MonthDays}
use Rattle.chrono_cron.specs.Due.{is_named_by_place, is_named_by_weekday}

-- the days L and L-k, kW, LW, dL and d#k, by lists of their numbers
abbrev pub days_named : List ℕ → List ℕ → Bool → List ℕ → List ℕ → MonthDays
days_named ends nearest last lasts nths =
    record { from_end = numbers ends; nearest_workdays = numbers nearest; last_workday = last; last_weekdays = numbers lasts; nth_weekdays = numbers nths }

-- the day n is one of them
unfoldable pub is_named_day : MonthDays → ℤ → Bool
is_named_day m n =
    let p = day_of n in
    let follow = month_length_of n - p in
    let w = days_from_sunday (weekday_of n) in
    is_named_by_place m p follow w || is_named_by_weekday m p follow w
