-- The open days from one day to before another, one after another.
use Rattle.std.specs.Prelude.{List, filter, ℤ}
use Rattle.chrono_datetime.specs.DateLists.{in_steps}
use Rattle.chrono_datetime.specs.Recurrence.{days_between}
use Rattle.chrono_business.specs.OpenDays.{Closed, is_open}

-- of the days from a to before b, day after day, those that are open; none if b is not after a
unfoldable pub open_days_list : Closed → ℤ → ℤ → List ℤ
open_days_list c a b = filter (is_open c) (in_steps 1 (days_between a b) a)
