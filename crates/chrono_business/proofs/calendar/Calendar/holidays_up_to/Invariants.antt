-- The holidays in front have no larger rank, those behind what is left have one.
use Rattle.std.proofs.Common.{◌≤◌, ◌<◌, ◌+◌, length}
use Rattle.std.specs.List.{AllWithin}
use Rattle.chrono_datetime.specs.Recurrence.{first_date}
use Rattle.chrono_business.specs.OpenDays.{open_days}
use Rattle.chrono_business.proofs.calendar.Calendar.holidays_up_to.Given as goal

abbrev pub invariant-loop-left : goal.invariant-loop-left
invariant-loop-left l = record {
  within : l.place + l.left ≤ length l.self.holidays;
  behind : AllWithin (λ h. open_days l.self first_date h ≤ l.fn.rank) l.self.holidays 0 l.place;
  ahead : AllWithin (λ h. l.fn.rank < open_days l.self first_date h) l.self.holidays (l.place + l.left) (length l.self.holidays);
}

abbrev pub decreases-loop-left : goal.decreases-loop-left
decreases-loop-left l = l.left
