-- The workdays so far stand in front, and behind what was read stand the days that stood there.
use Rattle.std.proofs.Common.{◌≡◌, ◌≤◌, length, take, filter}
use Rattle.std.specs.List.{AllWithin, SameFrom}
use Rattle.chrono_datetime.specs.Days.{IsDate}
use Rattle.chrono_business.specs.OpenDays.{is_workday}
use Rattle.chrono_business.proofs.holiday_list.without_weekends.Given as goal

abbrev pub invariant-loop-place : goal.invariant-loop-place
invariant-loop-place l = record {
  bound : l.count ≤ l.place;
  same : length l.dates ≡ length l.fn.dates;
  left : take l.count l.dates ≡ filter (is_workday l.weekend) (take l.place l.fn.dates);
  ahead : SameFrom l.fn.dates l.dates l.place;
  date : AllWithin IsDate l.fn.dates 0 l.place;
}
