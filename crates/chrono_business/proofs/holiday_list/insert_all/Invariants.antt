-- The days of the list so far are among those in front.
use Rattle.std.proofs.Common.{◌≡◌, ◌≤◌, true, length, take}
use Rattle.chrono_business.specs.OpenDays.{is_holiday}
use Rattle.chrono_business.specs.HolidayLists.{AreHolidaysWith}
use Rattle.chrono_business.proofs.holiday_list.insert_all.Given as goal

abbrev pub invariant-loop-date : goal.invariant-loop-date
invariant-loop-date l = record {
  bound : l.count ≤ length l.dates;
  same : length l.dates ≡ length l.fn.dates;
  with : AreHolidaysWith l.fn.weekend (take l.fn.len l.fn.dates) (λ d. is_holiday (take l.date-index l.more) d ≡ true) (take l.count l.dates);
}
