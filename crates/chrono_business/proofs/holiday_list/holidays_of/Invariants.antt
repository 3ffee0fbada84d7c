-- The dates of the years so far are those in front.
use Rattle.std.proofs.Common.{◌≡◌, ◌≤◌, [], length, take, pos, ◌-ℤ◌, ◌≤ℤ◌, ◌<ℤ◌}
use Rattle.chrono_business.specs.HolidayLists.{AreHolidaysWith, IsOfRules}
use Rattle.chrono_business.proofs.holiday_list.holidays_of.Given as goal

abbrev pub invariant-loop-year : goal.invariant-loop-year
invariant-loop-year l = record {
  bound : l.len ≤ length l.out;
  same : length l.out ≡ length l.fn.out;
  from : l.fn.first_year ≤ℤ l.year;
  end : l.fn.last_year <ℤ l.year → l.year ≡ l.fn.first_year;
  with : AreHolidaysWith l.fn.weekend [] (λ d. IsOfRules l.rules l.fn.first_year (l.year -ℤ pos 1) d) (take l.len l.out);
}
