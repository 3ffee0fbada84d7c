-- The dates of the rules so far are among those in front.
use Rattle.std.proofs.Common.{◌≡◌, ◌≤◌, length, take}
use Rattle.chrono_business.specs.HolidayLists.{AreHolidaysWith}
use Rattle.chrono_business.proofs.HolidayUnions.{IsOfFirst}
use Rattle.chrono_business.proofs.holiday_list.insert_year.Given as goal

abbrev pub invariant-loop-rule : goal.invariant-loop-rule
invariant-loop-rule l = record {
  bound : l.count ≤ length l.dates;
  same : length l.dates ≡ length l.fn.dates;
  with : AreHolidaysWith l.fn.weekend (take l.fn.len l.fn.dates) (λ d. IsOfFirst l.rules l.rule-index l.fn.year d) (take l.count l.dates);
}
