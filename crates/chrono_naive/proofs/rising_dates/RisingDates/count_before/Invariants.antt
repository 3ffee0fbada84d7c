-- The holidays in front come before the day, those behind what is left do not.
use Rattle.std.proofs.Common.{◌≤◌, ◌+◌, length, ◌≤ℤ◌, ◌<ℤ◌}
use Rattle.std.specs.List.{AllWithin}
use Rattle.chrono_naive.proofs.rising_dates.RisingDates.count_before.Given as goal

abbrev pub invariant-loop-left : goal.invariant-loop-left
invariant-loop-left l = record {
  within : l.place + l.left ≤ length l.self;
  behind : AllWithin (λ h. h <ℤ l.fn.day) l.self 0 l.place;
  ahead : AllWithin (λ h. l.fn.day ≤ℤ h) l.self (l.place + l.left) (length l.self);
}

abbrev pub decreases-loop-left : goal.decreases-loop-left
decreases-loop-left l = l.left
