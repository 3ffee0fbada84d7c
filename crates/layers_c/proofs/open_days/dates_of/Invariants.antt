-- The dates so far are those of the numbers in front.
use Rattle.std.proofs.Common.{◌≡◌, ◌≤◌, ◌-◌, length, take}
use Rattle.layers_c.proofs.open_days.dates_of.Given as goal

abbrev pub invariant-loop-count : goal.invariant-loop-count
invariant-loop-count l =
    (l.count ≤ length l.numbers) × (l.count ≤ length l.room) × (length l.room ≡ length l.initial.room) × (take l.count l.room ≡ take l.count l.numbers)

abbrev pub decreases-loop-count : goal.decreases-loop-count
decreases-loop-count l = length l.numbers - l.count
