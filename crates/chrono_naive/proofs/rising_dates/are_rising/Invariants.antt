-- The dates so far rise.
use Rattle.std.proofs.Common.{length, ◌-◌, ◌≤◌, ◌<◌, ℕ, ℤ, ◌<ℤ◌}
use Rattle.std.specs.Prelude.{slice_index_or}
use Rattle.chrono_naive.proofs.rising_dates.are_rising.Given as goal

abbrev pub invariant-loop-place : goal.invariant-loop-place
invariant-loop-place l =
    (1 ≤ l.place) × ((i j : ℕ) (d : ℤ) → i < j → j < l.place → j < length l.days → slice_index_or l.days i d <ℤ slice_index_or l.days j d)

abbrev pub decreases-loop-place : goal.decreases-loop-place
decreases-loop-place l = length l.days - l.place
