-- The place is as far on as the bytes so far, and the bytes that are left to pass stand in the rest.
use Rattle.std.proofs.Common.{◌≡◌, ◌+◌, ◌-◌, ◌≤◌, length, drop}
use Rattle.calendar_text.specs.Folds.{folded_place, place_behind}
use Rattle.calendar_text.proofs.folds.folded_place.Given as goal

abbrev pub invariant-loop-at : goal.invariant-loop-at
invariant-loop-at l = record {
  within : l.at ≤ length l.text;
  same : l.at + place_behind l.before (drop l.at l.text) l.left ≡ folded_place l.text l.place;
}

abbrev pub decreases-loop-at : goal.decreases-loop-at
decreases-loop-at l = length l.text - l.at
