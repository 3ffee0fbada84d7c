-- The items of the bytes that are left are those of all bytes, and the bytes so far are ASCII.
use Rattle.std.proofs.Common.{◌≡◌, ◌≤◌, List, ℕ, ◌++◌, length, true}
use Rattle.std.specs.Str.{IsAscii}
use Rattle.chrono_pattern.specs.PatternItems.{is_within, items_from}
use Rattle.chrono_pattern.proofs.front_item.later_item.Given as goal

abbrev pub invariant-loop-byte : goal.invariant-loop-byte
invariant-loop-byte l = record {
  items : items_from l.stands l.rest ≡ items_from l.initial.stands l.initial.rest;
  shorter : length l.rest ≤ length l.initial.rest;
  within : is_within l.stands ≡ true;
  front : (front : List ℕ) × (l.initial.rest ≡ front ++ l.rest) × IsAscii front;
}

abbrev pub decreases-loop-byte : goal.decreases-loop-byte
decreases-loop-byte l = length l.rest
