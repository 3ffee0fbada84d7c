-- The numbers so far stand before those of the rest.
use Rattle.std.proofs.Common.{◌≡◌, ◌+◌, ◌*◌, ◌≤◌, length, take}
use Rattle.caltool_command.specs.Private.{EndsWord, numbers_behind}
use Rattle.caltool_command.proofs.Reading.{before}
use Rattle.caltool_command.proofs.numbers.read_digits.Given as goal

abbrev pub invariant-loop-rest : goal.invariant-loop-rest
invariant-loop-rest l = record {
  so_far : numbers_behind l.fn.text ≡ before (take l.len l.items) (numbers_behind l.rest);
  ends : EndsWord l.rest;
  sized : length l.items ≡ 60;
  room : 2 * l.len + length l.rest ≤ 120;
}

abbrev pub decreases-loop-rest : goal.decreases-loop-rest
decreases-loop-rest l = length l.rest
