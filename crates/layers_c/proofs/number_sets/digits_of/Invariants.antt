-- The digits so far are the lowest of the set's.
use Rattle.std.proofs.Common.{◌≡◌, ◌%◌, ◌^◌}
use Rattle.layers_c.proofs.number_sets.digits_of.Given as goal

abbrev pub invariant-loop-number : goal.invariant-loop-number
invariant-loop-number l = l.digits ≡ l.set.code % 2 ^ l.number
