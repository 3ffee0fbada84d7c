use Rattle.std.proofs.Common.{◌≡◌, length, take, drop}
use Rattle.layers_c.proofs.holidays.write_numbers.Given as goal

abbrev pub invariant-loop-i : goal.invariant-loop-i
invariant-loop-i l =
    (length l.out ≡ length l.initial.out) × (take l.i l.out ≡ take l.i l.dates) × (drop (length l.dates) l.out ≡ drop (length l.dates) l.initial.out)
