-- What is written, and what is to be written behind it, are all instances.
use Rattle.std.proofs.Common.{◌≡◌, ◌≤◌, ◌-◌, ◌++◌, length, take, drop}
use Rattle.std.specs.Prelude.{int_le}
use Rattle.layers_c.proofs.FilledLists.{shown}
use Rattle.layers_c.proofs.rules.write_instances.Given as goal

abbrev pub invariant-loop-count : goal.invariant-loop-count
invariant-loop-count l =
    (l.count ≤ length l.initial.out) × (length l.out ≡ length l.initial.out)
    × (shown (λ n. n) (λ n. int_le n l.until) (length l.initial.out) l.initial.days
    ≡ take l.count l.out ++ shown (λ n. n) (λ n. int_le n l.until) (length l.initial.out - l.count) l.days)
    × (drop l.count l.out ≡ drop l.count l.initial.out)

abbrev pub decreases-loop-count : goal.decreases-loop-count
decreases-loop-count l = length l.initial.out - l.count
