use Rattle.std.proofs.Common.{◌≡◌, ◌<◌, ℕ, ◌-◌, ◌*◌, ◌%◌, ◌^◌, ap, arith, bit_and}
use Rattle.std.proofs.lemmas.Nat.{one_shl}
use Rattle.chrono_sets.proofs.Digits.{below, none_below, last_below}
use Rattle.chrono_sets.proofs.number_set.NumberSet.last_in.Goals as goal
use Rattle.chrono_sets.proofs.number_set.NumberSet.last_in.Goals.{Then-from-last, Else-from-last}

-- the digits below the end, as the code masks them
masked : (n end : ℕ) → end < 64 → bit_and n (1 * 2 ^ end % 2 ^ 64 - 1) ≡ below n end
masked n end lt = ap (λ power. bit_and n (power - 1)) (one_shl end 64 lt)

pub returns-then-rest-eq0-clause-none : goal.returns-then-rest-eq0-clause-none
returns-then-rest-eq0-clause-none c =
    rw (← c.self.view_is) (λ j low high. none_below _ c.args.end j (rw (one_shl c.args.end 64 c.requires) at c.if-rest-eq0.true) high)

pub returns-then-from-last-clause-member : goal.returns-then-from-last-clause-member
returns-then-from-last-clause-member c =
    rw (← c.self.view_is) (last_below _ c.args.end _ c.requires (masked c.self.inside.digits c.args.end c.requires) c.if-rest-eq0.false).0

pub returns-then-from-last-clause-before : goal.returns-then-from-last-clause-before
returns-then-from-last-clause-before c =
    (last_below (record { code = c.self.inside.digits }) c.args.end _ c.requires (masked c.self.inside.digits c.args.end c.requires) c.if-rest-eq0.false).1

pub returns-then-from-last-clause-greatest : goal.returns-then-from-last-clause-greatest
returns-then-from-last-clause-greatest c =
    rw (← c.self.view_is) (last_below _ c.args.end _ c.requires (masked c.self.inside.digits c.args.end c.requires) c.if-rest-eq0.false).2

pub returns-else-from-last-clause-none : goal.returns-else-from-last-clause-none
returns-else-from-last-clause-none c =
    rw (← c.self.view_is)
    (λ j low high. (last_below _ c.args.end _ c.requires (masked c.self.inside.digits c.args.end c.requires) c.if-rest-eq0.false).2 j (omega (arith, low, c.if-from-last.false)) high)
