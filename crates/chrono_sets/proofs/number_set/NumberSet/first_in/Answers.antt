use Rattle.std.proofs.Common.{arith}
use Rattle.chrono_sets.proofs.Digits.{none_from, first_from, none_before_first}
use Rattle.chrono_sets.proofs.number_set.NumberSet.first_in.Goals as goal

pub returns-then-rest-eq0-clause-none : goal.returns-then-rest-eq0-clause-none
returns-then-rest-eq0-clause-none c = rw (← c.self.view_is) (λ j low high. none_from _ c.args.from j c.if-rest-eq0.true low)

pub returns-then-first-end-clause-member : goal.returns-then-first-end-clause-member
returns-then-first-end-clause-member c = rw (← c.self.view_is) (first_from _ c.args.from (omega arith) (omega arith))

pub returns-then-first-end-clause-least : goal.returns-then-first-end-clause-least
returns-then-first-end-clause-least c = rw (← c.self.view_is) (λ j low high. none_before_first _ c.args.from j (omega arith) (omega arith) low high)

pub returns-else-first-end-clause-none : goal.returns-else-first-end-clause-none
returns-else-first-end-clause-none c =
    rw (← c.self.view_is) (λ j low high. none_before_first _ c.args.from j (omega arith) (omega arith) low (omega (arith, high, c.if-first-end.false)))
