use Rattle.std.proofs.Common.{◌-◌, arith}
use Rattle.chrono_sets.proofs.WordDigits.{last_member, none_past, no_member}
use Rattle.chrono_sets.proofs.place_set.PlaceSet.last.Goals as goal

pub returns-then-word-ne0-clause-member : goal.returns-then-word-ne0-clause-member
returns-then-word-ne0-clause-member c =
    rw (← c.self.view_is) (last_member c.self.inside.words (c.loop-count.count - 1) c.self.invariant c.if-word-ne0.true)

pub returns-then-word-ne0-clause-greatest : goal.returns-then-word-ne0-clause-greatest
returns-then-word-ne0-clause-greatest c =
    rw (← c.self.view_is)
    (λ j past. none_past c.self.inside.words (c.loop-count.count - 1) c.self.invariant c.if-word-ne0.true j (λ i gt. c.loop-count.invariant.1 i (omega (arith, gt))) past)

pub returns-clause-none : goal.returns-clause-none
returns-clause-none c =
    rw (← c.self.view_is) (λ j. no_member c.self.inside.words j c.self.invariant (λ i. c.loop-count.invariant.1 i (omega (arith, c.loop-count-test.false))))
