use Rattle.std.proofs.Common.{length, arith}
use Rattle.std.proofs.lemmas.Grind.{common_steps}
use Rattle.std.proofs.lemmas.Option.{same_Some}
use Rattle.chrono_text.proofs.FractionLemmas.{IsCount-point, IsPointText-count, nanos_below, nanos_same}
use Rattle.chrono_text.proofs.read.fraction.read_places.Goals as goal
use Rattle.chrono_text.proofs.read.fraction.read_places.Goals.{then-is_empty-via-then-is_empty, then-is_empty-via-else-is_empty+then-digits-gt-MOST_PLACES}

pub returns-then-is_empty-clause-every : goal.returns-then-is_empty-clause-every
returns-then-is_empty-clause-every c = λ n is.
    let count = IsCount-point _ n is in
    let some = count.some in
    let few = count.few in
    elim c.then-is_empty.branch [
      | then-is_empty-via-then-is_empty w ↦ grind (arith, common_steps)
      | then-is_empty-via-else-is_empty+then-digits-gt-MOST_PLACES w ↦ absurd (omega arith)
    ]

pub returns-in_err-count-clause-every : goal.returns-in_err-count-clause-every
returns-in_err-count-clause-every c = λ n is.
    let count = IsCount-point _ n is in let none = c.in_err-count.ensures.every count.count count.below count.written in cc

pub overflow_mul-result : goal.overflow_mul-result
overflow_mul-result c =
    let below = nanos_below (length c.args.digits.now) c.in_ok-count.count (omega arith) c.in_ok-count.ensures.some.0 in
    rw c.pow.ensures (omega arith)

pub returns-clause-some : goal.returns-clause-some
returns-clause-some c =
    let some = c.in_ok-count.ensures.some in
    let point = IsPointText-count c.args.digits.now c.in_ok-count.count (grind (arith, common_steps)) (omega arith) some.0 some.1 in
    rw c.pow.ensures (nanos_below (length c.args.digits.now) c.in_ok-count.count (omega arith) some.0, point)

pub returns-clause-every : goal.returns-clause-every
returns-clause-every c = λ n is.
    let count = IsCount-point _ n is in
    let found = same_Some _ _ (c.in_ok-count.ensures.every count.count count.below count.written) in
    nanos_same c.args.digits.now _ _ _ n found c.pow.ensures count.worth
