use Rattle.std.proofs.Common.{arith, sym, to_z, of_z}
use Rattle.std.proofs.lemmas.Int.{ints}
use borrow.Author.Differences.{true_is_le}
use mir.Syntax.{w128}
use Rattle.zone_table.proofs.order.follows.Goals as goal

pub returns-then-second_at : goal.returns-then-second_at
returns-then-second_at c = (
  (λ holds. record {
    rises = omega (arith, ints, c.if-second_at.true, c.second_at.ensures, c.second_at.type_inv, c.second_at-2.ensures, c.second_at-2.type_inv);
    apart = omega (arith, ints, holds, c.end_of.ensures, c.start_of.ensures, c.end_of.type_inv, c.start_of.type_inv);
  }),
  (λ follows.
      let apart = follows.apart in
      sym (true_is_le (to_z w128 (of_z w128 c.end_of.result)) (to_z w128 (of_z w128 c.start_of.result))
      (omega (arith, ints, apart, c.end_of.ensures, c.start_of.ensures, c.end_of.type_inv, c.start_of.type_inv)))),
)
