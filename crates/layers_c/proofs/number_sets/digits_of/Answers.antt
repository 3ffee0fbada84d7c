use Rattle.std.proofs.Common.{◌∙◌, ap, sym, arith, bit_or}
use Rattle.std.proofs.lemmas.Nat.{one_shl}
use Rattle.layers_c.proofs.DigitLemmas.{member-one, no_member-zero, none_more, one_more}
use Rattle.layers_c.proofs.number_sets.digits_of.Goals.{then-contains, else-contains}
use Rattle.layers_c.proofs.number_sets.digits_of.Goals as goal

pub loop-number-preserved : goal.loop-number-preserved
loop-number-preserved c = elim c.if-contains.branch [
  | then-contains w ↦
      w.digits-is ∙ ap (bit_or c.loop-number.digits) (one_shl c.loop-number.number 64 (omega (arith, c.loop-number-test.true)))
      ∙ one_more c.args.set.code c.loop-number.number c.loop-number.digits c.loop-number.invariant
      (member-one c.args.set c.loop-number.number (sym c.contains.ensures ∙ w.if-contains.true))
  | else-contains w ↦
      w.digits-is ∙ none_more c.args.set.code c.loop-number.number c.loop-number.digits c.loop-number.invariant
      (no_member-zero c.args.set c.loop-number.number (sym c.contains.ensures ∙ w.if-contains.false))
]
