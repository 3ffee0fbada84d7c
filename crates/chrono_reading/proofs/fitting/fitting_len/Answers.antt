use Rattle.std.proofs.Common.{inl, inr, sym, ◌∙◌, arith}
use Rattle.chrono_reading.proofs.FittingLemmas.{fitting-end, fitting-no, fitting-yes}
use Rattle.chrono_reading.proofs.fitting.fitting_len.Goals as goal

pub returns-then-not-stands_for-clause-value : goal.returns-then-not-stands_for-clause-value
returns-then-not-stands_for-clause-value c =
    omega (arith, c.loop-len.invariant.rest, fitting-no c.args.form.now c.args.text.now c.loop-len.len (omega arith) (omega arith) (sym c.stands_for.ensures ∙ c.if-not-stands_for.true))

pub loop-len-preserved : goal.loop-len-preserved
loop-len-preserved c = record {
  in_form = omega arith;
  in_text = omega arith;
  rest = omega (arith, c.loop-len.invariant.rest, fitting-yes c.args.form.now c.args.text.now c.loop-len.len (omega arith) (omega arith) (sym c.stands_for.ensures ∙ c.if-not-stands_for.false));
}

pub returns-else-len-text-clause-value : goal.returns-else-len-text-clause-value
returns-else-len-text-clause-value c =
    omega (arith, c.loop-len.invariant.rest, fitting-end c.args.form.now c.args.text.now c.loop-len.len (inr (omega arith)))

pub returns-after-loop-len-clause-value : goal.returns-after-loop-len-clause-value
returns-after-loop-len-clause-value c =
    omega (arith, c.loop-len.invariant.rest, fitting-end c.args.form.now c.args.text.now c.loop-len.len (inl (omega arith)))
