use Rattle.std.proofs.Common.{inl, inr, sym, ◌∙◌, arith}
use Rattle.chrono_reading.proofs.FittingLemmas.{in_common-end, in_common-no, in_common-yes}
use Rattle.chrono_reading.proofs.name.in_common.Goals as goal

pub returns-then-to_ascii_lowercase : goal.returns-then-to_ascii_lowercase
returns-then-to_ascii_lowercase c =
    omega (arith, c.loop-len.invariant.rest, in_common-no c.args.name.now c.args.text.now c.loop-len.len (omega arith) (omega arith) (λ e. absurd (omega (arith, e, c.to_ascii_lowercase.ensures.value, c.to_ascii_lowercase-in-loop-len.ensures.value, c.if-to_ascii_lowercase.true))))

pub loop-len-preserved : goal.loop-len-preserved
loop-len-preserved c = record {
  in_name = omega arith;
  in_text = omega arith;
  rest = omega (arith, c.loop-len.invariant.rest, in_common-yes c.args.name.now c.args.text.now c.loop-len.len (omega arith) (omega arith) (sym c.to_ascii_lowercase.ensures.value ∙ (c.if-to_ascii_lowercase.false ∙ c.to_ascii_lowercase-in-loop-len.ensures.value)));
}

pub returns-else-len-text : goal.returns-else-len-text
returns-else-len-text c =
    omega (arith, c.loop-len.invariant.rest, in_common-end c.args.name.now c.args.text.now c.loop-len.len (inr (omega arith)))

pub returns-after-loop-len : goal.returns-after-loop-len
returns-after-loop-len c =
    omega (arith, c.loop-len.invariant.rest, in_common-end c.args.name.now c.args.text.now c.loop-len.len (inl (omega arith)))
