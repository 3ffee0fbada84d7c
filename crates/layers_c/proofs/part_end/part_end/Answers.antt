use Rattle.std.proofs.Common.{◌≡◌, ◌∙◌, inl, inr, ap, sym, arith}
use Rattle.std.specs.Prelude.{slice_index}
use Rattle.std.proofs.lemmas.Bool.{cases_lt}
use Rattle.layers_c.specs.Faults.{is_behind_part}
use Rattle.layers_c.proofs.part_end.part_end.Goals as goal

pub loop-end-init : goal.loop-end-init
loop-end-init c = (omega arith, c.requires, λ i a b. absurd (omega (arith, a, b)))

pub returns-then-is_behind_part : goal.returns-then-is_behind_part
returns-then-is_behind_part c = record {
  order = c.loop-end.invariant.0;
  within = omega (arith, c.loop-end-test.true);
  inside = c.loop-end.invariant.2;
  behind = λ _. sym c.is_behind_part.ensures ∙ c.if-is_behind_part.true;
}

pub loop-end-smaller : goal.loop-end-smaller
loop-end-smaller c = omega (arith, c.loop-end-test.true)

pub loop-end-preserved : goal.loop-end-preserved
loop-end-preserved c = (
  omega (arith, c.loop-end.invariant.0),
  omega (arith, c.loop-end-test.true),
  λ i from to. elim (cases_lt i c.loop-end.end) [
    | inl earlier ↦ c.loop-end.invariant.2 i from earlier
    | inr last ↦
        let here : i ≡ c.loop-end.end = omega (arith, last, to) in
        ap (λ k. is_behind_part (slice_index c.args.text.now k)) here ∙ sym c.is_behind_part.ensures ∙ c.if-is_behind_part.false
  ],
)

pub returns : goal.returns
returns c = record {
  order = c.loop-end.invariant.0;
  within = c.loop-end.invariant.1;
  inside = c.loop-end.invariant.2;
  behind = λ left. absurd (omega (arith, left, c.loop-end-test.false));
}
