use Rattle.std.proofs.Common.{◌==◌, arith, eq-eqb, ne_eqb}
use Rattle.std.proofs.lemmas.List.Sums.{position_or_len_is}
use Rattle.chrono_text.proofs.list.byte_place.Goals as goal

pub returns-then-text-place-clause-place : goal.returns-then-text-place-clause-place
returns-then-text-place-clause-place c =
    position_or_len_is (λ x. x == c.args.byte) c.args.text.now c.loop-place.place 0 (c.loop-place.invariant.0) (λ k lt. ne_eqb _ c.args.byte (c.loop-place.invariant.1 k lt))
    (λ lt. eq-eqb _ c.args.byte c.if-text-place.true)

pub returns-clause-place : goal.returns-clause-place
returns-clause-place c =
    position_or_len_is (λ x. x == c.args.byte) c.args.text.now c.loop-place.place 0 (c.loop-place.invariant.0) (λ k lt. ne_eqb _ c.args.byte (c.loop-place.invariant.1 k lt))
    (λ lt. absurd (omega (arith, lt, c.loop-place-test.false)))
