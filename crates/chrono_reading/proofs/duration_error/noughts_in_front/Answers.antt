use Rattle.std.proofs.Common.{sym, ◌∙◌, arith}
use Rattle.std.proofs.lemmas.List.Sums.{prefix_len_is}
use Rattle.chrono_reading.specs.DurationErrors.{is_nought, noughts_in_front}
use Rattle.chrono_reading.proofs.duration_error.noughts_in_front.Goals as goal

pub returns-then-not-is_nought : goal.returns-then-not-is_nought
unfolding noughts_in_front
returns-then-not-is_nought c =
    sym (prefix_len_is is_nought c.args.text.now c.loop-len.len 0 c.loop-len.invariant.within c.loop-len.invariant.noughts (λ less. sym c.is_nought.ensures ∙ c.if-not-is_nought.true))

pub returns : goal.returns
unfolding noughts_in_front
returns c =
    sym (prefix_len_is is_nought c.args.text.now c.loop-len.len 0 c.loop-len.invariant.within c.loop-len.invariant.noughts (λ less. absurd (omega (arith, less, c.loop-len-test.false))))
