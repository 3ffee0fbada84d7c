use Rattle.std.proofs.Common.{sym, ◌∙◌, arith}
use Rattle.std.proofs.lemmas.List.Sums.{prefix_len_is}
use Rattle.chrono_stamps.specs.StampErrors.{is_of_clock}
use Rattle.chrono_stamps.proofs.rfc3339_error.clock_len.Goals as goal

pub returns-then-not-is_of_clock-clause-value : goal.returns-then-not-is_of_clock-clause-value
returns-then-not-is_of_clock-clause-value c =
    sym (prefix_len_is is_of_clock c.args.text.now c.loop-len.len 0 c.loop-len.invariant.within c.loop-len.invariant.clock (λ less. sym c.is_of_clock.ensures ∙ c.if-not-is_of_clock.true))

pub returns-clause-value : goal.returns-clause-value
returns-clause-value c =
    sym (prefix_len_is is_of_clock c.args.text.now c.loop-len.len 0 c.loop-len.invariant.within c.loop-len.invariant.clock (λ less. absurd (omega (arith, less, c.loop-len-test.false))))
