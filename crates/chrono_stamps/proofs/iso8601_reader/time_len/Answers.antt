use Rattle.std.proofs.Common.{sym, ◌∙◌, arith}
use Rattle.std.proofs.lemmas.List.Sums.{prefix_len_is}
use Rattle.chrono_stamps.specs.Iso8601.{is_of_time}
use Rattle.chrono_stamps.proofs.iso8601_reader.time_len.Goals as goal

pub returns-then-not-is_of_time-clause-value : goal.returns-then-not-is_of_time-clause-value
returns-then-not-is_of_time-clause-value c =
    sym (prefix_len_is is_of_time c.args.text.now c.loop-len.len 0 c.loop-len.invariant.within c.loop-len.invariant.time (λ less. sym c.is_of_time.ensures ∙ c.if-not-is_of_time.true))

pub returns-clause-value : goal.returns-clause-value
returns-clause-value c =
    sym (prefix_len_is is_of_time c.args.text.now c.loop-len.len 0 c.loop-len.invariant.within c.loop-len.invariant.time (λ less. absurd (omega (arith, less, c.loop-len-test.false))))
