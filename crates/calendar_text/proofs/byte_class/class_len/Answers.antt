use Rattle.std.proofs.Common.{sym, ◌∙◌, arith}
use Rattle.std.proofs.lemmas.List.Sums.{prefix_len_is}
use Rattle.calendar_text.specs.Lines.{has_class}
use Rattle.calendar_text.proofs.byte_class.class_len.Goals as goal

pub returns-then-not-is_of-clause-value : goal.returns-then-not-is_of-clause-value
returns-then-not-is_of-clause-value c =
    sym (prefix_len_is (has_class c.args.class) c.args.text.now c.loop-len.len 0 c.loop-len.invariant.within c.loop-len.invariant.passes (λ less. sym c.is_of.ensures ∙ c.if-not-is_of.true))

pub returns-clause-value : goal.returns-clause-value
returns-clause-value c =
    sym (prefix_len_is (has_class c.args.class) c.args.text.now c.loop-len.len 0 c.loop-len.invariant.within c.loop-len.invariant.passes (λ less. absurd (omega (arith, less, c.loop-len-test.false))))
