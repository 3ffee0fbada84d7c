use Rattle.std.proofs.Common.{sym, ◌∙◌, arith}
use Rattle.std.proofs.lemmas.List.Sums.{prefix_len_is}
use Rattle.zone_text.specs.NameTexts.{is_of_offset}
use Rattle.zone_text.proofs.name.offset_len.Goals as goal

pub returns-then-not-is_of_offset-clause-value : goal.returns-then-not-is_of_offset-clause-value
returns-then-not-is_of_offset-clause-value c =
    sym (prefix_len_is is_of_offset c.args.text.now c.loop-len.len 0 c.loop-len.invariant.within c.loop-len.invariant.passed (λ less. sym c.is_of_offset.ensures ∙ c.if-not-is_of_offset.true))

pub returns-clause-value : goal.returns-clause-value
returns-clause-value c =
    sym (prefix_len_is is_of_offset c.args.text.now c.loop-len.len 0 c.loop-len.invariant.within c.loop-len.invariant.passed (λ less. absurd (omega (arith, less, c.loop-len-test.false))))
