use Rattle.std.proofs.Common.{sym, ◌∙◌, arith}
use Rattle.std.proofs.lemmas.List.Sums.{prefix_len_is}
use Rattle.std.specs.Char.{is_ascii_alphabetic}
use Rattle.zone_text.proofs.name.letters_len.Goals as goal

pub returns-then-not-is_ascii_alphabetic-clause-value : goal.returns-then-not-is_ascii_alphabetic-clause-value
returns-then-not-is_ascii_alphabetic-clause-value c =
    sym (prefix_len_is is_ascii_alphabetic c.args.text.now c.loop-len.len 0 c.loop-len.invariant.within c.loop-len.invariant.passed (λ less. sym c.is_ascii_alphabetic.ensures.value ∙ c.if-not-is_ascii_alphabetic.true))

pub returns-clause-value : goal.returns-clause-value
returns-clause-value c =
    sym (prefix_len_is is_ascii_alphabetic c.args.text.now c.loop-len.len 0 c.loop-len.invariant.within c.loop-len.invariant.passed (λ less. absurd (omega (arith, less, c.loop-len-test.false))))
