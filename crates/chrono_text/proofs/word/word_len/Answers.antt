use Rattle.std.proofs.Common.{sym, ◌∙◌, arith}
use Rattle.std.proofs.lemmas.List.Sums.{prefix_len_is}
use Rattle.chrono_text.specs.Lists.{is_of_word}
use Rattle.chrono_text.proofs.word.word_len.Goals as goal

pub returns-then-not-is_of_word-clause-value : goal.returns-then-not-is_of_word-clause-value
returns-then-not-is_of_word-clause-value c =
    sym (prefix_len_is is_of_word c.args.text.now c.loop-len.len 0 c.loop-len.invariant.within c.loop-len.invariant.words (λ less. sym c.is_of_word.ensures ∙ c.if-not-is_of_word.true))

pub returns-clause-value : goal.returns-clause-value
returns-clause-value c =
    sym (prefix_len_is is_of_word c.args.text.now c.loop-len.len 0 c.loop-len.invariant.within c.loop-len.invariant.words (λ less. absurd (omega (arith, less, c.loop-len-test.false))))
