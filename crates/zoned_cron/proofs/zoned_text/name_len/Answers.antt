use Rattle.std.proofs.Common.{ap, sym, ◌∙◌, arith, not, ℕ}
use Rattle.std.proofs.lemmas.List.Sums.{prefix_len_is}
use Rattle.chrono_text.specs.Lists.{is_blank}
use Rattle.zoned_cron.proofs.zoned_text.name_len.Goals as goal

pub returns-then-is_blank-clause-value : goal.returns-then-is_blank-clause-value
returns-then-is_blank-clause-value c =
    sym (prefix_len_is (λ (x : ℕ). not (is_blank x)) c.args.text.now c.loop-len.len 0 c.loop-len.invariant.within (λ k less. ap not (c.loop-len.invariant.words k less)) (λ less. ap not (sym c.is_blank.ensures ∙ c.if-is_blank.true)))

pub returns-clause-value : goal.returns-clause-value
returns-clause-value c =
    sym (prefix_len_is (λ (x : ℕ). not (is_blank x)) c.args.text.now c.loop-len.len 0 c.loop-len.invariant.within (λ k less. ap not (c.loop-len.invariant.words k less)) (λ less. absurd (omega (arith, less, c.loop-len-test.false))))
