use Rattle.std.proofs.Common.{◌≡◌, ℕ, zero, suc, ◌+◌, ◌<◌, List, [], ◌∷◌, length, get_or, drop, true, false, sym, ap, ◌∙◌, arith}
use Rattle.chrono_rules.specs.declared.text.rule_error.RulePart.{RulePart}
use Rattle.chrono_rules.specs.declared.text.rule_error.RulePart.TheVariants.{Freq, Wkst}
use Rattle.chrono_rules.specs.RuleErrors.{first_unread, is_read, part_error, parts_but_last, unread_error}
use Rattle.std.specs.Prelude.{if◌then◌else◌}
use Rattle.chrono_rules.proofs.text.first_error.unread_error.Goals as goal

-- past a part that can be read, and at one that cannot
past : (text : List ℕ) (parts : List RulePart) (i : ℕ) (d : RulePart) → i < length parts → is_read text (get_or parts i d) ≡ true
    → first_unread text (drop i parts) Wkst ≡ first_unread text (drop (suc i) parts) Wkst
past text [] i d less is = absurd (omega (arith, less))
past text (p ∷ ps) zero d less is = ap (λ b. if b then first_unread text ps Wkst else part_error text p) is
past text (p ∷ ps) (suc i) d less is = past text ps i d (omega (arith, less)) is

at : (text : List ℕ) (parts : List RulePart) (i : ℕ) (d : RulePart) → i < length parts → is_read text (get_or parts i d) ≡ false
    → first_unread text (drop i parts) Wkst ≡ part_error text (get_or parts i d)
at text [] i d less is = absurd (omega (arith, less))
at text (p ∷ ps) zero d less is = ap (λ b. if b then first_unread text ps Wkst else part_error text p) is
at text (p ∷ ps) (suc i) d less is = at text ps i d (omega (arith, less)) is

pub loop-part-preserved : goal.loop-part-preserved
loop-part-preserved c =
    let next : c.loop-part.part-index + 1 ≡ suc c.loop-part.part-index = omega arith in
    c.loop-part.invariant ∙ past c.args.parts.now parts_but_last c.loop-part.part-index _ c.loop-part-test.true (sym c.is_read.ensures ∙ c.if-not-is_read.false)
    ∙ ap (λ i. first_unread c.args.parts.now (drop i parts_but_last) Wkst) (sym next)

pub returns-clause-error : goal.returns-clause-error
unfolding unread_error
returns-clause-error c =
    let end : c.loop-part.part-index ≡ 10 = omega (arith, c.loop-part.auto.part-index-end, c.loop-part-test.false) in
    c.part_error-2.ensures.error ∙ ap (λ (text : List ℕ). part_error text Wkst) c.parts.view_is
    ∙ sym (c.loop-part.invariant ∙ ap (λ i. first_unread c.args.parts.now (drop i parts_but_last) Wkst) end)

pub returns-then-not-is_read-clause-error : goal.returns-then-not-is_read-clause-error
unfolding unread_error
returns-then-not-is_read-clause-error c =
    c.part_error.ensures.error ∙ ap (λ (text : List ℕ). part_error text (get_or parts_but_last c.loop-part.part-index Freq)) c.parts.view_is
    ∙ sym (c.loop-part.invariant ∙ at c.args.parts.now parts_but_last c.loop-part.part-index _ c.loop-part-test.true (sym c.is_read.ensures ∙ c.if-not-is_read.true))
