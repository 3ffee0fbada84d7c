use Rattle.std.proofs.Common.{sym, ◌∙◌}
use Rattle.chrono_pattern.proofs.FieldLemmas.{named_from-ends, named_from-goes_on, named_from-stops}
use Rattle.chrono_pattern.proofs.named_parts.named_parts.Goals as goal

pub returns-in_default-pattern_step : goal.returns-in_default-pattern_step
returns-in_default-pattern_step c =
    let l = c.loop-byte in
    sym (named_from-stops l.state _ _ _ l.parts c.in-Some.ensures.cases.0 (sym c.pattern_step.ensures ∙ c.in_default-pattern_step.is)) ∙ l.invariant

pub loop-byte-preserved : goal.loop-byte-preserved
loop-byte-preserved c =
    let l = c.loop-byte in
    let step = sym c.pattern_step.ensures ∙ c.in-Some-pattern_step.is in
    sym (named_from-goes_on l.state _ _ _ l.parts _ c.in-Some-pattern_step.next c.in-Some.ensures.cases.0 step c.with_item-parts.ensures) ∙ l.invariant

pub returns : goal.returns
returns c =
    let l = c.loop-byte in
    sym (named_from-ends l.state _ l.parts c.in_default.ensures.cases) ∙ l.invariant
