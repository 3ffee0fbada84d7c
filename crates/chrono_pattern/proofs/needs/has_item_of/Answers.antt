use Rattle.std.proofs.Common.{sym, ◌∙◌}
use Rattle.chrono_pattern.proofs.PatternLemmas.{has_item_of-ends, has_item_of-found, has_item_of-goes_on, has_item_of-stops}
use Rattle.chrono_pattern.proofs.needs.has_item_of.Goals as goal

pub returns-in_default-pattern_step : goal.returns-in_default-pattern_step
returns-in_default-pattern_step c =
    let l = c.loop-byte in
    sym (has_item_of-stops c.args.sort l.state _ _ _ c.in-Some.ensures.cases.0 (sym c.pattern_step.ensures ∙ c.in_default-pattern_step.is)) ∙ l.invariant

pub returns-then-is_item_of : goal.returns-then-is_item_of
returns-then-is_item_of c =
    let l = c.loop-byte in
    let step = sym c.pattern_step.ensures ∙ c.in-Some-pattern_step.is in
    sym (has_item_of-found c.args.sort l.state _ _ _ c.in-Some-pattern_step.next c.in-Some.ensures.cases.0 step (sym c.is_item_of.ensures ∙ c.if-is_item_of.true)) ∙ l.invariant

pub loop-byte-preserved : goal.loop-byte-preserved
loop-byte-preserved c =
    let l = c.loop-byte in
    let step = sym c.pattern_step.ensures ∙ c.in-Some-pattern_step.is in
    sym (has_item_of-goes_on c.args.sort l.state _ _ _ c.in-Some-pattern_step.next c.in-Some.ensures.cases.0 step (sym c.is_item_of.ensures ∙ c.if-is_item_of.false)) ∙ l.invariant

pub returns : goal.returns
returns c =
    let l = c.loop-byte in
    sym (has_item_of-ends c.args.sort l.state _ c.in_default.ensures.cases) ∙ l.invariant
