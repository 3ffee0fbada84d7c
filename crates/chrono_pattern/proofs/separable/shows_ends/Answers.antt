use Rattle.std.proofs.Common.{sym, ◌∙◌}
use Rattle.chrono_pattern.proofs.SeparableLemmas.{separable-ends, separable-goes_on, separable-stops, separable-taken}
use Rattle.chrono_pattern.proofs.separable.shows_ends.Goals as goal

pub returns-in_default-pattern_step : goal.returns-in_default-pattern_step
returns-in_default-pattern_step c =
    let l = c.loop-byte in
    sym (separable-stops _ l.state l.bar _ _ _ c.in-Some.ensures.cases.0 (sym c.pattern_step.ensures ∙ c.in_default-pattern_step.is)) ∙ l.invariant

pub returns-then-not-takes_item : goal.returns-then-not-takes_item
returns-then-not-takes_item c =
    let l = c.loop-byte in
    let step = sym c.pattern_step.ensures ∙ c.in-Some-pattern_step.is in
    sym (separable-taken _ l.state l.bar _ _ _ c.in-Some-pattern_step.next c.in-Some.ensures.cases.0 step (sym c.takes_item.ensures ∙ c.if-not-takes_item.true)) ∙ l.invariant

pub loop-byte-preserved : goal.loop-byte-preserved
loop-byte-preserved c =
    let l = c.loop-byte in
    let step = sym c.pattern_step.ensures ∙ c.in-Some-pattern_step.is in
    sym (separable-goes_on _ l.state l.bar _ _ _ _ c.in-Some-pattern_step.next c.in-Some.ensures.cases.0 step (sym c.takes_item.ensures ∙ c.if-not-takes_item.false) c.bar_behind-bar.ensures) ∙ l.invariant

pub returns : goal.returns
returns c =
    let l = c.loop-byte in
    sym (separable-ends _ l.state l.bar _ c.in_default.ensures.cases) ∙ l.invariant
