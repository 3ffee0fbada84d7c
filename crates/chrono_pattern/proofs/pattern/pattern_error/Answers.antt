use Rattle.std.proofs.Common.{ℕ, ◌+◌, List, Some, length, ap, sym, ◌∙◌, arith}
use Rattle.chrono_pattern.specs.Patterns.{error_from}
use Rattle.chrono_pattern.specs.declared.error.PatternFault.TheVariants.{Unknown}
use Rattle.chrono_pattern.proofs.PatternLemmas.{error_from-ends, error_from-goes_on, error_from-stops}
use Rattle.chrono_pattern.proofs.pattern.pattern_error.Goals as goal

pub returns-in_default-pattern_step : goal.returns-in_default-pattern_step
returns-in_default-pattern_step c =
    let l = c.loop-byte in
    let stop = error_from-stops l.state l.begun l.place _ _ _ c.in-Some.ensures.cases.0 (sym c.pattern_step.ensures ∙ c.in_default-pattern_step.is) in
    ap (λ (b : ℕ). Some (record { byte = b; cause = Unknown })) c.begun_at-begun.ensures ∙ sym stop ∙ l.invariant.same

pub loop-byte-preserved : goal.loop-byte-preserved
loop-byte-preserved c =
    let l = c.loop-byte in
    let next = c.in-Some-pattern_step.next in
    let more = error_from-goes_on l.state l.begun l.place _ _ _ next c.in-Some.ensures.cases.0 (sym c.pattern_step.ensures ∙ c.in-Some-pattern_step.is) in
    record {
      same = ap (λ (b : ℕ). error_from next.0 b (l.place + 1) c.in-Some.behind.now) c.begun_at-begun.ensures ∙ sym more ∙ l.invariant.same;
      count = omega (arith, l.invariant.count, ap (λ (k : List ℕ). length k) c.in-Some.ensures.cases.0);
    }

pub returns : goal.returns
returns c =
    let l = c.loop-byte in
    c.cut_error.ensures ∙ sym (error_from-ends l.state l.begun l.place _ c.in_default.ensures.cases) ∙ l.invariant.same
