use Rattle.std.proofs.Common.{◌≡◌, ℕ, List, Some, ap, sym, ◌∙◌}
use Rattle.chrono_stamps.specs.MailWords.{gap_step}
use Rattle.chrono_stamps.proofs.MailWordLemmas.{gap_end-ends, gap_end-goes_on, gap_end-stops, gap_step-room}
use Rattle.chrono_stamps.proofs.mail_words.gap_end.Goals as goal

pub returns-in_default-gap_step-clause-depth : goal.returns-in_default-gap_step-clause-depth
returns-in_default-gap_step-clause-depth c =
    ap (λ (p : ℕ × List ℕ). p.0) (sym (gap_end-stops _ _ _ _ _ c.in-Some.ensures.cases.0 (sym c.gap_step.ensures ∙ c.in_default-gap_step.is)) ∙ c.loop-byte.invariant.same)

pub returns-in_default-gap_step-clause-rest : goal.returns-in_default-gap_step-clause-rest
returns-in_default-gap_step-clause-rest c =
    ap (λ (p : ℕ × List ℕ). p.1) (sym (gap_end-stops _ _ _ _ _ c.in-Some.ensures.cases.0 (sym c.gap_step.ensures ∙ c.in_default-gap_step.is)) ∙ c.loop-byte.invariant.same)

pub loop-byte-preserved : goal.loop-byte-preserved
loop-byte-preserved c =
    let step : gap_step c.loop-byte.state.0 c.loop-byte.state.1 c.in-Some.byte.now ≡ Some c.in-Some-gap_step.next = sym c.gap_step.ensures ∙ c.in-Some-gap_step.is in
    record {
      same = sym (gap_end-goes_on _ _ _ _ _ c.in-Some-gap_step.next c.in-Some.ensures.cases.0 step) ∙ c.loop-byte.invariant.same;
      room = gap_step-room _ _ _ _ _ _ _ c.in-Some.ensures.cases.0 step c.loop-byte.invariant.room;
    }

pub returns-clause-depth : goal.returns-clause-depth
returns-clause-depth c =
    ap (λ (p : ℕ × List ℕ). p.0) (sym (gap_end-ends _ _ _ c.in_default.ensures.cases) ∙ c.loop-byte.invariant.same)

pub returns-clause-rest : goal.returns-clause-rest
returns-clause-rest c =
    ap (λ (p : ℕ × List ℕ). p.1) (sym (gap_end-ends _ _ _ c.in_default.ensures.cases) ∙ c.loop-byte.invariant.same)
