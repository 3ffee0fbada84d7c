use Rattle.std.proofs.Common.{List, ap, arith, inl, inr, length, subst, sym, ℕ, ◌∙◌}
use Rattle.std.specs.Prelude.{get_or}
use Rattle.chrono_stamps.specs.Rfc3339.{IsStampSeparator}
use Rattle.chrono_stamps.proofs.rfc3339_error.error_behind_date.Goals as goal

pub returns-in_default : goal.returns-in_default
returns-in_default c = inl (λ first clock e. absurd (omega (arith, ap (λ (l : List ℕ). length l) e, c.in_default.ensures.cases)), c.not_of_form.ensures)

pub returns-then-not-is_separator : goal.returns-then-not-is_separator
returns-then-not-is_separator c = inl (
  λ first clock e stands.
      let same = ap (λ (l : List ℕ). get_or l 0 0) (sym e ∙ c.in-Some.ensures.cases.0) in
      let holds = c.is_separator.ensures.1 (subst (λ n. IsStampSeparator n) same stands) in
      cc,
  c.not_of_form-then-not-is_separator.ensures,
)

pub returns : goal.returns
returns c =
    inr (c.in-Some.separator.now, c.in-Some.clock.now, c.clock_error.result, c.in-Some.ensures.cases.0, c.is_separator.ensures.0 cc, c.clock_error.ensures.error, c.later_by.ensures)
