use Rattle.std.proofs.Common.{List, inl, inr, subst, sym, ℕ, ◌∙◌}
use Rattle.chrono_reading.specs.DateErrors.{IsDateError}
use Rattle.chrono_reading.specs.DateTexts.{IsDateText}
use Rattle.chrono_stamps.specs.StampErrors.{IsErrorBehindDate}
use Rattle.chrono_stamps.proofs.rfc3339_error.stamp_error.Goals as goal

pub returns-then-is_signed : goal.returns-then-is_signed
returns-then-is_signed c = inl (sym c.is_signed.ensures ∙ c.if-is_signed.true, c.not_of_form.ensures)

pub returns-in-Err : goal.returns-in-Err
returns-in-Err c = inr (inl (
  sym c.is_signed.ensures ∙ c.if-is_signed.false,
  subst (λ (l : List ℕ). IsDateError l c.in-Err.error) c.split_date.ensures.front c.in-Err.ensures.error,
))

pub returns-in-Ok : goal.returns-in-Ok
returns-in-Ok c = inr (inr (
  c.in-Ok.field-0,
  sym c.is_signed.ensures ∙ c.if-is_signed.false,
  subst (λ (l : List ℕ). IsDateText l c.in-Ok.field-0) c.split_date.ensures.front c.in-Ok.ensures.read,
  subst (λ (l : List ℕ). IsErrorBehindDate l c.error_behind_date.result) c.split_date.ensures.rest c.error_behind_date.ensures,
))
