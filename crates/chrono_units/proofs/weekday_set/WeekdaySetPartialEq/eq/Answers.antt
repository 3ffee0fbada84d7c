use Rattle.std.proofs.Common.{refl, sym, ap, ◌∙◌}
use Rattle.std.proofs.lemmas.Bool.{eq-eqb, eqb-true}
use Rattle.chrono_units.specs.SetDigits.{set_at}
use Rattle.chrono_units.specs.WeekdaySet.{set_number}
use Rattle.chrono_units.proofs.SetDigitLemmas.{stored_number}
use Rattle.chrono_units.proofs.weekday_set.WeekdaySetPartialEq.eq.Goals as goal

pub returns-clause-same : goal.returns-clause-same
returns-clause-same c =
    let left = stored_number _ _ c.self.invariant c.self.view_is in
    let right = stored_number _ _ c.other.invariant c.other.view_is in (
      λ h. sym c.self.view_is ∙ ap set_at (eqb-true _ _ h) ∙ c.other.view_is,
      λ e. eq-eqb _ _ (left ∙ ap set_number e ∙ sym right),
    )

pub returns-clause-number : goal.returns-clause-number
returns-clause-number c = rw (stored_number _ _ c.self.invariant c.self.view_is, stored_number _ _ c.other.invariant c.other.view_is) refl
