use Rattle.std.proofs.Common.{ap, sym, ◌∙◌}
use Rattle.std.proofs.lemmas.Bool.{eq-eqb, eqb-true}
use Rattle.chrono_sets.specs.FiniteSets.{code_of}
use Rattle.chrono_sets.proofs.Members.{same_code}
use Rattle.chrono_sets.proofs.WordDigits.{same_words}
use Rattle.chrono_sets.proofs.place_set.PlaceSetPartialEq.eq.Goals as goal

pub returns-clause-number : goal.returns-clause-number
returns-clause-number c =
    rw (← c.self.view_is, ← c.other.view_is) (c.eq.ensures ∙ same_words c.self.inside.words c.other.inside.words c.self.invariant.small c.other.invariant.small (c.self.invariant.six ∙ sym c.other.invariant.six))

pub returns-clause-same : goal.returns-clause-same
returns-clause-same c =
    let one = c.args.self.now in
    let other = c.args.other.now in
    let number = returns-clause-number c in
    (λ h. same_code one other (eqb-true (code_of one) (code_of other) (sym number ∙ h)), λ e. number ∙ eq-eqb (code_of one) (code_of other) (ap code_of e))
