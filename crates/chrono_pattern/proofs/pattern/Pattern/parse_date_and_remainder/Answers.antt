use Rattle.std.proofs.Common.{◌≡◌, ℕ, List, false, ap, sym, ◌∙◌}
use Rattle.chrono_pattern.specs.DateParts.{names_date}
use Rattle.chrono_pattern.specs.NamedParts.{sure_parts}
use Rattle.chrono_pattern.specs.declared.names.Names.{Names}
use Rattle.chrono_pattern.proofs.NamedLemmas.{no_date_in_front}
use Rattle.chrono_pattern.proofs.pattern.Pattern.parse_date_and_remainder.Goals as goal

pub returns-then-not-self-clause-exists : goal.returns-then-not-self-clause-exists
returns-then-not-self-clause-exists c = λ n rest date is.
    let none : names_date (sure_parts c.args.self.now) ≡ false =
    sym (ap (λ (b : List ℕ). names_date (sure_parts b)) c.self.view_is) ∙ sym (ap (λ (it : Names). it.date) c.self.invariant.2) ∙ c.if-not-self.true in
    absurd (no_date_in_front c.args.self.now c.args.text.now n rest none is)
