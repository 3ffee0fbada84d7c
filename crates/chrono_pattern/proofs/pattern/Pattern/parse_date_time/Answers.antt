use Rattle.std.proofs.Common.{◌≡◌, ℕ, List, false, ap, sym, ◌∙◌}
use Rattle.chrono_pattern.specs.ZonedParts.{names_moment}
use Rattle.chrono_pattern.specs.NamedParts.{sure_parts}
use Rattle.chrono_pattern.specs.declared.names.Names.{Names}
use Rattle.chrono_pattern.proofs.NamedLemmas.{no_date_time}
use Rattle.chrono_pattern.proofs.pattern.Pattern.parse_date_time.Goals as goal

pub returns-then-not-self-clause-every : goal.returns-then-not-self-clause-every
returns-then-not-self-clause-every c = λ m date clock is.
    let none : names_moment (sure_parts c.args.self.now) ≡ false =
    sym (ap (λ (b : List ℕ). names_moment (sure_parts b)) c.self.view_is) ∙ sym (ap (λ (it : Names). it.date_time) c.self.invariant.2) ∙ c.if-not-self.true in
    absurd (no_date_time c.args.self.now c.args.text.now m none is)
