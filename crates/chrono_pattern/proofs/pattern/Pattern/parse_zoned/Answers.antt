use Rattle.std.proofs.Common.{◌≡◌, ℕ, List, false, ap, sym, ◌∙◌}
use Rattle.chrono_instant.specs.Offsets.{moment_ahead}
use Rattle.chrono_pattern.specs.ZonedParts.{names_zoned}
use Rattle.chrono_pattern.specs.NamedParts.{sure_parts}
use Rattle.chrono_pattern.specs.declared.names.Names.{Names}
use Rattle.chrono_pattern.proofs.NamedLemmas.{no_zoned_one}
use Rattle.chrono_pattern.proofs.pattern.Pattern.parse_zoned.Goals as goal

pub returns-then-not-self-clause-every : goal.returns-then-not-self-clause-every
returns-then-not-self-clause-every c = λ d clock is.
    let none : names_zoned (sure_parts c.args.self.now) ≡ false =
    sym (ap (λ (b : List ℕ). names_zoned (sure_parts b)) c.self.view_is) ∙ sym (ap (λ (it : Names). it.zoned) c.self.invariant.2) ∙ c.if-not-self.true in
    absurd (no_zoned_one c.args.self.now c.args.text.now (moment_ahead d.utc d.zone) d.zone none is)
