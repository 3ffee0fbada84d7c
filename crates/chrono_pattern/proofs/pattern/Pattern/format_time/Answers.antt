use Rattle.std.proofs.Common.{ap, pos, sym, ◌∙◌}
use Rattle.std.proofs.lemmas.Option.{IfSome_then}
use Rattle.chrono_datetime.specs.Moment.{Moment}
use Rattle.chrono_pattern.specs.Patterns.{pattern_text}
use Rattle.chrono_pattern.specs.declared.item.State.TheVariants.{Outside}
use Rattle.chrono_pattern.proofs.TimelessLemmas.{dateless}
use Rattle.chrono_pattern.proofs.pattern.Pattern.format_time.Goals as goal

pub returns-clause-text : goal.returns-clause-text
returns-clause-text g c =
    let bytes = c.args.self.now in
    let none = sym c.needs_date.ensures ∙ c.if-needs_date.false in
    IfSome_then c.format.result c.format.ensures.text (λ text is n.
    is ∙ ap (λ (m : Moment). pattern_text bytes m) c.new.ensures ∙ dateless bytes _ n c.args.time (pos 0) Outside none)
