use Rattle.std.proofs.Common.{sym, ap, ◌∙◌}
use Rattle.std.proofs.lemmas.Bool.{not-false}
use Rattle.chrono_sets.specs.FiniteSets.{is_empty}
use Rattle.chrono_rules.proofs.Skipped.{never_named}
use Rattle.chrono_rules.proofs.rule.Rule.has_weekday.Goals as goal

pub returns-else-not-is_empty : goal.returns-else-not-is_empty
returns-else-not-is_empty c = λ none place behind.
    never_named c.args.self.now c.args.weekday place behind (sym c.contains.ensures ∙ c.if-contains.false)
    (ap is_empty (sym c.numbers_of-front.ensures) ∙ sym c.is_empty.ensures ∙ c.if-not-is_empty.false)
    (ap is_empty (sym c.numbers_of-back.ensures) ∙ sym c.is_empty-else-not-is_empty.ensures ∙ not-false c.is_empty-else-not-is_empty.result none)
