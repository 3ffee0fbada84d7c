use Rattle.std.proofs.Common.{sym, ◌∙◌}
use Rattle.chrono_sets.proofs.Members.{has-none}
use Rattle.chrono_rules.proofs.rule.Rule.has_place_of.Goals as goal

pub returns-then-is_empty : goal.returns-then-is_empty
returns-then-is_empty c = sym (has-none c.args.numbers _ (sym c.is_empty.ensures ∙ c.if-is_empty.true))
