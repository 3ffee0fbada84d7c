use Rattle.std.proofs.Common.{sym, ◌∙◌}
use Rattle.std.specs.Prelude.{codes}
use Rattle.chrono_text.specs.Lists.{list_text}
use Rattle.chrono_rules.specs.RuleParts.{lacks_positions}
use Rattle.chrono_rules.specs.WrittenRules.{both_items, members}
use Rattle.chrono_rules.proofs.ListLemmas.{part_put}
use Rattle.chrono_rules.proofs.rule.Rule.put_positions.Goals as goal

pub returns-clause-text : goal.returns-clause-text
unfolding members
returns-clause-text g c =
    let r = c.args.self.now in
    part_put c.args.text.now c.push_text.new.self c.put_both.new.text (codes ";BYSETPOS=") (list_text (both_items r.positions r.positions_from_end 366)) (lacks_positions r) (sym c.lacks_positions.ensures ∙ c.if-lacks_positions.false) c.push_text.ensures c.put_both.ensures.text
