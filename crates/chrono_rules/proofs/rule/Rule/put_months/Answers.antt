use Rattle.std.proofs.Common.{sym, ◌∙◌, false}
use Rattle.std.specs.Prelude.{codes}
use Rattle.chrono_text.specs.Lists.{list_text}
use Rattle.chrono_rules.specs.RuleParts.{lacks_months}
use Rattle.chrono_rules.specs.declared.text.list_writer.Naming.TheVariants.{Number}
use Rattle.chrono_rules.specs.WrittenRules.{items, members}
use Rattle.chrono_rules.proofs.ListLemmas.{part_put}
use Rattle.chrono_rules.proofs.rule.Rule.put_months.Goals as goal

pub returns-clause-text : goal.returns-clause-text
unfolding members
returns-clause-text g c =
    let r = c.args.self.now in
    part_put c.args.text.now c.push_text.new.self c.put_into.new.text (codes ";BYMONTH=") (list_text (items r.months Number false 12 1)) (lacks_months r) (sym c.lacks_months.ensures ∙ c.if-lacks_months.false) c.push_text.ensures c.put_into.ensures.text
