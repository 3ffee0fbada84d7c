use Rattle.std.proofs.Common.{sym, ◌∙◌}
use Rattle.std.specs.Prelude.{codes}
use Rattle.chrono_text.specs.Lists.{list_text}
use Rattle.chrono_rules.specs.RuleParts.{lacks_month_days}
use Rattle.chrono_rules.specs.WrittenRules.{both_items, members}
use Rattle.chrono_rules.proofs.ListLemmas.{part_put}
use Rattle.chrono_rules.proofs.rule.Rule.put_month_days.Goals as goal

pub returns-clause-text : goal.returns-clause-text
unfolding members
returns-clause-text g c =
    let r = c.args.self.now in
    part_put c.args.text.now c.push_text.new.self c.put_both.new.text (codes ";BYMONTHDAY=") (list_text (both_items r.month_days r.month_days_from_end 31)) (lacks_month_days r) (sym c.lacks_month_days.ensures ∙ c.if-lacks_month_days.false) c.push_text.ensures c.put_both.ensures.text
