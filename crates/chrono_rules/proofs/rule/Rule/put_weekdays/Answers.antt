use Rattle.std.proofs.Common.{◌++◌, false, true, sym, ◌∙◌}
use Rattle.std.specs.Prelude.{codes}
use Rattle.chrono_text.specs.Lists.{list_text}
use Rattle.chrono_rules.specs.RuleParts.{lacks_weekdays}
use Rattle.chrono_rules.specs.declared.text.list_writer.Naming.TheVariants.{Each}
use Rattle.chrono_rules.specs.WrittenRules.{items, members, numbered_items, weekday_items}
use Rattle.chrono_rules.proofs.ListLemmas.{part_put, put_next}
use Rattle.chrono_rules.proofs.rule.Rule.put_weekdays.Goals as goal

pub returns-clause-text : goal.returns-clause-text
unfolding members
returns-clause-text g c =
    let r = c.args.self.now in
    let each = items r.weekdays.every Each false 7 0 in
    let front = numbered_items false r.weekdays.front 0 in
    let back = numbered_items true r.weekdays.back 0 in
    let named = c.push_text.new.self in
    let first = c.put_into-begun.ensures in
    let second = c.put_numbered-begun.ensures in
    let all =
    c.put_numbered.ensures.text ∙ put_next c.put_into-begun.new.text c.put_numbered-begun.new.text c.put_into-begun.result c.put_numbered-begun.result front back second.text second.begun
    ∙ put_next named c.put_into-begun.new.text false c.put_into-begun.result each (front ++ back) first.text first.begun in
    part_put c.args.text.now named c.put_numbered.new.text (codes ";BYDAY=") (list_text (weekday_items r)) (lacks_weekdays r) (sym c.lacks_weekdays.ensures ∙ c.if-lacks_weekdays.false) c.push_text.ensures all
