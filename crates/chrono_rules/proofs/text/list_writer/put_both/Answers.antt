use Rattle.std.proofs.Common.{◌≡◌, ◌+◌, ◌-◌, ◌++◌, false, true, ap, ◌∙◌, arith}
use Rattle.chrono_rules.specs.declared.text.list_writer.Naming.TheVariants.{Number}
use Rattle.chrono_rules.specs.WrittenRules.{items, listed_on, members}
use Rattle.chrono_rules.proofs.ListLemmas.{put_next}
use Rattle.chrono_rules.proofs.text.list_writer.put_both.Goals as goal

pub returns-clause-text : goal.returns-clause-text
returns-clause-text g c =
    let count : (c.args.most + 1) - 1 ≡ c.args.most = omega arith in
    let front = items (members c.args.front) Number false ((c.args.most + 1) - 1) 1 in
    let back = items (members c.args.back) Number true ((c.args.most + 1) - 1) 1 in
    let first = c.put_into-begun.ensures in
    c.put_into.ensures.text ∙ put_next c.args.text.now c.put_into-begun.new.text false c.put_into-begun.result front back first.text first.begun
    ∙ ap (λ most. c.args.text.now ++ listed_on false (items (members c.args.front) Number false most 1 ++ items (members c.args.back) Number true most 1)) count
