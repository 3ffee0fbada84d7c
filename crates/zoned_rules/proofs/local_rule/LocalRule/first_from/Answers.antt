use Rattle.std.proofs.lemmas.Option.{IfSome_then}
use Rattle.chrono_zoned.proofs.OptionLemmas.{if_none}
use Rattle.zoned_rules.proofs.ListedTimes.{first_here, later_day, not_later_day, on_later_day}
use Rattle.zoned_rules.proofs.local_rule.LocalRule.first_from.Goals as goal

pub returns-in-Some-clause-least : goal.returns-in-Some-clause-least
returns-in-Some-clause-least c = λ q h le.
    first_here c.args.self.now c.args.date c.args.from c.in-Some.second c.beginning.result q c.requires c.in-Some.ensures.within c.beginning.ensures.value c.in-Some.ensures.least h le

pub returns-clause-not_before : goal.returns-clause-not_before
returns-clause-not_before c =
    IfSome_then c.first_behind_day.result c.first_behind_day.ensures.later (λ m h. later_day c.args.date c.args.from m c.requires h)

pub returns-clause-least : goal.returns-clause-least
returns-clause-least c =
    IfSome_then c.first_behind_day.result c.first_behind_day.ensures.least (λ m h q listed le. h q listed (on_later_day c.args.self.now c.args.date c.args.from q c.requires c.in_default.ensures.none listed le))

pub returns-clause-none : goal.returns-clause-none
returns-clause-none c =
    if_none c.first_behind_day.result c.first_behind_day.ensures.none (λ h q listed.
    not_later_day c.args.date c.args.from q c.requires listed.exists (on_later_day c.args.self.now c.args.date c.args.from q c.requires c.in_default.ensures.none listed) (h q listed))
