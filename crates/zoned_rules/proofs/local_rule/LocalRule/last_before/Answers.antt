use Rattle.std.proofs.lemmas.Option.{IfSome_then}
use Rattle.chrono_zoned.proofs.OptionLemmas.{if_none}
use Rattle.zoned_rules.proofs.ListedTimes.{earlier_day, last_here, not_earlier_day, on_earlier_day}
use Rattle.zoned_rules.proofs.local_rule.LocalRule.last_before.Goals as goal

pub returns-in-Some-clause-greatest : goal.returns-in-Some-clause-greatest
returns-in-Some-clause-greatest c = λ q h lt.
    last_here c.args.self.now c.args.date c.args.end c.in-Some.second c.beginning.result q c.requires c.in-Some.ensures.before c.beginning.ensures.value c.in-Some.ensures.greatest h lt

pub returns-clause-before : goal.returns-clause-before
returns-clause-before c =
    IfSome_then c.last_in_front_of_day.result c.last_in_front_of_day.ensures.earlier (λ m h. earlier_day c.args.date c.args.end m h)

pub returns-clause-greatest : goal.returns-clause-greatest
returns-clause-greatest c =
    IfSome_then c.last_in_front_of_day.result c.last_in_front_of_day.ensures.greatest (λ m h q listed lt. h q listed (on_earlier_day c.args.self.now c.args.date c.args.end q c.requires c.in_default.ensures.none listed lt))

pub returns-clause-none : goal.returns-clause-none
returns-clause-none c =
    if_none c.last_in_front_of_day.result c.last_in_front_of_day.ensures.none (λ h q listed.
    not_earlier_day c.args.date c.args.end q (on_earlier_day c.args.self.now c.args.date c.args.end q c.requires c.in_default.ensures.none listed) (h q listed))
