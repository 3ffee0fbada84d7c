use Rattle.chrono_rules.proofs.PlacesBeyond.{beyond_places, daily_places, monthly_places, weekly_places}
use Rattle.chrono_rules.proofs.rule.Rule.names_no_place.Goals as goal

pub returns-in-Daily : goal.returns-in-Daily
returns-in-Daily c = λ yes. let it = c.names_none_up_to.ensures in beyond_places c.args.self.now _ 1 c.in-Daily.is daily_places (it.named yes) (it.front yes) (it.back yes)

pub returns-in-Weekly : goal.returns-in-Weekly
returns-in-Weekly c = λ yes. let it = c.names_none_up_to-in-Weekly.ensures in beyond_places c.args.self.now _ 7 c.in-Weekly.is weekly_places (it.named yes) (it.front yes) (it.back yes)

pub returns-in-Monthly : goal.returns-in-Monthly
returns-in-Monthly c = λ yes. let it = c.names_none_up_to-in-Monthly.ensures in beyond_places c.args.self.now _ 31 c.in-Monthly.is monthly_places (it.named yes) (it.front yes) (it.back yes)
