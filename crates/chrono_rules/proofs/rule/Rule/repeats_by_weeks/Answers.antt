use Rattle.chrono_rules.proofs.RepeatedWeeks.{daily_weeks, weekly_weeks, weeks-repeat}
use Rattle.chrono_rules.proofs.rule.Rule.repeats_by_weeks.Goals as goal

pub returns-in-Daily : goal.returns-in-Daily
returns-in-Daily c = λ yes. let it = c.asks_weekdays_alone.ensures in weeks-repeat c.args.self.now _ 7 c.in-Daily.is daily_weeks (it.months yes) (it.month_days yes) (it.year_days yes) (it.weeks yes)

pub returns-in-Weekly : goal.returns-in-Weekly
returns-in-Weekly c = λ yes. let it = c.asks_weekdays_alone-in-Weekly.ensures in weeks-repeat c.args.self.now _ 1 c.in-Weekly.is weekly_weeks (it.months yes) (it.month_days yes) (it.year_days yes) (it.weeks yes)
