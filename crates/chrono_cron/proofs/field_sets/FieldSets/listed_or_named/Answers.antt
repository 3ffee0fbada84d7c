use Rattle.std.proofs.Common.{◌∙◌, arith}
use Rattle.chrono_cron.proofs.DueMonths.{listed_or_named}
use Rattle.chrono_cron.proofs.field_sets.FieldSets.listed_or_named.Goals as goal

pub returns : goal.returns
returns c = λ d same.
    listed_or_named c.args.self.now c.together.result c.union-by_day.result c.union-by_weekday.result c.by_place.result c.by_weekday.result c.every_week-weekly.result c.args.date d c.day-length.result c.args.before same
    (c.day-length.ensures.value ∙ c.last_day_of_month.ensures.day)
    c.requires.weekday (λ j lt. c.every_week-weekly.ensures.members j (omega (arith, lt, c.requires.small)))
    c.by_place.ensures c.by_weekday.ensures c.union-by_day.ensures c.union-by_weekday.ensures c.together.ensures
