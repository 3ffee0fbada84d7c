use Rattle.std.proofs.Common.{refl, arith}
use Rattle.chrono_cron.proofs.DueMonths.{listed_plainly}
use Rattle.chrono_cron.proofs.field_sets.FieldSets.listed_in_month.Goals as goal

pub listed_or_named-requires-clause-weekday : goal.listed_or_named-requires-clause-weekday
listed_or_named-requires-clause-weekday c = rw (c.num_days_from_sunday.ensures, c.weekday.ensures.value, c.day.ensures.value) refl

pub returns-then-is_none : goal.returns-then-is_none
returns-then-is_none c = λ d same.
    listed_plainly c.args.self.now c.together.result c.every_week.result c.args.date d _ (c.is_none.ensures.place c.if-is_none.true) (c.is_none.ensures.weekday c.if-is_none.true) same
    (rw (c.num_days_from_sunday.ensures, c.weekday.ensures.value, c.day.ensures.value) refl) (λ j lt. c.every_week.ensures.members j (omega (arith, lt))) c.together.ensures
