use Rattle.std.proofs.Common.{◌<◌, ◌≡◌, ◌+◌, ◌%◌, ◌==◌, ◌∙◌, arith}
use Rattle.chrono_sets.specs.FiniteSets.{has}
use Rattle.chrono_cron.specs.Due.{is_monday_to_friday}
use Rattle.chrono_cron.proofs.NamedDaySets.{days_at, last_workday_at, one_weekday, workdays}
use Rattle.chrono_cron.proofs.named_days.last_workday.Goals as goal

pub returns : goal.returns
returns c = λ k from to.
    let length = c.args.length in
    let small : k < 40 = omega (arith, to, c.requires.short) in
    let friday : has c.every_week.result k ≡ ((k + c.args.before) % 7 == 5) = days_at (λ w. w == 5) c.single.result c.every_week.result c.args.before k (one_weekday 5 c.single.result c.single.ensures) (λ j lt. c.every_week.ensures.members j (omega (arith, lt, c.requires.before))) small in
    let workday : has c.every_week-2.result k ≡ is_monday_to_friday ((k + c.args.before) % 7) = days_at is_monday_to_friday c.range.result c.every_week-2.result c.args.before k (workdays c.range.result c.range.ensures) (λ j lt. c.every_week-2.ensures.members j (omega (arith, lt, c.requires.before))) small in
    c.union.ensures k ∙ rw (c.between-friday.ensures k, c.between-workday.ensures k, friday, workday)
    (last_workday_at length k ((k + c.args.before) % 7) (omega (arith, c.requires.long)) to)
