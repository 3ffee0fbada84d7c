use Rattle.std.proofs.Common.{◌<◌, ◌≡◌, ◌+◌, ◌%◌, ◌==◌, ◌∙◌, arith}
use Rattle.chrono_sets.specs.FiniteSets.{has}
use Rattle.chrono_cron.proofs.NamedDaySets.{days_at, monday_for, one_weekday}
use Rattle.chrono_cron.proofs.named_days.mondays_for.Goals as goal

pub returns : goal.returns
returns c = λ k from small.
    let fits : k < 64 = omega (arith, small) in
    let monday : has c.every_week-mondays.result k ≡ ((k + c.args.before) % 7 == 1) = days_at (λ w. w == 1) c.single.result c.every_week-mondays.result c.args.before k (one_weekday 1 c.single.result c.single.ensures) (λ j lt. c.every_week-mondays.ensures.members j (omega (arith, lt, c.requires))) small in
    c.intersection.ensures k ∙ rw (monday, c.union.ensures k, c.between-sunday.ensures k, c.between-saturday.ensures k, c.raised.ensures.members k fits, c.raised-2.ensures.members k fits)
    (monday_for c.args.asked k ((k + c.args.before) % 7) small from)
