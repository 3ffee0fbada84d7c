use Rattle.std.proofs.Common.{◌≡◌, ◌+◌, ◌%◌, ◌==◌, ◌∙◌, arith}
use Rattle.chrono_sets.specs.FiniteSets.{has}
use Rattle.chrono_cron.proofs.NamedDaySets.{days_at, friday_for, one_weekday}
use Rattle.chrono_cron.proofs.named_days.fridays_for.Goals as goal

pub returns : goal.returns
returns c = λ k from to.
    let friday : has c.every_week-fridays.result k ≡ ((k + c.args.before) % 7 == 5) = days_at (λ w. w == 5) c.single.result c.every_week-fridays.result c.args.before k (one_weekday 5 c.single.result c.single.ensures) (λ j lt. c.every_week-fridays.ensures.members j (omega (arith, lt, c.requires.before))) (omega (arith, to, c.requires.short)) in
    c.intersection.ensures k ∙ rw (friday, c.union.ensures k, c.between-saturday.ensures k, c.between-sunday.ensures k, c.lowered.ensures k, c.lowered-2.ensures k)
    (friday_for c.args.asked c.args.length k ((k + c.args.before) % 7) (omega (arith, c.requires.long)) to)
