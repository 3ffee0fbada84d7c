use Rattle.std.proofs.Common.{◌<◌, ◌≡◌, ◌+◌, ◌%◌, refl, ◌∙◌, arith}
use Rattle.chrono_sets.specs.FiniteSets.{has}
use Rattle.chrono_cron.specs.Due.{is_nearest_workday, is_monday_to_friday}
use Rattle.chrono_cron.proofs.NamedDaySets.{days_at, workdays}
use Rattle.chrono_cron.proofs.named_days.nearest_workdays.Goals as goal

pub returns : goal.returns
unfolding is_nearest_workday
returns c = λ k from to.
    let small : k < 40 = omega (arith, to, c.requires.short) in
    let workday : has c.every_week-workdays.result k ≡ is_monday_to_friday ((k + c.args.before) % 7) = days_at is_monday_to_friday c.range.result c.every_week-workdays.result c.args.before k (workdays c.range.result c.range.ensures) (λ j lt. c.every_week-workdays.ensures.members j (omega (arith, lt, c.requires.before))) small in
    c.union.ensures k ∙ rw (c.intersection.ensures k, workday, c.union-others.ensures k, c.fridays_for.ensures k from to, c.mondays_for.ensures k from small) refl
