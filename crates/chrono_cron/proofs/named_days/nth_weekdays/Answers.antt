use Rattle.std.proofs.Common.{◌+◌, ◌-◌, ◌*◌, ◌/◌, ◌%◌, ◌∙◌, arith}
use Rattle.chrono_sets.specs.FiniteSets.{has}
use Rattle.chrono_cron.proofs.NamedDaySets.{one_of_five}
use Rattle.chrono_cron.proofs.named_days.nth_weekdays.Goals as goal

pub returns : goal.returns
returns c = λ k from to.
    c.union-2.ensures k ∙ rw (c.union.ensures k, c.union-first.ensures k, c.union-middle.ensures k, c.nth_week.ensures k from to, c.nth_week-2.ensures k from to, c.nth_week-3.ensures k from to, c.nth_week-4.ensures k from to, c.nth_week-5.ensures k from to)
    (one_of_five (λ r. has c.args.asked (7 * r + (k + c.args.before) % 7)) ((k - 1) / 7) (omega (arith, to)))
