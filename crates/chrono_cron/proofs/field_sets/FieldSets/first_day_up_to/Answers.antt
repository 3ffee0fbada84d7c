use Rattle.std.proofs.Common.{arith}
use Rattle.std.proofs.lemmas.Int.{by_lt_z}
use Rattle.chrono_datetime.proofs.Signed.{signed}
use Rattle.chrono_cron.proofs.DueMonths.{later_passed}
use Rattle.chrono_cron.proofs.field_sets.FieldSets.first_day_up_to.Goals as goal

pub returns-in-Some-clause-least : goal.returns-in-Some-clause-least
returns-in-Some-clause-least c = λ d low high.
    by_lt_z d c.loop-last.month (λ lt. c.loop-last.invariant.1 d low lt) (λ ge. c.in-Some.ensures.least d ge high)

pub returns-in_default-next_month-clause-none : goal.returns-in_default-next_month-clause-none
returns-in_default-next_month-clause-none c =
    (λ d low end date.
    later_passed c.args.self.now c.args.date c.loop-last.month d c.loop-last.invariant.1 (λ ge. c.in_default-next_month.ensures.none d ge date) (c.in_default.ensures.none d) low)

pub loop-last-preserved : goal.loop-last-preserved
loop-last-preserved c = (
  omega (arith, signed, c.loop-last.invariant.0, c.in-Some-next_month.ensures.later),
  λ d low high.
      later_passed c.args.self.now c.args.date c.loop-last.month d c.loop-last.invariant.1 (λ ge. c.in-Some-next_month.ensures.passed d ge high) (c.in_default.ensures.none d) low,
)
