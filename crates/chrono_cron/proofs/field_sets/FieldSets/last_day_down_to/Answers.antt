use Rattle.std.proofs.Common.{arith}
use Rattle.std.proofs.lemmas.Int.{by_lt_z}
use Rattle.chrono_datetime.proofs.Signed.{signed}
use Rattle.chrono_cron.proofs.DueMonths.{earlier_passed}
use Rattle.chrono_cron.proofs.field_sets.FieldSets.last_day_down_to.Goals as goal

pub returns-in-Some-clause-greatest : goal.returns-in-Some-clause-greatest
returns-in-Some-clause-greatest c = λ d low high.
    by_lt_z c.loop-first.month d (λ lt. c.loop-first.invariant.1 d lt high) (λ ge. c.in-Some.ensures.greatest d low ge)

pub returns-in_default-previous_month-clause-none : goal.returns-in_default-previous_month-clause-none
returns-in_default-previous_month-clause-none c =
    (λ d begin high date.
    earlier_passed c.args.self.now c.args.date c.loop-first.month d c.loop-first.invariant.1 (λ le. c.in_default-previous_month.ensures.none d le date) (c.in_default.ensures.none d) high)

pub loop-first-preserved : goal.loop-first-preserved
loop-first-preserved c = (
  omega (arith, signed, c.loop-first.invariant.0, c.in-Some-previous_month.ensures.earlier),
  λ d low high.
      earlier_passed c.args.self.now c.args.date c.loop-first.month d c.loop-first.invariant.1 (λ le. c.in-Some-previous_month.ensures.passed d low le) (c.in_default.ensures.none d) high,
)
