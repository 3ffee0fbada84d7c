use Rattle.std.proofs.Common.{refl, arith, pos, neg_ℤ}
use Rattle.chrono_datetime.proofs.Signed.{signed}
use Rattle.chrono_cron.proofs.SameDues.{agree_from}
use Rattle.chrono_cron.proofs.search.same_minutes.have_same_days.Goals as goal

pub returns : goal.returns
returns c = (
  λ yes. λ d date.
      agree_from c.args.one.now c.args.other.now (neg_ℤ (pos 95_746_129)) d
      (λ e low high. c.loop-left.invariant.1 e low (omega (arith, signed, c.loop-left.invariant.0, c.loop-left-test.false, high)))
      (omega (arith, signed, date)),
  λ agree. refl,
)
