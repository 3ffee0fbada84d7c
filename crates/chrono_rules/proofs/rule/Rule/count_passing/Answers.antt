use Rattle.std.proofs.Common.{sym, arith, pos, ◌+ℤ◌, to_z, of_z, w64}
use Rattle.chrono_datetime.proofs.Signed.{signed}
use Rattle.chrono_datetime.proofs.CountBetween.{count_between-empty}
use Rattle.chrono_rules.specs.ByParts.{date_passes}
use Rattle.chrono_rules.proofs.Counts.{counted-next}
use Rattle.chrono_rules.proofs.rule.Rule.count_passing.Goals as goal

pub loop-later-init : goal.loop-later-init
loop-later-init c = (
  omega (arith, signed),
  omega (arith, signed, c.requires.order),
  sym (count_between-empty (date_passes c.args.self.now c.args.start) _ _ (omega (arith, signed))),
  omega (arith, signed),
)

pub loop-later-preserved : goal.loop-later-preserved
loop-later-preserved c = (
  omega (arith, signed, c.loop-later.invariant),
  omega (arith, signed, c.loop-later.invariant, c.loop-later-test.true),
  counted-next (date_passes c.args.self.now c.args.start) (c.args.date +ℤ to_z w64 (of_z w64 c.args.first)) (c.args.date +ℤ to_z w64 c.loop-later.later-bits) (c.args.date +ℤ to_z w64 (of_z w64 (to_z w64 c.loop-later.later-bits +ℤ pos 1))) c.loop-later.count c.and_later-count.result c.loop-later.invariant.2 c.and_later-count.ensures.value (omega (arith, signed, c.loop-later.invariant)) (omega (arith, signed)),
  omega (arith, signed, c.loop-later.invariant, c.and_later-count.ensures.step),
)
