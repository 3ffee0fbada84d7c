use Rattle.std.proofs.Common.{pos, ◌+ℤ◌, arith, sym}
use Rattle.std.proofs.lemmas.Int.{ints}
use Rattle.chrono_datetime.proofs.CountBetween.{count_between-empty}
use Rattle.chrono_rules.specs.Instances.{is_instance}
use Rattle.zoned_rules.proofs.local_rule.LocalRule.pass_days.Goals as goal

pub loop-step-init : goal.loop-step-init
loop-step-init c = (
  omega (arith, ints),
  c.requires.order,
  omega arith,
  sym (count_between-empty (is_instance c.args.self.now.days c.args.self.now.start.date) (c.args.day +ℤ pos 1) (c.args.day +ℤ pos 1) (omega (arith, ints))),
)
