use Rattle.std.proofs.Common.{arith, pos, ◌+ℤ◌}
use Rattle.chrono_datetime.proofs.Signed.{signed}
use Rattle.chrono_rules.specs.Instances.{is_member}
use Rattle.chrono_rules.proofs.Counts.{count-grows, members_to}
use Rattle.chrono_rules.proofs.rule.Rule.count_members_to.Goals as goal

pub returns-then-before-most-clause-value : goal.returns-then-before-most-clause-value
returns-then-before-most-clause-value c =
    let before = c.count_members-before.ensures.value in
    omega (arith, before, c.if-before-most.true, c.and_member.ensures.step, members_to c.args.self.now c.args.start c.args.date c.count_members-before.result c.and_member.result (omega (arith, before, c.if-before-most.true)) c.and_member.ensures.value)

pub returns-else-before-most-clause-value : goal.returns-else-before-most-clause-value
returns-else-before-most-clause-value c =
    omega (arith, c.count_members-before.ensures.value, c.if-before-most.false, count-grows (is_member c.args.self.now c.args.start) c.args.start c.args.date (c.args.date +ℤ pos 1) (omega (arith, signed)))
