use Rattle.std.proofs.Common.{sym, ◌∙◌, arith, pos, ◌+ℤ◌}
use Rattle.chrono_rules.proofs.Counts.{most_counted, never_counts, uncounted, until_counts}
use Rattle.chrono_rules.proofs.rule.Rule.count_to.Goals as goal

pub returns-in-Never : goal.returns-in-Never
returns-in-Never c =
    omega (arith, c.count_members_to.ensures.value, c.count_members_to.ensures.few, uncounted c.args.self.now c.args.start (c.args.date +ℤ pos 1) (λ e. never_counts c.args.self.now.end c.args.self.now c.args.start e c.in-Never.is))

pub returns-in-Until : goal.returns-in-Until
returns-in-Until c =
    omega (arith, c.count_members_to-in-Until.ensures.value, c.count_members_to-in-Until.ensures.few, uncounted c.args.self.now c.args.start (c.args.date +ℤ pos 1) (λ e. until_counts c.args.self.now.end c.args.self.now c.args.start e c.in-Until.field-0 c.in-Until.is))

pub returns-in-Count : goal.returns-in-Count
returns-in-Count c =
    c.count_members_to-in-Count.ensures.value ∙ sym (most_counted c.args.self.now c.args.start (c.args.date +ℤ pos 1) c.in-Count.count c.in-Count.is)
