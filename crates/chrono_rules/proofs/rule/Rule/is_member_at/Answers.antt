use Rattle.std.proofs.Common.{sym, ◌∙◌, ◌||◌}
use Rattle.chrono_sets.specs.FiniteSets.{has}
use Rattle.chrono_rules.specs.Instances.{in_interval, not_after}
use Rattle.chrono_rules.proofs.PeriodMembers.{by_first, by_second, by_third, member_at}
use Rattle.chrono_rules.proofs.rule.Rule.is_member_at.Goals as goal

pub returns-then-in_interval : goal.returns-then-in_interval
returns-then-in_interval c =
    let is = member_at c.args.self.now c.args.start c.args.date c.args.front c.args.back c.requires.some c.requires.begun c.requires.passes c.requires.front c.requires.back in
    c.has_position.ensures
    ∙ by_third (not_after c.args.self.now.end c.args.date) (in_interval c.args.self.now c.args.start c.args.date) (has c.args.self.now.positions c.args.front || has c.args.self.now.positions_from_end c.args.back) _ is (sym c.not_after.ensures ∙ c.if-not_after.true) (sym c.in_interval.ensures ∙ c.if-in_interval.true)

pub returns-else-in_interval : goal.returns-else-in_interval
returns-else-in_interval c =
    let is = member_at c.args.self.now c.args.start c.args.date c.args.front c.args.back c.requires.some c.requires.begun c.requires.passes c.requires.front c.requires.back in
    c.in_interval.ensures
    ∙ by_second (not_after c.args.self.now.end c.args.date) (in_interval c.args.self.now c.args.start c.args.date) (has c.args.self.now.positions c.args.front || has c.args.self.now.positions_from_end c.args.back) _ is (sym c.not_after.ensures ∙ c.if-not_after.true) (sym c.in_interval.ensures ∙ c.if-in_interval.false)

pub returns-else-not_after : goal.returns-else-not_after
returns-else-not_after c =
    let is = member_at c.args.self.now c.args.start c.args.date c.args.front c.args.back c.requires.some c.requires.begun c.requires.passes c.requires.front c.requires.back in
    c.not_after.ensures ∙ by_first (not_after c.args.self.now.end c.args.date) (in_interval c.args.self.now c.args.start c.args.date) (has c.args.self.now.positions c.args.front || has c.args.self.now.positions_from_end c.args.back) _ is (sym c.not_after.ensures ∙ c.if-not_after.false)
