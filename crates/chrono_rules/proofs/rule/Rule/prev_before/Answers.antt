use Rattle.chrono_rules.proofs.Counts.{last_instance}
use Rattle.chrono_rules.proofs.rule.Rule.prev_before.Goals as goal

pub returns-clause-member : goal.returns-clause-member
returns-clause-member c =
    last_instance c.last_member.result c.args.self.now c.args.start c.end_of_count-end.result c.last_member.ensures.member c.last_member.ensures.before c.end_of_count-end.ensures.counted
