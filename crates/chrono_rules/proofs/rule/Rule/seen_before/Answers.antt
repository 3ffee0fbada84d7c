use Rattle.chrono_rules.proofs.Kept.{kept-most, kept-never, kept-until}
use Rattle.chrono_rules.proofs.rule.Rule.seen_before.Goals as goal

pub returns-in-Never-clause-kept : goal.returns-in-Never-clause-kept
returns-in-Never-clause-kept c = kept-never c.args.self.now c.args.start c.args.day c.in-Never.is

pub returns-in-Until-clause-kept : goal.returns-in-Until-clause-kept
returns-in-Until-clause-kept c = kept-until c.args.self.now c.args.start c.args.day c.in-Until.field-0 c.in-Until.is

pub returns-in-Count-clause-kept : goal.returns-in-Count-clause-kept
returns-in-Count-clause-kept c = kept-most c.args.self.now c.args.start c.args.day c.in-Count.count c.count_members.result c.in-Count.is c.count_members.ensures.value
