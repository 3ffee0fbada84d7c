use Rattle.std.proofs.Common.{◌+◌, cond, sym, ap}
use Rattle.chrono_rules.specs.Instances.{is_member}
use Rattle.chrono_rules.proofs.Counts.{counted-next}
use Rattle.chrono_rules.proofs.rule.Rule.members_on.Goals as goal

pub returns-clause-counted : goal.returns-clause-counted
returns-clause-counted c =
    counted-next (is_member c.args.self.now c.args.start) c.args.start c.args.day c.moved.result c.args.seen (c.args.seen + 1)
    c.requires.counted (ap (λ b. c.args.seen + cond b 1 0) (sym c.requires.member)) c.requires.begun c.moved.ensures
