use Rattle.chrono_sets.proofs.Gaps.{gap-down, member-down}
use Rattle.chrono_sets.proofs.number_set.NumberSet.gap_down.Goals as goal

pub returns-clause-left_out : goal.returns-clause-left_out
returns-clause-left_out c = rw (← c.self.view_is) (λ j lt le. gap-down _ c.args.from j c.requires le lt)

pub returns-clause-inside : goal.returns-clause-inside
returns-clause-inside c = λ lt. (member-down (record { code = c.self.inside.digits }) c.args.from c.requires lt).0

pub returns-clause-member : goal.returns-clause-member
returns-clause-member c = rw (← c.self.view_is) (λ lt. (member-down _ c.args.from c.requires lt).1)
