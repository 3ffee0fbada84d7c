use Rattle.std.proofs.Common.{arith}
use Rattle.chrono_sets.proofs.Gaps.{gap-up, member-up}
use Rattle.chrono_sets.proofs.number_set.NumberSet.gap_up.Goals as goal

pub returns-clause-left_out : goal.returns-clause-left_out
returns-clause-left_out c = rw (← c.self.view_is) (λ j lt. gap-up _ c.args.from j (omega arith) lt)

pub returns-clause-member : goal.returns-clause-member
returns-clause-member c = rw (← c.self.view_is) (λ lt. member-up _ c.args.from (omega arith) lt)
