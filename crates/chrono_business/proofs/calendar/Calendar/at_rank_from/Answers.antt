use Rattle.std.proofs.Common.{arith, ◌+ℤ◌}
use Rattle.std.proofs.lemmas.Option.{IfSome_then}
use Rattle.chrono_datetime.proofs.Signed.{casts}
use Rattle.chrono_business.proofs.OpenMoves.{few_before, if-none_of_rank}
use Rattle.chrono_business.proofs.calendar.Calendar.at_rank_from.Goals.{then-n-rank-via-then-n-rank, then-n-rank-via-else-n-rank+then-n-rank-2}
use Rattle.chrono_business.proofs.calendar.Calendar.at_rank_from.Goals as goal

pub returns-then-n-rank-clause-none : goal.returns-then-n-rank-clause-none
returns-then-n-rank-clause-none c = λ e e-is is count. elim c.then-n-rank.branch [
  | then-n-rank-via-then-n-rank w ↦ omega (arith, casts, w.if-n-rank.true, c.requires.low, c.requires.high, count)
  | then-n-rank-via-else-n-rank+then-n-rank-2 w ↦
      omega (arith, casts, w.if-n-rank-2.true, c.requires.low, c.requires.high, count, few_before c.args.self.now e e-is)
]

pub returns-clause-count : goal.returns-clause-count
returns-clause-count c =
    IfSome_then c.at_rank.result c.at_rank.ensures.count
    (λ e h. omega (arith, casts, h, c.if-n-rank.false, c.if-n-rank-2.false, c.requires.low, c.requires.high))

pub returns-clause-none : goal.returns-clause-none
returns-clause-none c =
    if-none_of_rank c.at_rank.result c.args.self.now (c.args.rank +ℤ c.args.n) _ (omega (arith, casts, c.if-n-rank.false, c.if-n-rank-2.false, c.requires.low, c.requires.high)) c.at_rank.ensures.none
