use Rattle.std.proofs.Common.{refl, pos, ◌+ℤ◌, ◌+◌}
use Rattle.chrono_calendar.proofs.CountWhere.{count_where-next, count_where-sum, count_where-le, count_where-none, count_where-all, count_where-same}
use Rattle.chrono_calendar.proofs.law.counts_add_up.Goals as goal

pub returns-clause-next : goal.returns-clause-next
returns-clause-next c = λ p k n. count_where-next p k (k + 1) n (n +ℤ pos k) refl refl

pub returns-clause-sum : goal.returns-clause-sum
returns-clause-sum c = λ p j k n. count_where-sum p j k (j + k) n (n +ℤ pos j) refl refl

pub returns-clause-at_most : goal.returns-clause-at_most
returns-clause-at_most c = count_where-le

pub returns-clause-none : goal.returns-clause-none
returns-clause-none c = count_where-none

pub returns-clause-all : goal.returns-clause-all
returns-clause-all c = count_where-all

pub returns-clause-same : goal.returns-clause-same
returns-clause-same c = count_where-same
