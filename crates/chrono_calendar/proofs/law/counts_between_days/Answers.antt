use Rattle.std.proofs.Common.{refl, pos, ◌+ℤ◌}
use Rattle.chrono_calendar.proofs.CountBetween.{count_between-empty, count_between-first, count_between-le, count_between-next, count_between-none, count_between-same, count_between-sum, count_between-where}
use Rattle.chrono_calendar.proofs.law.counts_between_days.Goals as goal

pub returns-clause-is_count_where : goal.returns-clause-is_count_where
returns-clause-is_count_where c = λ p n k. count_between-where p n (n +ℤ pos k) k refl

pub returns-clause-empty : goal.returns-clause-empty
returns-clause-empty c = count_between-empty

pub returns-clause-sum : goal.returns-clause-sum
returns-clause-sum c = count_between-sum

pub returns-clause-next : goal.returns-clause-next
returns-clause-next c = λ p a b le. count_between-next p a b (b +ℤ pos 1) le refl

pub returns-clause-first : goal.returns-clause-first
returns-clause-first c = λ p a b lt. count_between-first p a (a +ℤ pos 1) b lt refl

pub returns-clause-at_most : goal.returns-clause-at_most
returns-clause-at_most c = count_between-le

pub returns-clause-none : goal.returns-clause-none
returns-clause-none c = count_between-none

pub returns-clause-same : goal.returns-clause-same
returns-clause-same c = count_between-same
