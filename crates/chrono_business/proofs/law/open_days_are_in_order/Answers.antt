use Rattle.std.proofs.Common.{refl, arith, pos, ◌+ℤ◌}
use Rattle.std.proofs.lemmas.Int.{by_lt_z}
use Rattle.chrono_datetime.proofs.CountBetween.{count_between-next, count_between-sum}
use Rattle.chrono_business.specs.OpenDays.{is_open}
use Rattle.chrono_business.proofs.Early.{one_if-false}
use Rattle.chrono_business.proofs.Laws.{nth_from-least}
use Rattle.chrono_business.proofs.Ranks.{open-behind}
use Rattle.chrono_business.proofs.law.open_days_are_in_order.Goals as goal

pub returns-clause-open : goal.returns-clause-open
returns-clause-open c = λ days a b ab is. open-behind days a b (b +ℤ pos 1) ab refl is

pub returns-clause-closed : goal.returns-clause-closed
returns-clause-closed c = λ days a b ab is.
    omega (arith, count_between-next (is_open days) a b (b +ℤ pos 1) ab refl, one_if-false (is_open days b) is)

pub returns-clause-parts : goal.returns-clause-parts
returns-clause-parts c = λ days a b e ab be. count_between-sum (is_open days) a b e ab be

pub returns-clause-nth : goal.returns-clause-nth
returns-clause-nth c = λ days d e n nth. (
  omega (arith, nth.count, open-behind days d e (e +ℤ pos 1) nth.not_before refl nth.passes),
  λ f low more. by_lt_z f e (λ lt. absurd (omega (arith, more, nth_from-least days d e f n nth low lt))) (λ ge. ge),
)
