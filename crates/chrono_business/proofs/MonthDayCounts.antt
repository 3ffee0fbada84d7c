-- The n-th open day of a month from its first day on, and from its last day back, and how many a month has.
use Rattle.std.proofs.Common.{◌≡◌, ◌↔◌, ◌+◌, ◌<◌, ◌≤◌, ℕ, true, false, Option, Some, None, IfSome, IfNone, refl, sym, ◌∙◌, arith, ℤ, pos, ◌+ℤ◌, ◌≤ℤ◌, ◌<ℤ◌}
use Rattle.std.specs.Option.{IsSome}
use Rattle.std.proofs.lemmas.Bool.{false≢true}
use Rattle.chrono_datetime.specs.Days.{IsDate}
use Rattle.chrono_datetime.specs.MonthMoves.{InSameMonth, month_first_of, month_last_of}
use Rattle.chrono_datetime.specs.Recurrence.{first_date, past_last_date}
use Rattle.chrono_datetime.proofs.Signed.{signed}
use Rattle.chrono_datetime.proofs.CountBetween.{count_between-none, count_between-sum}
use Rattle.chrono_datetime.proofs.MonthDays.{month-days}
use Rattle.chrono_business.specs.OpenDays.{Closed, IsNthOpenBack, IsNthOpenFrom, is_open, open_days}
use Rattle.chrono_business.specs.Rolls.{IsLastOpen, IsNextOpen, MonthBeginsClosed, MonthEndsClosed, MonthIsClosed}
use Rattle.chrono_business.proofs.Ranks.{open-behind, open-rises}
use Rattle.chrono_business.proofs.RollLemmas.{in_own_month, last-last, next-first}

pub month-nth_from : (c : Closed) (d e : ℤ) (n : ℕ) → IsNthOpenFrom c (month_first_of d) n e → e ≤ℤ month_last_of d → InSameMonth e d
month-nth_from c d e n nth high = (month-days d e).1 (nth.not_before, high)

pub month-nth_back : (c : Closed) (d e : ℤ) (n : ℕ) → IsNthOpenBack c (month_last_of d) n e → month_first_of d ≤ℤ e → InSameMonth e d
month-nth_back c d e n nth low = (month-days d e).1 (low, nth.not_after)

-- where the n-th lies behind the month, or before it, there are no more than n in it
pub few-nth_behind : (c : Closed) (d e : ℤ) (n : ℕ) → IsNthOpenFrom c (month_first_of d) n e → month_last_of d <ℤ e → open_days c (month_first_of d) (month_last_of d +ℤ pos 1) ≤ n
few-nth_behind c d e n nth late =
    omega (arith, nth.count, open-rises c (month_first_of d) (month_last_of d +ℤ pos 1) e (omega (arith, signed, in_own_month d)) (omega (arith, signed, late)))

pub few-nth_before : (c : Closed) (d e : ℤ) (n : ℕ) → IsNthOpenBack c (month_last_of d) n e → e <ℤ month_first_of d → open_days c (month_first_of d) (month_last_of d +ℤ pos 1) ≤ n
few-nth_before c d e n nth early =
    omega (arith, nth.count, count_between-sum (is_open c) (e +ℤ pos 1) (month_first_of d) (month_last_of d +ℤ pos 1) (omega (arith, signed, early)) (omega (arith, signed, in_own_month d)))

-- and where there is none at all
pub few-none_from : (c : Closed) (d : ℤ) (n : ℕ) → IsDate (month_last_of d) → open_days c (month_first_of d) past_last_date ≤ n → open_days c (month_first_of d) (month_last_of d +ℤ pos 1) ≤ n
few-none_from c d n is few =
    omega (arith, few, open-rises c (month_first_of d) (month_last_of d +ℤ pos 1) past_last_date (omega (arith, signed, in_own_month d)) (omega (arith, signed, is.1)))

pub few-none_back : (c : Closed) (d : ℤ) (n : ℕ) → IsDate (month_first_of d) → open_days c first_date (month_last_of d +ℤ pos 1) ≤ n → open_days c (month_first_of d) (month_last_of d +ℤ pos 1) ≤ n
few-none_back c d n is few =
    omega (arith, few, count_between-sum (is_open c) first_date (month_first_of d) (month_last_of d +ℤ pos 1) is.0 (omega (arith, signed, in_own_month d)))

-- ---- there is one exactly where the month has more

-- an open day of the month comes behind those from its first day to before it, and in front of those behind it
open-of_month : (c : Closed) (d e : ℤ) → is_open c e ≡ true → month_first_of d ≤ℤ e → e ≤ℤ month_last_of d → open_days c (month_first_of d) (month_last_of d +ℤ pos 1) ≡ open_days c (month_first_of d) e + 1 + open_days c (e +ℤ pos 1) (month_last_of d +ℤ pos 1)
open-of_month c d e is low high =
    omega (arith, open-behind c (month_first_of d) e (e +ℤ pos 1) low refl is, count_between-sum (is_open c) (month_first_of d) (e +ℤ pos 1) (month_last_of d +ℤ pos 1) (omega (arith, signed, low)) (omega (arith, signed, high)))

pub many-nth_from : (c : Closed) (d e : ℤ) (n : ℕ) → IsNthOpenFrom c (month_first_of d) n e → e ≤ℤ month_last_of d → n < open_days c (month_first_of d) (month_last_of d +ℤ pos 1)
many-nth_from c d e n nth high = omega (arith, nth.count, open-of_month c d e nth.passes nth.not_before high)

pub many-nth_back : (c : Closed) (d e : ℤ) (n : ℕ) → IsNthOpenBack c (month_last_of d) n e → month_first_of d ≤ℤ e → n < open_days c (month_first_of d) (month_last_of d +ℤ pos 1)
many-nth_back c d e n nth low = omega (arith, nth.count, open-of_month c d e nth.passes low nth.not_after)

-- of a number that one side bounds where there is none, and the other where there is one
pub exists-none : (n k : ℕ) → k ≤ n → IsSome {T = ℤ} None ↔ (n < k)
exists-none n k few = (λ never. absurd (false≢true never), λ more. absurd (omega (arith, few, more)))

pub exists-some : (x : ℤ) (n k : ℕ) → n < k → IsSome (Some x) ↔ (n < k)
exists-some x n k many = (λ some. many, λ more. refl)

-- the first day of the month, and the last, lie in it
first-of_month : (d : ℤ) → InSameMonth (month_first_of d) d
first-of_month d = (month-days d (month_first_of d)).1 (omega (arith, signed), omega (arith, signed, in_own_month d))

last-of_month : (d : ℤ) → InSameMonth (month_last_of d) d
last-of_month d = (month-days d (month_last_of d)).1 (omega (arith, signed, in_own_month d), omega (arith, signed))

none_open : (c : Closed) (d : ℤ) → ((f : ℤ) → month_first_of d ≤ℤ f → f ≤ℤ month_last_of d → is_open c f ≡ false) → open_days c (month_first_of d) (month_last_of d +ℤ pos 1) ≤ 0
none_open c d closed =
    omega (arith, count_between-none (is_open c) (month_first_of d) (month_last_of d +ℤ pos 1) (λ f low high. closed f low (omega (arith, signed, high))))

-- what is first, or last, from an end of the month is so of the month
pub in_month-first : (o : Option ℤ) (d : ℤ) → IfSome o (λ e. InSameMonth e (month_first_of d)) → IfSome o (λ e. InSameMonth e d)
in_month-first None d month = tt
in_month-first (Some e) d month = let first = first-of_month d in (month.0 ∙ first.0, month.1 ∙ first.1)

pub in_month-last : (o : Option ℤ) (d : ℤ) → IfSome o (λ e. InSameMonth e (month_last_of d)) → IfSome o (λ e. InSameMonth e d)
in_month-last None d month = tt
in_month-last (Some e) d month = let end = last-of_month d in (month.0 ∙ end.0, month.1 ∙ end.1)

pub month-least : (o : Option ℤ) (c : Closed) (d : ℤ) → IfSome o (λ e. IsNextOpen c (month_first_of d) e) → IfSome o (λ e. (f : ℤ) → InSameMonth f d → is_open c f ≡ true → e ≤ℤ f)
month-least None c d next = tt
month-least (Some e) c d next = λ f same is. next-first c (month_first_of d) e f next is ((month-days d f).0 same).0

pub month-greatest : (o : Option ℤ) (c : Closed) (d : ℤ) → IfSome o (λ e. IsLastOpen c (month_last_of d) e) → IfSome o (λ e. (f : ℤ) → InSameMonth f d → is_open c f ≡ true → f ≤ℤ e)
month-greatest None c d last = tt
month-greatest (Some e) c d last = λ f same is. last-last c (month_last_of d) e f last is ((month-days d f).0 same).1

pub month_closed-first : (o : Option ℤ) (c : Closed) (d : ℤ) → IfNone o (MonthEndsClosed c (month_first_of d)) → IfNone o (MonthIsClosed c d)
month_closed-first None c d closed = λ f same.
    let first = first-of_month d in
    closed f ((month-days d f).0 same).0 (same.0 ∙ sym first.0, same.1 ∙ sym first.1)
month_closed-first (Some e) c d closed = tt

pub month_closed-last : (o : Option ℤ) (c : Closed) (d : ℤ) → IfNone o (MonthBeginsClosed c (month_last_of d)) → IfNone o (MonthIsClosed c d)
month_closed-last None c d closed = λ f same.
    let end = last-of_month d in
    closed f ((month-days d f).0 same).1 (same.0 ∙ sym end.0, same.1 ∙ sym end.1)
month_closed-last (Some e) c d closed = tt

pub exists-first : (o : Option ℤ) (c : Closed) (d : ℤ) → IfSome o (λ e. IsNextOpen c (month_first_of d) e) → IfSome o (λ e. InSameMonth e (month_first_of d)) → IfNone o (MonthEndsClosed c (month_first_of d)) → IsSome o ↔ (0 < open_days c (month_first_of d) (month_last_of d +ℤ pos 1))
exists-first None c d next month closed =
    let few = none_open c d (λ f low high. let same = (month-days d f).1 (low, high) in let first = first-of_month d in closed f low (same.0 ∙ sym first.0, same.1 ∙ sym first.1)) in
    (λ never. absurd (false≢true never), λ more. absurd (omega (arith, few, more)))
exists-first (Some e) c d next month closed =
    let first = first-of_month d in
    let place = (month-days d e).0 (month.0 ∙ first.0, month.1 ∙ first.1) in
    (λ some. omega (arith, open-of_month c d e next.passes place.0 place.1), λ more. refl)

pub exists-last : (o : Option ℤ) (c : Closed) (d : ℤ) → IfSome o (λ e. IsLastOpen c (month_last_of d) e) → IfSome o (λ e. InSameMonth e (month_last_of d)) → IfNone o (MonthBeginsClosed c (month_last_of d)) → IsSome o ↔ (0 < open_days c (month_first_of d) (month_last_of d +ℤ pos 1))
exists-last None c d last month closed =
    let few = none_open c d (λ f low high. let same = (month-days d f).1 (low, high) in let end = last-of_month d in closed f high (same.0 ∙ sym end.0, same.1 ∙ sym end.1)) in
    (λ never. absurd (false≢true never), λ more. absurd (omega (arith, few, more)))
exists-last (Some e) c d last month closed =
    let end = last-of_month d in
    let place = (month-days d e).0 (month.0 ∙ end.0, month.1 ∙ end.1) in
    (λ some. omega (arith, open-of_month c d e last.passes place.0 place.1), λ more. refl)
