-- Moves by open days: from the next open day, from the previous one, and so that the first open day behind a closed day is 1
-- from it. What the rank of the day found says of them, and their laws.
use Rattle.std.proofs.Common.{◌≡◌, ◌↔◌, ℕ, ◌<◌, ◌≤◌, true, false, refl, sym, ap, ◌∙◌, arith, ℤ, pos, neg_ℤ, ◌+ℤ◌, ◌-ℤ◌, ◌≤ℤ◌, ◌<ℤ◌, Option, Some, None, IfSome, IfNone}
use Rattle.std.proofs.lemmas.Int.{by_lt_z}
use Rattle.chrono_datetime.specs.Days.{IsDate}
use Rattle.chrono_datetime.specs.Recurrence.{first_date, past_last_date}
use Rattle.chrono_datetime.proofs.Signed.{signed}
use Rattle.chrono_datetime.proofs.CountWhere.{one_if}
use Rattle.chrono_datetime.proofs.CountBetween.{count_between-day, count_between-empty, count_between-first, count_between-le, count_between-none}
use Rattle.chrono_business.specs.OpenDays.{Closed, IsMovedByOpenDays, IsMovedFromNext, IsMovedFromPrevious, is_open, open_days, open_days_signed}
use Rattle.chrono_business.specs.Rolls.{IsLastOpen, IsNextOpen}
use Rattle.chrono_business.proofs.Early.{one_if-false, one_if-true}
use Rattle.chrono_business.proofs.Ranks.{open-behind, open-rises, signed-ranks, signed-ranks_from, signed-sum}
use Rattle.chrono_business.proofs.RollLemmas.{open_and_closed}

-- ---- by ranks

-- a date has fewer open days before it than there are dates, and an open one fewer than the calendar has
pub few_before : (c : Closed) (e : ℤ) → IsDate e → open_days c first_date e ≤ 191_491_528
few_before c e e-is = omega (arith, signed, e-is.1, count_between-le (is_open c) first_date e e-is.0)

pub rank-below : (c : Closed) (e : ℤ) → IsDate e → is_open c e ≡ true → open_days c first_date e < open_days c first_date past_last_date
rank-below c e e-is is =
    let next : ℤ = e +ℤ pos 1 in
    omega (arith, open-behind c first_date e next e-is.0 refl is, open-rises c first_date next past_last_date (omega (arith, signed, e-is.0)) (omega (arith, signed, e-is.1)))

pub if-none_of_rank : (o : Option ℤ) (c : Closed) (r : ℤ) (n : ℕ) → pos n ≡ r → IfNone o (open_days c first_date past_last_date ≤ n) → IfNone o ((e : ℤ) → IsDate e → is_open c e ≡ true → pos (open_days c first_date e) ≡ r → ⊥)
if-none_of_rank None c r n rank few = λ e e-is is count. omega (arith, signed, rank, few, count, rank-below c e e-is is)
if-none_of_rank (Some e) c r n rank few = tt

pub if-from_next : (o : Option ℤ) (c : Closed) (d n r : ℤ) → IsDate d → r ≡ pos (open_days c first_date d) → IfSome o IsDate → IfSome o (λ e. is_open c e ≡ true) → IfSome o (λ e. pos (open_days c first_date e) ≡ r +ℤ n) → IfSome o (λ e. IsMovedFromNext c d n e)
if-from_next None c d n r d-is rank date passes count = tt
if-from_next (Some e) c d n r d-is rank date passes count = record {
  passes = passes;
  count = omega (arith, signed, signed-ranks c d e d-is date, rank, count);
}

pub if-none_from_next : (o : Option ℤ) (c : Closed) (d n r : ℤ) → IsDate d → r ≡ pos (open_days c first_date d) → IfNone o ((e : ℤ) → IsDate e → is_open c e ≡ true → pos (open_days c first_date e) ≡ r +ℤ n → ⊥) → IfNone o ((e : ℤ) → IsDate e → IsMovedFromNext c d n e → ⊥)
if-none_from_next None c d n r d-is rank none = λ e e-is moved.
    none e e-is moved.passes (omega (arith, signed, signed-ranks c d e d-is e-is, rank, moved.count))
if-none_from_next (Some e) c d n r d-is rank none = tt

-- the rank of an open day is one less than how many come before the next day
behind-ranks : (c : Closed) (d e : ℤ) → IsDate d → IsDate e → is_open c e ≡ true → open_days_signed c (d +ℤ pos 1) (e +ℤ pos 1) ≡ (pos (open_days c first_date e) +ℤ pos 1) -ℤ pos (open_days c first_date (d +ℤ pos 1))
behind-ranks c d e d-is e-is is =
    omega (arith, signed, signed-ranks_from c (d +ℤ pos 1) (e +ℤ pos 1) (omega (arith, signed, d-is.0)) (omega (arith, signed, e-is.0)), open-behind c first_date e (e +ℤ pos 1) e-is.0 refl is)

pub if-from_previous : (o : Option ℤ) (c : Closed) (d n r : ℤ) → IsDate d → r ≡ pos (open_days c first_date (d +ℤ pos 1)) -ℤ pos 1 → IfSome o IsDate → IfSome o (λ e. is_open c e ≡ true) → IfSome o (λ e. pos (open_days c first_date e) ≡ r +ℤ n) → IfSome o (λ e. IsMovedFromPrevious c d n e)
if-from_previous None c d n r d-is rank date passes count = tt
if-from_previous (Some e) c d n r d-is rank date passes count = record {
  passes = passes;
  count = omega (arith, signed, behind-ranks c d e d-is date passes, rank, count);
}

pub if-none_from_previous : (o : Option ℤ) (c : Closed) (d n r : ℤ) → IsDate d → r ≡ pos (open_days c first_date (d +ℤ pos 1)) -ℤ pos 1 → IfNone o ((e : ℤ) → IsDate e → is_open c e ≡ true → pos (open_days c first_date e) ≡ r +ℤ n → ⊥) → IfNone o ((e : ℤ) → IsDate e → IsMovedFromPrevious c d n e → ⊥)
if-none_from_previous None c d n r d-is rank none = λ e e-is moved.
    none e e-is moved.passes (omega (arith, signed, behind-ranks c d e d-is e-is moved.passes, rank, moved.count))
if-none_from_previous (Some e) c d n r d-is rank none = tt

-- ---- counts with a sign from day to day

day-signed : (c : Closed) (a : ℤ) → open_days_signed c a (a +ℤ pos 1) ≡ pos (one_if (is_open c a))
day-signed c a =
    omega (arith, signed, count_between-day (is_open c) a (a +ℤ pos 1) refl, count_between-empty (is_open c) (a +ℤ pos 1) a (omega (arith, signed)))

-- both ends a day later
shifted : (c : Closed) (d e : ℤ) → open_days_signed c (d +ℤ pos 1) (e +ℤ pos 1) +ℤ pos (one_if (is_open c d)) ≡ open_days_signed c d e +ℤ pos (one_if (is_open c e))
shifted c d e =
    omega (arith, signed, signed-sum c d (d +ℤ pos 1) (e +ℤ pos 1), signed-sum c d e (e +ℤ pos 1), day-signed c d, day-signed c e)

shifted-open : (c : Closed) (d e : ℤ) → is_open c d ≡ true → is_open c e ≡ true → open_days_signed c (d +ℤ pos 1) (e +ℤ pos 1) ≡ open_days_signed c d e
shifted-open c d e d-open e-open =
    omega (arith, signed, shifted c d e, one_if-true (is_open c d) d-open, one_if-true (is_open c e) e-open)

on-signed : (c : Closed) (d g : ℤ) → d ≤ℤ g → pos 0 ≤ℤ open_days_signed c d g
on-signed c d g le = omega (arith, signed, count_between-empty (is_open c) g d le)

-- an open day before another day counts, and so does one in front of which a day lies
from_open-signed : (c : Closed) (f e : ℤ) → is_open c f ≡ true → f <ℤ e → pos 1 ≤ℤ open_days_signed c f e
from_open-signed c f e is lt =
    omega (arith, signed, count_between-first (is_open c) f (f +ℤ pos 1) e lt refl, one_if-true (is_open c f) is, count_between-empty (is_open c) e f (omega (arith, signed, lt)))

to_open-signed : (c : Closed) (f e : ℤ) → is_open c e ≡ true → f <ℤ e → pos 1 ≤ℤ open_days_signed c (f +ℤ pos 1) (e +ℤ pos 1)
to_open-signed c f e is lt =
    omega (arith, signed, open-behind c (f +ℤ pos 1) e (e +ℤ pos 1) (omega (arith, signed, lt)) refl is, count_between-empty (is_open c) (e +ℤ pos 1) (f +ℤ pos 1) (omega (arith, signed, lt)))

-- ---- a positive number moves as from the previous open day, and each other as from the next

pub moved-previous : (c : Closed) (d e n : ℤ) → pos 0 <ℤ n → IsMovedFromPrevious c d n e → IsMovedByOpenDays c d n e
moved-previous c d e n more moved =
    let after : d <ℤ e = by_lt_z d e (λ lt. lt)
    (λ ge. absurd (omega (arith, signed, more, moved.count, count_between-empty (is_open c) (d +ℤ pos 1) (e +ℤ pos 1) (omega (arith, signed, ge))))) in
    record {
      on = λ h. record {
        passes = moved.passes;
        after = after;
        count = omega (arith, signed, more, moved.count, count_between-empty (is_open c) (e +ℤ pos 1) (d +ℤ pos 1) (omega (arith, signed, after)));
      };
      zero = λ none. absurd (omega (arith, signed, more, none));
      back = λ less. absurd (omega (arith, signed, more, less));
    }

pub moved-next : (c : Closed) (d e n : ℤ) → n ≤ℤ pos 0 → IsMovedFromNext c d n e → IsMovedByOpenDays c d n e
moved-next c d e n most moved = record {
  on = λ more. absurd (omega (arith, signed, most, more));
  zero = λ none.
      let not_before : d ≤ℤ e = by_lt_z e d
      (λ lt. absurd (omega (arith, signed, none, moved.count, signed-sum c d e d, from_open-signed c e d moved.passes lt)))
      (λ ge. ge) in
      record {
        passes = moved.passes;
        not_before = not_before;
        count = omega (arith, signed, none, moved.count, count_between-empty (is_open c) e d not_before);
      };
  back = λ less.
      let before : e <ℤ d = by_lt_z e d (λ lt. lt)
      (λ ge. absurd (omega (arith, signed, less, moved.count, on-signed c d e ge))) in
      record {
        passes = moved.passes;
        before = before;
        count = omega (arith, signed, less, moved.count, count_between-empty (is_open c) d e (omega (arith, signed, before)));
      };
}

pub previous-moved : (c : Closed) (d e n : ℤ) → pos 0 <ℤ n → IsMovedByOpenDays c d n e → IsMovedFromPrevious c d n e
previous-moved c d e n more moved =
    let on = moved.on more in
    record {
      passes = on.passes;
      count = omega (arith, signed, more, on.count, count_between-empty (is_open c) (e +ℤ pos 1) (d +ℤ pos 1) (omega (arith, signed, on.after)));
    }

pub next-moved : (c : Closed) (d e n : ℤ) → n ≤ℤ pos 0 → IsMovedByOpenDays c d n e → IsMovedFromNext c d n e
next-moved c d e n most moved = by_lt_z n (pos 0)
    (λ less.
    let back = moved.back less in
    record {
      passes = back.passes;
      count = omega (arith, signed, less, back.count, count_between-empty (is_open c) d e (omega (arith, signed, back.before)));
    })
    (λ ge.
    let zero = moved.zero (omega (arith, signed, most, ge)) in
    record {
      passes = zero.passes;
      count = omega (arith, signed, most, ge, zero.count, count_between-empty (is_open c) e d zero.not_before);
    })

pub moved-passes : (c : Closed) (d e n : ℤ) → IsMovedByOpenDays c d n e → is_open c e ≡ true
moved-passes c d e n moved = by_lt_z (pos 0) n
    (λ more. (previous-moved c d e n more moved).passes)
    (λ most. (next-moved c d e n most moved).passes)

pub if-moved_previous : (o : Option ℤ) (c : Closed) (d n : ℤ) → pos 0 <ℤ n → IfSome o (λ e. IsMovedFromPrevious c d n e) → IfSome o (λ e. IsMovedByOpenDays c d n e)
if-moved_previous None c d n more moved = tt
if-moved_previous (Some e) c d n more moved = moved-previous c d e n more moved

pub if-none_moved_previous : (o : Option ℤ) (c : Closed) (d n : ℤ) → pos 0 <ℤ n → IfNone o ((e : ℤ) → IsDate e → IsMovedFromPrevious c d n e → ⊥) → IfNone o ((e : ℤ) → IsDate e → IsMovedByOpenDays c d n e → ⊥)
if-none_moved_previous None c d n more none = λ e e-is moved. none e e-is (previous-moved c d e n more moved)
if-none_moved_previous (Some e) c d n more none = tt

pub if-moved_next : (o : Option ℤ) (c : Closed) (d n : ℤ) → n ≤ℤ pos 0 → IfSome o (λ e. IsMovedFromNext c d n e) → IfSome o (λ e. IsMovedByOpenDays c d n e)
if-moved_next None c d n most moved = tt
if-moved_next (Some e) c d n most moved = moved-next c d e n most moved

pub if-none_moved_next : (o : Option ℤ) (c : Closed) (d n : ℤ) → n ≤ℤ pos 0 → IfNone o ((e : ℤ) → IsDate e → IsMovedFromNext c d n e → ⊥) → IfNone o ((e : ℤ) → IsDate e → IsMovedByOpenDays c d n e → ⊥)
if-none_moved_next None c d n most none = λ e e-is moved. none e e-is (next-moved c d e n most moved)
if-none_moved_next (Some e) c d n most none = tt

-- ---- laws

-- the open days between a day and where it moves
pub moved-count_open : (c : Closed) (d e n : ℤ) → is_open c d ≡ true → IsMovedByOpenDays c d n e → open_days_signed c d e ≡ n
moved-count_open c d e n is moved = by_lt_z (pos 0) n
    (λ more. sym (shifted-open c d e is (moved-passes c d e n moved)) ∙ (previous-moved c d e n more moved).count)
    (λ most. (next-moved c d e n most moved).count)

pub moved-count_back : (c : Closed) (d e n : ℤ) → n ≤ℤ pos 0 → IsMovedByOpenDays c d n e → open_days_signed c d e ≡ n
moved-count_back c d e n most moved = (next-moved c d e n most moved).count

pub moved-count_on : (c : Closed) (d e n : ℤ) → is_open c d ≡ false → pos 0 <ℤ n → IsMovedByOpenDays c d n e → open_days_signed c d e +ℤ pos 1 ≡ n
moved-count_on c d e n not more moved =
    let previous = previous-moved c d e n more moved in
    omega (arith, signed, shifted c d e, one_if-false (is_open c d) not, one_if-true (is_open c e) previous.passes, previous.count)

-- an open day that is as far leads there
open-moved : (c : Closed) (d e n : ℤ) → is_open c d ≡ true → is_open c e ≡ true → open_days_signed c d e ≡ n → IsMovedByOpenDays c d n e
open-moved c d e n d-open e-open count = by_lt_z (pos 0) n
    (λ more. moved-previous c d e n more (record { passes = e-open; count = shifted-open c d e d-open e-open ∙ count }))
    (λ most. moved-next c d e n most (record { passes = e-open; count = count }))

-- back again
pub moved-back : (c : Closed) (d e n m : ℤ) → n +ℤ m ≡ pos 0 → IsMovedByOpenDays c d n e → IsMovedByOpenDays c e m d ↔ (is_open c d ≡ true)
moved-back c d e n m none moved = (
  λ back. moved-passes c e d m back,
  λ is. open-moved c e d m (moved-passes c d e n moved) is (omega (arith, signed, none, signed-sum c d e d, moved-count_open c d e n is moved)),
)

-- twice: from an open day, or where the whole way and the first part are both on, or neither is
pub moved-sum_open : (c : Closed) (d e f n m : ℤ) → is_open c d ≡ true → IsMovedByOpenDays c d n e → IsMovedByOpenDays c e m f → IsMovedByOpenDays c d (n +ℤ m) f
moved-sum_open c d e f n m is first second =
    let middle = moved-passes c d e n first in
    open-moved c d f (n +ℤ m) is (moved-passes c e f m second)
    (omega (arith, signed, signed-sum c d e f, moved-count_open c d e n is first, moved-count_open c e f m middle second))

pub moved-sum_on : (c : Closed) (d e f n m : ℤ) → pos 0 <ℤ n → pos 0 <ℤ (n +ℤ m) → IsMovedByOpenDays c d n e → IsMovedByOpenDays c e m f → IsMovedByOpenDays c d (n +ℤ m) f
moved-sum_on c d e f n m more both first second =
    let middle = moved-passes c d e n first in
    let end = moved-passes c e f m second in
    moved-previous c d f (n +ℤ m) both (record {
      passes = end;
      count = omega (arith, signed, signed-sum c (d +ℤ pos 1) (e +ℤ pos 1) (f +ℤ pos 1), (previous-moved c d e n more first).count, shifted-open c e f middle end, moved-count_open c e f m middle second);
    })

pub moved-sum_back : (c : Closed) (d e f n m : ℤ) → n ≤ℤ pos 0 → (n +ℤ m) ≤ℤ pos 0 → IsMovedByOpenDays c d n e → IsMovedByOpenDays c e m f → IsMovedByOpenDays c d (n +ℤ m) f
moved-sum_back c d e f n m most both first second =
    let middle = moved-passes c d e n first in
    moved-next c d f (n +ℤ m) both (record {
      passes = moved-passes c e f m second;
      count = omega (arith, signed, signed-sum c d e f, moved-count_back c d e n most first, moved-count_open c e f m middle second);
    })

-- a later day comes to no earlier one
pub moved-order : (c : Closed) (d g e f n : ℤ) → d ≤ℤ g → IsMovedByOpenDays c d n e → IsMovedByOpenDays c g n f → e ≤ℤ f
moved-order c d g e f n le first second = by_lt_z f e
    (λ lt. by_lt_z (pos 0) n
    (λ more. absurd (omega (arith, signed, (previous-moved c d e n more first).count, (previous-moved c g f n more second).count, signed-sum c (d +ℤ pos 1) (g +ℤ pos 1) (e +ℤ pos 1), signed-sum c (g +ℤ pos 1) (f +ℤ pos 1) (e +ℤ pos 1), on-signed c (d +ℤ pos 1) (g +ℤ pos 1) (omega (arith, signed, le)), to_open-signed c f e (moved-passes c d e n first) lt)))
    (λ most. absurd (omega (arith, signed, (next-moved c d e n most first).count, (next-moved c g f n most second).count, signed-sum c d g e, signed-sum c g f e, on-signed c d g le, from_open-signed c f e (moved-passes c g f n second) lt))))
    (λ ge. ge)

pub moved-one : (c : Closed) (d e f n : ℤ) → IsMovedByOpenDays c d n e → IsMovedByOpenDays c d n f → e ≡ f
moved-one c d e f n first second =
    omega (arith, signed, moved-order c d d e f n (omega (arith, signed)) first second, moved-order c d d f e n (omega (arith, signed)) second first)

-- from a closed day the next open day is the first on, and the last one the first back
pub moved-first_on : (c : Closed) (d e : ℤ) → is_open c d ≡ false → IsNextOpen c d e → IsMovedByOpenDays c d (pos 1) e
moved-first_on c d e not next =
    let after : d <ℤ e = by_lt_z d e (λ lt. lt)
    (λ ge. let same : d ≡ e = omega (arith, signed, ge, next.not_before) in absurd (open_and_closed c e next.passes (ap (is_open c) (sym same) ∙ not))) in
    let none = count_between-none (is_open c) (d +ℤ pos 1) e (λ f low high. next.least f (omega (arith, signed, low)) high) in
    moved-previous c d e (pos 1) (omega (arith, signed)) (record {
      passes = next.passes;
      count = omega (arith, signed, none, open-behind c (d +ℤ pos 1) e (e +ℤ pos 1) (omega (arith, signed, after)) refl next.passes, count_between-empty (is_open c) (e +ℤ pos 1) (d +ℤ pos 1) (omega (arith, signed, after)));
    })

pub moved-first_back : (c : Closed) (d e : ℤ) → is_open c d ≡ false → IsLastOpen c d e → IsMovedByOpenDays c d (neg_ℤ (pos 1)) e
moved-first_back c d e not last =
    let before : e <ℤ d = by_lt_z e d (λ lt. lt)
    (λ ge. let same : d ≡ e = omega (arith, signed, ge, last.not_after) in absurd (open_and_closed c e last.passes (ap (is_open c) (sym same) ∙ not))) in
    let none = count_between-none (is_open c) (e +ℤ pos 1) d (λ f low high. last.greatest f (omega (arith, signed, low)) (omega (arith, signed, high))) in
    moved-next c d e (neg_ℤ (pos 1)) (omega (arith, signed)) (record {
      passes = last.passes;
      count = omega (arith, signed, none, count_between-first (is_open c) e (e +ℤ pos 1) d before refl, one_if-true (is_open c e) last.passes, count_between-empty (is_open c) d e (omega (arith, signed, before)));
    })
