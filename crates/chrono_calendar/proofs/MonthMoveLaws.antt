-- The laws of month moves.
use Rattle.std.proofs.Common.{◌≡◌, ℕ, zero, suc, ◌*◌, ◌<◌, ◌≤◌, inl, inr, min, Bool, true, false, cond, Option, Some, None, IsSome, ◌↔◌, IfSome, IsSomeAnd, refl, sym, ap, subst, ◌∙◌, arith, ℤ, pos, negsuc, ◌+ℤ◌, ◌-ℤ◌, ◌*ℤ◌, ◌≤ℤ◌, ◌<ℤ◌}
use Rattle.std.proofs.lemmas.Option.{cond_some}
use Rattle.std.proofs.Math.Nat.{mul-lt-mul_of_pos_left}
use Rattle.chrono_units.specs.Years.{is_year, IsYear}
use Rattle.chrono_calendar.specs.Days.{IsDate, year_of, ordinal_of, month_of, day_of}
use Rattle.chrono_calendar.specs.MonthMoves.{year_of_month_index, month_of_month_index, day_number_in_month, month_index_of, month_length_of, month_move, InSameMonth, KeepsOrder, IsMonthMoveBack, ComesBack, MonthMovesAddUp, LaterMultiplesAreLater}
use Rattle.chrono_text.proofs.Signed.{signed}
use Rattle.chrono_calendar.proofs.Names.{ordinal_name_of-number, year_in_range, day_number_in_range}
use Rattle.chrono_calendar.proofs.Dates.{is_year-fact, is_year-test}
use Rattle.chrono_calendar.proofs.GivenNames.{exists_if}
use Rattle.chrono_calendar.proofs.MonthOrder.{length_at, length_at-bounds, before_month, month_index-parts, IsDayAt, day_at-exists, month_of-range, day_at-unique, days_in_order, earlier_month, day_at-moved}

-- what a move that exists comes to
pub record IsMonthMove (n k e : ℤ) : Type 0 where
  pub year : is_year (year_of_month_index (month_index_of n +ℤ k)) ≡ true
  pub day : e ≡ day_number_in_month (month_index_of n +ℤ k) (day_of n)

pub month_move-is : (n k e : ℤ) → month_move n k ≡ Some e → IsMonthMove n k e
unfolding month_move
month_move-is n k e h =
    let parts = cond_some (is_year (year_of_month_index (month_index_of n +ℤ k))) (day_number_in_month (month_index_of n +ℤ k) (day_of n)) e h in
    record { year = parts.0; day = sym parts.1 }

-- the month and the day of the month of that day
pub month_move-at : (n k e : ℤ) → IsMonthMove n k e → IsDayAt e (month_index_of n +ℤ k) (min (day_of n) (length_at (month_index_of n +ℤ k)))
month_move-at n k e h = rw h.day (day_at-moved (month_index_of n +ℤ k) (day_of n) (day_at-exists n).first)

-- a date's year is one of the library's, and a move comes to a date
pub year_of-range : (n : ℤ) → IsDate n → IsYear (year_of n)
year_of-range n h =
    let named = ordinal_name_of-number n in
    year_in_range (year_of n) (ordinal_of n) named.exists (rw named.number at h)

pub month_move-range : (n k e : ℤ) → month_move n k ≡ Some e → IsDate e
month_move-range n k e h =
    let move = month_move-is n k e h in
    let place = day_at-unique e (month_index_of n +ℤ k) (min (day_of n) (length_at (month_index_of n +ℤ k))) (month_move-at n k e move) in
    let year : year_of_month_index (month_index_of n +ℤ k) ≡ year_of e = ap year_of_month_index (sym place.0) ∙ (month_index-parts (year_of e) (month_of e) (month_of-range e)).0 in
    let named = ordinal_name_of-number e in
    rw (← named.number) at (day_number_in_range (year_of e) (ordinal_of e) (rw year at (is_year-fact (year_of_month_index (month_index_of n +ℤ k)) move.year)) named.exists)

-- a fact of a move that may not exist
pub IfSome-cond : (b : Bool) (v : ℤ) (P : ℤ → Type 0) → P v → IfSome (cond b (Some v) None) P
IfSome-cond true v P p = p
IfSome-cond false v P p = tt

is_some_and : (b : Bool) (v w : ℤ) (P : ℤ → Type 0) → b ≡ true → v ≡ w → P w → IsSomeAnd (cond b (Some v) None) P
is_some_and true v w P e same p = subst P (sym same) p
is_some_and false v w P e same p = cc

-- the same move of the same day
same_move : (i j : ℤ) (d p : ℕ) → i ≡ j → d ≡ p → day_number_in_month i d ≡ day_number_in_month j p
same_move i j d p e f = ap (λ t. day_number_in_month t d) e ∙ ap (λ t. day_number_in_month j t) f

-- two days keep their order
in_order : (n m i j k : ℤ) (d p : ℕ) → IsDayAt n i d → IsDayAt m j p → n ≤ℤ m → day_number_in_month (i +ℤ k) d ≤ℤ day_number_in_month (j +ℤ k) p
in_order n m i j k d p h g le =
    let low = day_at-moved (i +ℤ k) d h.first in
    let high = day_at-moved (j +ℤ k) p g.first in
    elim (days_in_order n m i j d p h g le) [
      | inl lt ↦ omega (arith, signed, earlier_month _ _ _ _ _ _ low high (omega (arith, signed)))
      | inr same ↦
          let target : i +ℤ k ≡ j +ℤ k = omega (arith, signed, same.0) in
          omega (arith, signed, low.number, high.number, same.1, ap before_month target, ap length_at target)
    ]

pub month_move-KeepsOrder : (n k e : ℤ) → month_move n k ≡ Some e → KeepsOrder n k e
unfolding month_move
month_move-KeepsOrder n k e h =
    let moved = month_move-is n k e h in
    λ later le. IfSome-cond (is_year (year_of_month_index (month_index_of later +ℤ k))) (day_number_in_month (month_index_of later +ℤ k) (day_of later)) (λ x. e ≤ℤ x)
    (rw moved.day (in_order n later (month_index_of n) (month_index_of later) k (day_of n) (day_of later) (day_at-exists n) (day_at-exists later) le))

-- days whose months have one index are in the same month
pub in_same_month : (n m i : ℤ) → month_index_of n ≡ i → month_index_of m ≡ i → InSameMonth n m
in_same_month n m i e f =
    let a = month_index-parts (year_of n) (month_of n) (month_of-range n) in
    let b = month_index-parts (year_of m) (month_of m) (month_of-range m) in
    let same : month_index_of n ≡ month_index_of m = e ∙ sym f in
    (sym a.0 ∙ ap year_of_month_index same ∙ b.0, sym a.1 ∙ ap month_of_month_index same ∙ b.1)

-- moved back, a day comes to its month, as near to its day of the month as the month between had room for
back_in_month : (n e i target : ℤ) (d : ℕ) → IsDayAt n i d → IsDayAt e target (min d (length_at target)) → InSameMonth (day_number_in_month i (min d (length_at target))) n × (d ≤ length_at target → day_number_in_month i (min d (length_at target)) ≡ n) × (length_at target < d → ((n -ℤ pos 3) ≤ℤ day_number_in_month i (min d (length_at target))) × (day_number_in_month i (min d (length_at target)) <ℤ n))
back_in_month n e i target d h g =
    let back = day_at-moved i (min d (length_at target)) g.first in (
      in_same_month _ n i (day_at-unique _ _ _ back).0 (day_at-unique _ _ _ h).0,
      λ room. omega (arith, signed, back.number, h.number, h.last),
      λ short. (
        omega (arith, signed, back.number, h.number, h.last, length_at-bounds i, length_at-bounds target),
        omega (arith, signed, back.number, h.number, h.last),
      ),
    )

-- the length of a day's month
pub month_length_of-at : (n : ℤ) → month_length_of n ≡ length_at (month_index_of n)
unfolding length_at
month_length_of-at n =
    let parts = month_index-parts (year_of n) (month_of n) (month_of-range n) in
    rw (parts.0, parts.1) refl

pub month_move-ComesBack : (n k l e : ℤ) → k +ℤ l ≡ pos 0 → IsYear (year_of n) → month_move n k ≡ Some e → ComesBack n l e
unfolding month_move
month_move-ComesBack n k l e zero_sum y h =
    let target = month_index_of n +ℤ k in
    let moved = month_move-at n k e (month_move-is n k e h) in
    let place = day_at-unique e target (min (day_of n) (length_at target)) moved in
    let home : month_index_of e +ℤ l ≡ month_index_of n = omega (arith, signed, place.0, zero_sum) in
    let year : year_of_month_index (month_index_of e +ℤ l) ≡ year_of n = ap year_of_month_index home ∙ (month_index-parts (year_of n) (month_of n) (month_of-range n)).0 in
    let length : month_length_of e ≡ length_at target = month_length_of-at e ∙ ap length_at place.0 in
    let law = back_in_month n e (month_index_of n) target (day_of n) (day_at-exists n) moved in
    is_some_and (is_year (year_of_month_index (month_index_of e +ℤ l))) (day_number_in_month (month_index_of e +ℤ l) (day_of e)) (day_number_in_month (month_index_of n) (min (day_of n) (length_at target))) (λ back. IsMonthMoveBack n e back)
    (ap is_year year ∙ is_year-test (year_of n) y)
    (same_move _ _ _ _ home place.1)
    (record {
      month = law.0;
      same_day = λ room. law.1 (omega (arith, length));
      shorter = λ short. law.2 (omega (arith, length));
    })

-- two moves end in the month that a single move by both reaches, on the same day there or before it
added_in_month : (target i : ℤ) (d : ℕ) → 1 ≤ d → InSameMonth (day_number_in_month target (min d (length_at i))) (day_number_in_month target d) × (day_number_in_month target (min d (length_at i)) ≤ℤ day_number_in_month target d)
added_in_month target i d first =
    let twice = day_at-moved target (min d (length_at i)) (omega (arith, length_at-bounds i)) in
    let once = day_at-moved target d first in
    (in_same_month _ _ target (day_at-unique _ _ _ twice).0 (day_at-unique _ _ _ once).0, omega (arith, signed, twice.number, once.number))

if_some_and : (b c : Bool) (v w x : ℤ) (P : ℤ → ℤ → Type 0) → b ≡ c → v ≡ w → P w x → IfSome (cond b (Some v) None) (λ s. IsSomeAnd (cond c (Some x) None) (λ t. P s t))
if_some_and true true v w x P e same p = subst (λ s. P s x) (sym same) p
if_some_and true false v w x P e same p = cc
if_some_and false c v w x P e same p = tt

pub month_move-MonthMovesAddUp : (n k e : ℤ) → month_move n k ≡ Some e → MonthMovesAddUp n k e
unfolding month_move
month_move-MonthMovesAddUp n k e h =
    let target = month_index_of n +ℤ k in
    let moved = month_move-at n k e (month_move-is n k e h) in
    let place = day_at-unique e target (min (day_of n) (length_at target)) moved in
    λ more.
    let sum : month_index_of e +ℤ more ≡ month_index_of n +ℤ (k +ℤ more) = omega (arith, signed, place.0) in
    if_some_and (is_year (year_of_month_index (month_index_of e +ℤ more))) (is_year (year_of_month_index (month_index_of n +ℤ (k +ℤ more))))
    (day_number_in_month (month_index_of e +ℤ more) (day_of e)) (day_number_in_month (month_index_of n +ℤ (k +ℤ more)) (min (day_of n) (length_at target))) (day_number_in_month (month_index_of n +ℤ (k +ℤ more)) (day_of n))
    (λ twice once. InSameMonth twice once × (twice ≤ℤ once))
    (ap (λ i. is_year (year_of_month_index i)) sum)
    (same_move _ _ _ _ sum place.1)
    (added_in_month (month_index_of n +ℤ (k +ℤ more)) target (day_of n) (day_at-exists n).first)

-- moves by more months come to later days
more_months : (k : ℤ) (i j : ℕ) → pos 0 <ℤ k → i < j → (k *ℤ pos i) <ℤ (k *ℤ pos j)
more_months (pos zero) i j h lt = absurd (omega (arith, signed))
more_months (pos (suc q)) i j h lt =
    let more : suc q * i < suc q * j = mul-lt-mul_of_pos_left lt (omega arith) in
    omega (arith, signed)
more_months (negsuc q) i j h lt = absurd (omega (arith, signed))

pub month_move-LaterMultiplesAreLater : (n k : ℤ) (i : ℕ) (e : ℤ) → pos 0 <ℤ k → month_move n (k *ℤ pos i) ≡ Some e → LaterMultiplesAreLater n k i e
unfolding month_move
month_move-LaterMultiplesAreLater n k i e h m =
    let moved = month_move-at n (k *ℤ pos i) e (month_move-is n (k *ℤ pos i) e m) in
    λ j lt.
    let later = day_at-moved (month_index_of n +ℤ k *ℤ pos j) (day_of n) (day_at-exists n).first in
    IfSome-cond (is_year (year_of_month_index (month_index_of n +ℤ k *ℤ pos j))) (day_number_in_month (month_index_of n +ℤ k *ℤ pos j) (day_of n)) (λ x. e <ℤ x)
    (earlier_month _ _ _ _ _ _ moved later (omega (arith, signed, more_months k i j h lt)))

-- the laws, of an answer that is the move
pub if_moved : (o : Option ℤ) (n k l : ℤ) → k +ℤ l ≡ pos 0 → IsYear (year_of n) → o ≡ month_move n k → IfSome o (KeepsOrder n k) × IfSome o (ComesBack n l) × IfSome o (MonthMovesAddUp n k)
if_moved None n k l z y h = (tt, tt, tt)
if_moved (Some e) n k l z y h = (month_move-KeepsOrder n k e (sym h), month_move-ComesBack n k l e z y (sym h), month_move-MonthMovesAddUp n k e (sym h))

-- the month and the day of the month that a move comes to
pub month_move-parts : (n k e : ℤ) → month_move n k ≡ Some e → (month_index_of e ≡ month_index_of n +ℤ k) × (day_of e ≡ min (day_of n) (month_length_of e))
month_move-parts n k e h =
    let place = day_at-unique e _ _ (month_move-at n k e (month_move-is n k e h)) in
    (place.0, place.1 ∙ ap (min (day_of n)) (ap length_at (sym place.0) ∙ sym (month_length_of-at e)))

-- there is one exactly if the library has the year of that month
pub month_move-exists : (o : Option ℤ) (n k : ℤ) → o ≡ month_move n k → IsSome o ↔ IsYear (year_of_month_index (month_index_of n +ℤ k))
unfolding month_move
month_move-exists o n k h =
    let year = year_of_month_index (month_index_of n +ℤ k) in
    let tested = exists_if (is_year year) o (day_number_in_month (month_index_of n +ℤ k) (day_of n)) h in
    ((λ some. is_year-fact year (tested.0 some)), (λ range. tested.1 (is_year-test year range)))

-- the same of an answer that is the move
pub if_month : (o : Option ℤ) (n k : ℤ) → o ≡ month_move n k → IfSome o (λ e. month_index_of e ≡ month_index_of n +ℤ k) × IfSome o (λ e. day_of e ≡ min (day_of n) (month_length_of e))
if_month None n k h = (tt, tt)
if_month (Some e) n k h = month_move-parts n k e (sym h)
