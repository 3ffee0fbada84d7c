-- The lists of dates: their lengths, and what one step takes from them.
use Rattle.std.proofs.Common.{◌≡◌, ℕ, zero, suc, ◌+◌, ◌*◌, ◌/◌, ◌<◌, ◌≤◌, List, [], ◌∷◌, length, slice_get, refl, sym, ap, ◌∙◌, arith, Option, Some, None, ℤ, pos, ◌+ℤ◌, ◌≤ℤ◌, FitsSigned, w32, to_z, of_z}
use Rattle.std.proofs.lemmas.Int.{by_lt_z, to_z-of_z}
use Rattle.std.proofs.lemmas.Option.{slice_get_past}
use Rattle.std.specs.Option.{SomeIff, OnSome, IfNone}
use Rattle.std.specs.Iterator.{YieldsFirst}
use Rattle.chrono_calendar.specs.Days.{IsDate, date_of_day}
use Rattle.chrono_calendar.specs.Recurrence.{past_last_date, dates_left}
use Rattle.chrono_calendar.proofs.Signed.{signed, casts}
use Rattle.chrono_calendar.proofs.NamedDates.{date_of_day-Some, date_of_day-None}
use Rattle.chrono_naive.specs.DateLists.{IsDayCursor, in_steps, days_left, days_from, weeks_from, days_of_week}

length-in_steps : (d n : ℕ) (first : ℤ) → length (in_steps d n first) ≡ n
unfolding in_steps
length-in_steps d zero first = refl
length-in_steps d (suc n) first = ap suc (length-in_steps d n (first +ℤ pos d))

-- as many dates are left as the lists are long
pub length-days_from : (n : ℤ) → length (days_from n) ≡ dates_left n
unfolding days_from
length-days_from n = length-in_steps 1 (dates_left n) n

pub length-weeks_from : (n : ℤ) → length (weeks_from n) ≡ days_left n / 7
unfolding weeks_from
length-weeks_from n = length-in_steps 7 (days_left n / 7) n

-- which is never more than all dates, or all whole weeks
pub days_from-few : (n : ℤ) → IsDate n → length (days_from n) ≤ 191_491_529
days_from-few n h = omega (arith, signed, length-days_from n, h.0, h.1)

pub weeks_from-few : (n : ℤ) → IsDate n → length (weeks_from n) ≤ 27_355_932
weeks_from-few n h = omega (arith, signed, length-weeks_from n, h.0, h.1)

in_steps-none : (d n : ℕ) (first : ℤ) → n ≡ 0 → in_steps d n first ≡ []
unfolding in_steps
in_steps-none d zero first e = refl
in_steps-none d (suc n) first e = absurd (omega arith)

in_steps-some : (d n m : ℕ) (first next : ℤ) → n ≡ m + 1 → next ≡ first +ℤ pos d → in_steps d n first ≡ first ∷ in_steps d m next
unfolding in_steps
in_steps-some d zero m first next e f = absurd (omega arith)
in_steps-some d (suc n) m first next e f = let same : n ≡ m = omega arith in rw (same, f) refl

-- the k-th of them is so many steps on, and there is none past the last
in_steps-at : (d n k : ℕ) (first : ℤ) → k < n → slice_get (in_steps d n first) k ≡ Some (first +ℤ pos (d * k))
unfolding in_steps
in_steps-at d zero k first h = absurd (omega arith)
in_steps-at d (suc n) zero first h = ap Some (omega (arith, signed))
in_steps-at d (suc n) (suc k) first h =
    let more : d * suc k ≡ d + d * k = one_more d k in
    in_steps-at d n k (first +ℤ pos d) (omega arith) ∙ ap Some (omega (arith, signed, more))
  where
    one_more : (d k : ℕ) → d * suc k ≡ d + d * k
    one_more d k = grind arith

in_steps-past : (d n k : ℕ) (first : ℤ) → n ≤ k → slice_get (in_steps d n first) k ≡ None
in_steps-past d n k first h = slice_get_past (in_steps d n first) k (omega (arith, length-in_steps d n first))

pub days_from-at : (n : ℤ) (k : ℕ) → IsDayCursor n → slice_get (days_from n) k ≡ date_of_day (n +ℤ pos k)
unfolding days_from
days_from-at n k h =
    by_lt_z (n +ℤ pos k) past_last_date
    (λ before.
    let within = in_steps-at 1 (dates_left n) k n (omega (arith, signed, before)) in
    let place : n +ℤ pos (1 * k) ≡ n +ℤ pos k = omega (arith, signed) in
    within ∙ ap Some place ∙ sym (date_of_day-Some (n +ℤ pos k) (omega (arith, signed, h.0), omega (arith, signed, before))))
    (λ past.
    in_steps-past 1 (dates_left n) k n (omega (arith, signed, h.1, past))
    ∙ date_of_day-None (n +ℤ pos k) (λ date. omega (arith, signed, date.1, past)))

pub weeks_from-at : (n : ℤ) (k : ℕ) → IsDate (n +ℤ pos (7 * k + 7)) → slice_get (weeks_from n) k ≡ Some (n +ℤ pos (7 * k))
unfolding weeks_from
weeks_from-at n k after = in_steps-at 7 (days_left n / 7) k n (omega (arith, signed, after.1))

pub weeks_from-past : (n : ℤ) (k : ℕ) → IsDate n → (IsDate (n +ℤ pos (7 * k + 7)) → ⊥) → slice_get (weeks_from n) k ≡ None
unfolding weeks_from
weeks_from-past n k h past =
    let beyond : past_last_date ≤ℤ (n +ℤ pos (7 * k + 7)) =
    by_lt_z (n +ℤ pos (7 * k + 7)) past_last_date (λ lt. absurd (past (omega (arith, signed, h.0), omega (arith, signed, lt)))) (λ ge. ge) in
    in_steps-past 7 (days_left n / 7) k n (omega (arith, signed, h.1, beyond))

-- where the next day of the list would be no date, no date is left
none_left : (n : ℤ) (d k : ℕ) → 1 ≤ d → IsDate n → (IsDate (n +ℤ pos d) → ⊥) → k * d ≤ days_left n → k ≡ 0
none_left n d zero low h past fits = refl
none_left n d (suc k) low h past fits =
    let more : d ≤ suc k * d = omega (arith, mul_le_left k d) in
    absurd (past (omega (arith, signed, h.0, h.1, more, fits), omega (arith, signed, h.0, h.1, more, fits)))
  where
    mul_le_left : (k d : ℕ) → d ≤ suc k * d
    mul_le_left k d = grind arith

-- what is read at a cursor, as a machine number, is the date of its number
pub date_of_day-cursor : (o : Option ℤ) (a n : ℤ) → IsDayCursor a → a ≡ n → o ≡ date_of_day (to_z w32 (of_z w32 a)) → o ≡ date_of_day n
date_of_day-cursor o a n h e f =
    let fits : FitsSigned w32 a = omega (arith, casts, h.0, h.1) in
    f ∙ ap date_of_day (to_z-of_z w32 a fits ∙ e)

-- a cursor that is at no date is at the number after the last one
pub IsDayCursor-ended : (n : ℤ) → IsDayCursor n → (IsDate n → ⊥) → n ≡ past_last_date
IsDayCursor-ended n h ended =
    let none_before : pos 95_745_400 ≤ℤ n = by_lt_z n (pos 95_745_400) (λ lt. absurd (ended (h.0, omega (arith, signed, lt)))) (λ ge. ge) in
    omega (arith, signed, h.1, none_before)

-- what a step of a cursor gives is the first of its list, and the rest is the list from where it then stands
pub days_from-yields : (n next : ℤ) (o : Option ℤ) → IsDayCursor n → SomeIff o (IsDate n) n → OnSome o (next ≡ n +ℤ pos 1) → IfNone o (next ≡ n) → YieldsFirst days_from n o next
unfolding days_from
days_from-yields n next None h ended moved stays =
    let none = in_steps-none 1 (dates_left n) n (omega (arith, signed, IsDayCursor-ended n h ended)) in
    (none, rw stays none)
days_from-yields n next (Some x) h found moved stays =
    rw found.1 (in_steps-some 1 (dates_left n) (dates_left next) n next (omega (arith, signed, found.0.1, moved)) moved)

pub weeks_from-yields : (n next : ℤ) (o : Option ℤ) → IsDate n → SomeIff o (IsDate (n +ℤ pos 7)) n → OnSome o (next ≡ n +ℤ pos 7) → IfNone o (next ≡ n) → YieldsFirst weeks_from n o next
unfolding weeks_from
weeks_from-yields n next None h past moved stays =
    let none = in_steps-none 7 (days_left n / 7) n (none_left n 7 (days_left n / 7) (omega arith) h past (omega arith)) in
    (none, rw stays none)
weeks_from-yields n next (Some x) h found moved stays =
    rw found.1 (in_steps-some 7 (days_left n / 7) (days_left next / 7) n next (omega (arith, signed, found.0.1, moved)) moved)

first_of : List ℤ → ℤ
first_of [] = pos 0
first_of (x ∷ xs) = x

-- weeks with the same days begin on the same day
pub days_of_week-same : (a b : ℤ) → days_of_week a ≡ days_of_week b → a ≡ b
unfolding in_steps first_of
days_of_week-same a b e = ap first_of e
