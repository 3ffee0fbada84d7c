-- Of all dates from a day on, those that pass a test.
use Rattle.std.proofs.Common.{◌≡◌, ℕ, zero, suc, ◌+◌, ◌≤◌, Bool, true, false, cond, List, [], ◌∷◌, length, refl, ap, ◌∙◌, arith, ℤ, pos, ◌+ℤ◌, ◌-ℤ◌, ◌≤ℤ◌, ◌<ℤ◌, unsigned_abs}
use Rattle.std.specs.Prelude.{filter}
use Rattle.chrono_datetime.proofs.DateListLemmas.{length-days_from}
use Rattle.chrono_text.proofs.ListLemmas.{filter-few}
use Rattle.chrono_datetime.specs.Days.{IsDate}
use Rattle.chrono_datetime.specs.DateLists.{IsDayCursor, days_from, in_steps}
use Rattle.chrono_datetime.specs.Recurrence.{dates_left}
use Rattle.chrono_datetime.proofs.Signed.{signed}

row : (ℤ → Bool) → ℕ → ℤ → List ℤ
row p k n = filter p (in_steps 1 k n)

-- the first day of a row, and the rest
row-first : (p : ℤ → Bool) (b : Bool) (k i : ℕ) (n : ℤ) → i ≡ suc k → p n ≡ b → row p i n ≡ cond b (n ∷ row p k (n +ℤ pos 1)) (row p k (n +ℤ pos 1))
unfolding row in_steps
row-first p b k i n count is =
    ap (λ i. filter p (in_steps 1 i n)) count
    ∙ ap (λ b. cond b (n ∷ filter p (in_steps 1 k (n +ℤ pos 1))) (filter p (in_steps 1 k (n +ℤ pos 1)))) is

row-none : (p : ℤ → Bool) (k : ℕ) (n : ℤ) → ((d : ℤ) → n ≤ℤ d → d <ℤ (n +ℤ pos k) → p d ≡ false) → row p k n ≡ []
unfolding row in_steps
row-none p zero n none = refl
row-none p (suc k) n none =
    row-first p false k (suc k) n refl (none n (omega (arith, signed)) (omega (arith, signed)))
    ∙ row-none p k (n +ℤ pos 1) (λ d low high. none d (omega (arith, signed, low)) (omega (arith, signed, high)))

row-found : (p : ℤ → Bool) (j k i : ℕ) (n e m : ℤ) → i ≡ j + suc k → e ≡ n +ℤ pos j → m ≡ e +ℤ pos 1 → p e ≡ true → ((d : ℤ) → n ≤ℤ d → d <ℤ e → p d ≡ false) → row p i n ≡ e ∷ row p k m
row-found p zero k i n e m count at next is none =
    let here : n ≡ e = omega (arith, signed, at) in
    let there : e +ℤ pos 1 ≡ m = omega (arith, signed, next) in
    row-first p true k i n (omega (arith, count)) (ap p here ∙ is)
    ∙ (ap (λ d. d ∷ row p k (d +ℤ pos 1)) here ∙ ap (λ d. e ∷ row p k d) there)
row-found p (suc j) k i n e m count at next is none =
    row-first p false (j + suc k) i n (omega (arith, count)) (none n (omega (arith, signed)) (omega (arith, signed, at)))
    ∙ row-found p j k (j + suc k) (n +ℤ pos 1) e m refl (omega (arith, signed, at)) next is (λ d low high. none d (omega (arith, signed, low)) high)

-- ---- the dates from a day on

pub days-none : (p : ℤ → Bool) (n : ℤ) → IsDayCursor n → ((d : ℤ) → n ≤ℤ d → IsDate d → p d ≡ false) → filter p (days_from n) ≡ []
unfolding days_from row
days-none p n is none =
    row-none p (dates_left n) n (λ d low high. none d low (omega (arith, signed, is.0, low), omega (arith, signed, is.1, high)))

pub days-first : (p : ℤ → Bool) (n e m : ℤ) → n ≤ℤ e → IsDate e → m ≡ e +ℤ pos 1 → p e ≡ true → ((d : ℤ) → n ≤ℤ d → d <ℤ e → p d ≡ false) → filter p (days_from n) ≡ e ∷ filter p (days_from m)
unfolding days_from row
days-first p n e m low is next passes none =
    row-found p (unsigned_abs (e -ℤ n)) (dates_left m) (dates_left n) n e m
    (omega (arith, signed, low, is.1, next)) (omega (arith, signed, low)) next passes none

pub days-few : (p : ℤ → Bool) (n : ℤ) → length (filter p (days_from n)) ≤ dates_left n
days-few p n = omega (arith, filter-few p (days_from n), length-days_from n)
