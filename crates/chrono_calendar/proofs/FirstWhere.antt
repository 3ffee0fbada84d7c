-- The first of the days from a day on that passes a test.
use Rattle.std.proofs.Common.{◌≡◌, ℕ, zero, suc, Bool, true, false, cond, Some, None, refl, sym, ap, ◌∙◌, arith, ℤ, pos, ◌+ℤ◌, ◌≤ℤ◌, ◌<ℤ◌}
use Rattle.std.proofs.lemmas.Bool.{false≢true}
use Rattle.std.proofs.lemmas.Int.{by_lt_z}
use Rattle.chrono_calendar.specs.Days.{IsDate}
use Rattle.chrono_calendar.specs.Recurrence.{IsFirstWhere, NoneFrom, first_of_days, first_where, past_last_date, dates_left}
use Rattle.chrono_text.proofs.Signed.{signed}

-- a walk over some days finds the first of them that passes
some_first : (p : ℤ → Bool) (k : ℕ) (n e : ℤ) (b : Bool) → p n ≡ b → cond b (Some n) (first_of_days p k (n +ℤ pos 1)) ≡ Some e → (first_of_days p k (n +ℤ pos 1) ≡ Some e → IsFirstWhere p (n +ℤ pos 1) e × (e <ℤ (n +ℤ pos 1 +ℤ pos k))) → IsFirstWhere p n e × (e <ℤ (n +ℤ pos (suc k)))
some_first p k n e true is found later =
    let same : n ≡ e = cc in (
      record {
        not_before = omega (arith, signed, same);
        passes = ap p (sym same) ∙ is;
        least = λ d low high. absurd (omega (arith, signed, same, low, high));
      },
      omega (arith, signed, same),
    )
some_first p k n e false is found later =
    let rest = later found in (
      record {
        not_before = omega (arith, signed, rest.0.not_before);
        passes = rest.0.passes;
        least = λ d low high.
            by_lt_z n d (λ lt. rest.0.least d (omega (arith, signed, lt)) high)
            (λ ge. let same : d ≡ n = omega (arith, signed, low, ge) in ap p same ∙ is);
      },
      omega (arith, signed, rest.1),
    )

first_of_days-Some : (p : ℤ → Bool) (k : ℕ) (n e : ℤ) → first_of_days p k n ≡ Some e → IsFirstWhere p n e × (e <ℤ (n +ℤ pos k))
unfolding first_of_days
first_of_days-Some p zero n e h = absurd cc
first_of_days-Some p (suc k) n e h = some_first p k n e (p n) refl h (first_of_days-Some p k (n +ℤ pos 1) e)

-- and finds it, if there is one among them
first_found : (p : ℤ → Bool) (k : ℕ) (n e : ℤ) (b : Bool) → p n ≡ b → IsFirstWhere p n e → (IsFirstWhere p (n +ℤ pos 1) e → first_of_days p k (n +ℤ pos 1) ≡ Some e) → cond b (Some n) (first_of_days p k (n +ℤ pos 1)) ≡ Some e
first_found p k n e true is h later =
    by_lt_z n e (λ lt. absurd (false≢true (sym (h.least n (omega (arith, signed)) lt) ∙ is)))
    (λ ge. let same : n ≡ e = omega (arith, signed, h.not_before, ge) in ap Some same)
first_found p k n e false is h later =
    by_lt_z n e (λ lt. later (record { not_before = omega (arith, signed, lt); passes = h.passes; least = λ d low high. h.least d (omega (arith, signed, low)) high }))
    (λ ge. let same : e ≡ n = omega (arith, signed, h.not_before, ge) in absurd (false≢true (sym is ∙ sym (ap p same) ∙ h.passes)))

first_of_days-found : (p : ℤ → Bool) (k : ℕ) (n e : ℤ) → IsFirstWhere p n e → e <ℤ (n +ℤ pos k) → first_of_days p k n ≡ Some e
unfolding first_of_days
first_of_days-found p zero n e h within = absurd (omega (arith, signed, h.not_before, within))
first_of_days-found p (suc k) n e h within =
    first_found p k n e (p n) refl h (λ g. first_of_days-found p k (n +ℤ pos 1) e g (omega (arith, signed, within)))

-- where none of them passes there is none
no_first : (p : ℤ → Bool) (k : ℕ) (n : ℤ) (b : Bool) → p n ≡ b → b ≡ false → first_of_days p k (n +ℤ pos 1) ≡ None → cond b (Some n) (first_of_days p k (n +ℤ pos 1)) ≡ None
no_first p k n true is h later = absurd (false≢true (sym h))
no_first p k n false is h later = later

first_of_days-None : (p : ℤ → Bool) (k : ℕ) (n : ℤ) → ((d : ℤ) → n ≤ℤ d → d <ℤ (n +ℤ pos k) → p d ≡ false) → first_of_days p k n ≡ None
unfolding first_of_days
first_of_days-None p zero n h = refl
first_of_days-None p (suc k) n h =
    no_first p k n (p n) refl (h n (omega (arith, signed)) (omega (arith, signed)))
    (first_of_days-None p k (n +ℤ pos 1) (λ d low high. h d (omega (arith, signed, low)) (omega (arith, signed, high))))

-- and where there is none, none of them passes
first_of_days-nowhere : (p : ℤ → Bool) (k : ℕ) (n : ℤ) → first_of_days p k n ≡ None → (d : ℤ) → n ≤ℤ d → d <ℤ (n +ℤ pos k) → p d ≡ false
unfolding first_of_days
first_of_days-nowhere p zero n h d low high = absurd (omega (arith, signed, low, high))
first_of_days-nowhere p (suc k) n h d low high =
    let tried = nowhere_first p k n (p n) refl h in
    by_lt_z n d (λ lt. first_of_days-nowhere p k (n +ℤ pos 1) tried.1 d (omega (arith, signed, lt)) (omega (arith, signed, high)))
    (λ ge. let same : d ≡ n = omega (arith, signed, low, ge) in ap p same ∙ tried.0)
  where
    nowhere_first : (p : ℤ → Bool) (k : ℕ) (n : ℤ) (b : Bool) → p n ≡ b → cond b (Some n) (first_of_days p k (n +ℤ pos 1)) ≡ None → (p n ≡ false) × (first_of_days p k (n +ℤ pos 1) ≡ None)
    nowhere_first p k n true is found = absurd cc
    nowhere_first p k n false is found = (is, found)

-- ---- the first of all dates from a date on

end_of_dates : (n : ℤ) → IsDate n → n +ℤ pos (dates_left n) ≡ past_last_date
end_of_dates n h = omega (arith, signed, h.0, h.1)

pub first_where-Some : (p : ℤ → Bool) (n e : ℤ) → IsDate n → first_where p n ≡ Some e → IsFirstWhere p n e × IsDate e
unfolding first_where
first_where-Some p n e h found =
    let first = first_of_days-Some p (dates_left n) n e found in
    (first.0, (omega (arith, signed, h.0, first.0.not_before), omega (arith, signed, first.1, end_of_dates n h)))

pub first_where-found : (p : ℤ → Bool) (n e : ℤ) → IsDate n → IsFirstWhere p n e → IsDate e → first_where p n ≡ Some e
unfolding first_where
first_where-found p n e h first date =
    first_of_days-found p (dates_left n) n e first (omega (arith, signed, date.1, end_of_dates n h))

pub first_where-None : (p : ℤ → Bool) (n : ℤ) → IsDate n → NoneFrom p n → first_where p n ≡ None
unfolding first_where
first_where-None p n h none =
    first_of_days-None p (dates_left n) n (λ d low high. none d low (omega (arith, signed, h.0, low), omega (arith, signed, high, end_of_dates n h)))

pub first_where-nowhere : (p : ℤ → Bool) (n : ℤ) → IsDate n → first_where p n ≡ None → NoneFrom p n
unfolding first_where
first_where-nowhere p n h none =
    λ d low date. first_of_days-nowhere p (dates_left n) n none d low (omega (arith, signed, date.1, end_of_dates n h))
