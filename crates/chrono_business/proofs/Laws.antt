-- The n-th open day from a day and back again: there is one, it comes back, and no earlier day has as many before it.
use Rattle.std.proofs.Common.{◌≡◌, ℕ, ◌≤◌, true, refl, arith, ℤ, pos, ◌+ℤ◌, ◌≤ℤ◌, ◌<ℤ◌}
use Rattle.std.proofs.lemmas.Int.{by_lt_z}
use Rattle.chrono_datetime.proofs.Signed.{signed}
use Rattle.chrono_datetime.proofs.CountBetween.{count_between-first}
use Rattle.chrono_business.specs.OpenDays.{Closed, IsNthOpenBack, IsNthOpenFrom, is_open, open_days}
use Rattle.chrono_business.proofs.Early.{one_if-true}
use Rattle.chrono_business.proofs.Ranks.{open-behind, open-rises}

-- up to a day before the n-th open one there are no more than n
pub nth_from-least : (c : Closed) (d e f : ℤ) (n : ℕ) → IsNthOpenFrom c d n e → d ≤ℤ f → f <ℤ e → open_days c d (f +ℤ pos 1) ≤ n
nth_from-least c d e f n nth low high =
    omega (arith, nth.count, open-rises c d (f +ℤ pos 1) e (omega (arith, signed, low)) (omega (arith, signed, high)))

-- so it comes before each other open day with as many before it
nth_from-ahead : (c : Closed) (d e f : ℤ) (n : ℕ) → IsNthOpenFrom c d n e → IsNthOpenFrom c d n f → f ≤ℤ e
nth_from-ahead c d e f n nth other =
    by_lt_z e f (λ lt. absurd (omega (arith, other.count, nth.count, open-behind c d e (e +ℤ pos 1) nth.not_before refl nth.passes, open-rises c d (e +ℤ pos 1) f (omega (arith, signed, nth.not_before)) (omega (arith, signed, lt)))))
    (λ ge. ge)

pub nth_from-one : (c : Closed) (d e f : ℤ) (n : ℕ) → IsNthOpenFrom c d n e → IsNthOpenFrom c d n f → e ≡ f
nth_from-one c d e f n nth other =
    omega (arith, signed, nth_from-ahead c d e f n nth other, nth_from-ahead c d f e n other nth)

-- from an open day on and back as far, and back and on
pub nth_from-turned : (c : Closed) (d e : ℤ) (n : ℕ) → is_open c d ≡ true → IsNthOpenFrom c d n e → IsNthOpenBack c e n d
nth_from-turned c d e n is nth =
    let end : ℤ = e +ℤ pos 1 in
    record {
      passes = is;
      not_after = nth.not_before;
      count = omega (arith, nth.count, open-behind c d e end nth.not_before refl nth.passes, count_between-first (is_open c) d (d +ℤ pos 1) end (omega (arith, signed, nth.not_before)) refl, one_if-true (is_open c d) is);
    }

pub nth_back-turned : (c : Closed) (d e : ℤ) (n : ℕ) → is_open c d ≡ true → IsNthOpenBack c d n e → IsNthOpenFrom c e n d
nth_back-turned c d e n is nth =
    let end : ℤ = d +ℤ pos 1 in
    record {
      passes = is;
      not_before = nth.not_after;
      count = omega (arith, nth.count, open-behind c e d end nth.not_after refl is, count_between-first (is_open c) e (e +ℤ pos 1) end (omega (arith, signed, nth.not_after)) refl, one_if-true (is_open c e) nth.passes);
    }
