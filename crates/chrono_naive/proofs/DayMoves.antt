-- Which days are dates, and what is known of a date that is some days from another.
use Rattle.std.proofs.Common.{◌≡◌, ◌↔◌, ℕ, zero, suc, min, Option, Some, None, IsSome, IfSome, refl, ◌∙◌, arith, ℤ, pos, negsuc, neg_ℤ, ◌+ℤ◌, ◌-ℤ◌}
use Rattle.std.specs.Option.{SomeIff}
use Rattle.std.proofs.Math.IntN.{neg_ℤ-neg_ℤ}
use Rattle.chrono_clock.specs.Duration.{nanos_per_day, whole_units}
use Rattle.chrono_calendar.specs.Days.{IsDate, date_of_day}
use Rattle.chrono_calendar.proofs.Dates.{date_of_day-SomeIff}
pub use Rattle.chrono_calendar.proofs.NamedDates.{none-date_of_day, some-date_of_day}
use Rattle.chrono_calendar.proofs.Signed.{signed}

-- there is an answer exactly if the number is a date's
pub IsSome-date_of_day : (o : Option ℤ) (n : ℤ) → o ≡ date_of_day n → IsSome o ↔ IsDate n
IsSome-date_of_day None n h = ((λ e. cc), (λ date. absurd (none-date_of_day n h date)))
IsSome-date_of_day (Some e) n h = ((λ _. (some-date_of_day n e h).0), (λ _. refl))

-- and the answer has that number
pub IfSome-date_of_day : (o : Option ℤ) (n : ℤ) → o ≡ date_of_day n → IfSome o (λ e. e ≡ n)
IfSome-date_of_day None n h = tt
IfSome-date_of_day (Some e) n h = (some-date_of_day n e h).1

-- two numbers that are one where either is a date's
alike : (o : Option ℤ) (a b : ℤ) → o ≡ date_of_day a → (IsDate a → a ≡ b) → (IsDate b → a ≡ b) → SomeIff o (IsDate b) b
alike None a b h f g = λ date. none-date_of_day a h (rw (g date) date)
alike (Some e) a b h f g =
    let found = some-date_of_day a e h in
    (rw (f found.0) at found.0, found.1 ∙ f found.0)

-- a move by more days than a signed number counts ends at no date, and nor does the move by the largest such number
pub date_of_day-clipped_later : (n : ℤ) (k : ℕ) → IsDate n → date_of_day (n +ℤ pos (min k 9_223_372_036_854_775_807)) ≡ date_of_day (n +ℤ pos k)
date_of_day-clipped_later n k h =
    let near = n +ℤ pos (min k 9_223_372_036_854_775_807) in
    date_of_day-SomeIff (date_of_day near) (n +ℤ pos k)
    (alike (date_of_day near) near (n +ℤ pos k) refl (λ d. omega (arith, signed, d.0, d.1, h.0, h.1)) (λ d. omega (arith, signed, d.0, d.1, h.0, h.1)))

pub date_of_day-clipped_earlier : (n : ℤ) (k : ℕ) → IsDate n → date_of_day (n -ℤ pos (min k 9_223_372_036_854_775_807)) ≡ date_of_day (n -ℤ pos k)
date_of_day-clipped_earlier n k h =
    let near = n -ℤ pos (min k 9_223_372_036_854_775_807) in
    date_of_day-SomeIff (date_of_day near) (n -ℤ pos k)
    (alike (date_of_day near) near (n -ℤ pos k) refl (λ d. omega (arith, signed, d.0, d.1, h.0, h.1)) (λ d. omega (arith, signed, d.0, d.1, h.0, h.1)))

-- the date some days later, as many days back
pub IfSome-later : (o : Option ℤ) (n k : ℤ) → o ≡ date_of_day (n +ℤ k) → IfSome o (λ e. e -ℤ k ≡ n)
IfSome-later None n k h = tt
IfSome-later (Some e) n k h = let found = some-date_of_day (n +ℤ k) e h in omega (arith, signed, found.1)

-- and the date some days earlier, as many days on
pub IfSome-earlier : (o : Option ℤ) (n k : ℤ) → o ≡ date_of_day (n -ℤ k) → IfSome o (λ e. e +ℤ k ≡ n)
IfSome-earlier None n k h = tt
IfSome-earlier (Some e) n k h = let found = some-date_of_day (n -ℤ k) e h in omega (arith, signed, found.1)

-- rounding towards zero is alike for a duration and for the one the other way
pub whole_units-neg : (x : ℤ) → neg_ℤ (whole_units nanos_per_day x) ≡ whole_units nanos_per_day (neg_ℤ x)
whole_units-neg (pos zero) = refl
whole_units-neg (pos (suc n)) = refl
whole_units-neg (negsuc n) = neg_ℤ-neg_ℤ (whole_units nanos_per_day (pos (suc n)))
