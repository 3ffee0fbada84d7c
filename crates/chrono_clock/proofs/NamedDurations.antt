-- Which seconds and nanoseconds name a duration: from the test of the definition to the fact and back.
use Rattle.std.proofs.Common.{◌≡◌, ℕ, ◌<◌, ◌≤◌, true, ◌&&◌, nat_lt, nat_le, Option, arith, ℤ, unsigned_abs}
use Rattle.std.proofs.lemmas.Bool.Decides.{nat_tests}
use Rattle.std.specs.Option.{SomeIff}
use Rattle.chrono_text.proofs.AnswerLemmas.{by_test}
use Rattle.chrono_clock.specs.Duration.{IsDuration, duration_named, longest, nanos_of, nanos_per_second}

duration-fact : (n x : ℕ) → (nat_lt n 1_000_000_000 && nat_le x longest) ≡ true → (n < 1_000_000_000) × (x ≤ longest)
duration-fact n x e = (grind (arith, nat_tests), grind (arith, nat_tests))

duration-test : (n x : ℕ) → (n < 1_000_000_000) × (x ≤ longest) → (nat_lt n 1_000_000_000 && nat_le x longest) ≡ true
duration-test n x h = grind (arith, nat_tests, h.0, h.1)

pub duration_named-SomeIff : (o : Option ℤ) (s : ℤ) (n : ℕ) → SomeIff o ((n < nanos_per_second) × IsDuration (nanos_of s n)) (nanos_of s n) → o ≡ duration_named s n
unfolding duration_named
duration_named-SomeIff o s n given =
    by_test (nat_lt n nanos_per_second && nat_le (unsigned_abs (nanos_of s n)) longest) o (nanos_of s n) ((n < nanos_per_second) × IsDuration (nanos_of s n))
    (duration-fact n (unsigned_abs (nanos_of s n))) (duration-test n (unsigned_abs (nanos_of s n))) given
