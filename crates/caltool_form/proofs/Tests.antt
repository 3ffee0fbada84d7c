-- Which parts name a time of day: from the test of the definition to the fact and back.
use Rattle.std.proofs.Common.{◌≡◌, ℕ, Bool, true, ◌&&◌, ◌||◌, nat_lt, nat_eq, Option, arith}
use Rattle.std.proofs.lemmas.Bool.Decides.{nat_tests}
use Rattle.std.specs.Option.{SomeIff}
use Rattle.chrono_clock.specs.Time.{TimeOfDay, IsClock, FractionFits, time_at}
use Rattle.chrono_text.proofs.AnswerLemmas.{by_test}
use Rattle.caltool_command.specs.declared.arguments.ClockTime.{ClockTime}
use Rattle.caltool_form.specs.Named.{time_named}

is_clock : ℕ → ℕ → ℕ → ℕ → Bool
is_clock h m s n =
    (nat_lt h 24 && nat_lt m 60 && nat_lt s 60) && (nat_lt n 2_000_000_000 && (nat_lt n 1_000_000_000 || nat_eq s 59))

clock-fact : (h m s n : ℕ) → is_clock h m s n ≡ true → IsClock h m s × FractionFits s n
unfolding is_clock
clock-fact h m s n e = (record { hour_in_day = grind (arith, nat_tests); minute_in_hour = grind (arith, nat_tests); second_in_minute = grind (arith, nat_tests) }, (grind (arith, nat_tests), λ leap. grind (arith, nat_tests)))

clock-test : (h m s n : ℕ) → IsClock h m s × FractionFits s n → is_clock h m s n ≡ true
unfolding is_clock
clock-test h m s n k = grind (arith, nat_tests, k.0.hour_in_day, k.0.minute_in_hour, k.0.second_in_minute, k.1.0, k.1.1)

pub time_named-SomeIff : (o : Option TimeOfDay) (t : ClockTime) → SomeIff o (IsClock t.hour t.minute t.second × FractionFits t.second t.nanosecond) (time_at t.hour t.minute t.second t.nanosecond) → o ≡ time_named t
unfolding time_named is_clock
time_named-SomeIff o t given =
    by_test (is_clock t.hour t.minute t.second t.nanosecond) o (time_at t.hour t.minute t.second t.nanosecond) (IsClock t.hour t.minute t.second × FractionFits t.second t.nanosecond)
    (clock-fact t.hour t.minute t.second t.nanosecond) (clock-test t.hour t.minute t.second t.nanosecond) given
