-- How the text of a time falls into its parts.
use Rattle.std.proofs.Common.{◌+◌, ◌*◌, refl, subst, ◌≡◌, ℕ, ◌<◌, ◌≤◌, List, ◌∷◌, ◌++◌, take, drop, Option, Some, None, sym, ap, ◌∙◌, arith}
use Rattle.std.specs.Option.{SomeIff}
use Rattle.std.proofs.lemmas.Option.{same_Some}
use Rattle.chrono_text.specs.Text.{two_digits}
use Rattle.chrono_datetime.specs.Time.{TimeOfDay}
use Rattle.chrono_text.specs.Fractions.{IsFractionText}
use Rattle.chrono_reading.specs.TimeTexts.{IsTimeText, SameClock, time_shown}
use Rattle.chrono_datetime.specs.Time.{time_at}
use Rattle.chrono_text.proofs.DigitLemmas.{by_size}
use Rattle.chrono_text.proofs.FractionLemmas.{IsFractionText-below, IsFractionText-same}
use Rattle.chrono_reading.proofs.PrintedLemmas.{shown_leap, shown_plain}

-- the numbers of a clock, which take the first eight bytes
abbrev pub clock_digits : ℕ → ℕ → ℕ → List ℕ
clock_digits hour minute second = two_digits hour ++ 58 ∷ two_digits minute ++ 58 ∷ two_digits second

-- the fraction is what follows them
pub IsTimeText-clock : (text : List ℕ) (t : TimeOfDay) (is : IsTimeText text t) → clock_digits is.hour is.minute is.second ≡ take 8 text
IsTimeText-clock text t is = ap (take 8) is.written

pub IsTimeText-fraction : (text rest : List ℕ) (t : TimeOfDay) (is : IsTimeText text t) → rest ≡ drop 8 text → IsFractionText rest is.nanos
IsTimeText-fraction text rest t is e = rw (sym (e ∙ sym (ap (drop 8) is.written))) at is.fraction_written

-- the time of a clock is found by its numbers
from_shown : (r : Option TimeOfDay) (P : Type 0) (shown t : TimeOfDay) → SomeIff r P shown → P → shown ≡ t → r ≡ Some t
from_shown (Some x) P shown t given holds e = ap Some (given.1 ∙ e)
from_shown None P shown t given holds e = absurd (given holds)

pub time_shown-found : (r : Option TimeOfDay) (read : ℕ × ℕ × ℕ) (hour minute second nanos other : ℕ) (t : TimeOfDay)
    → SomeIff r ((read.0 < 24) × (read.1 < 60) × (read.2 ≤ 60)) (time_shown read.0 read.1 read.2 nanos)
    → Some read ≡ Some (hour, minute, second) → Some nanos ≡ Some other
    → hour < 24 → minute < 60 → second ≤ 60 → time_shown hour minute second other ≡ t → r ≡ Some t
time_shown-found r read hour minute second nanos other t given clock fraction h m s names =
    let same = same_Some {A = ℕ × ℕ × ℕ} _ _ clock in
    let at_hour = ap (λ (p : ℕ × ℕ × ℕ). p.0) same in
    let at_minute = ap (λ (p : ℕ × ℕ × ℕ). p.1) same in
    let at_second = ap (λ (p : ℕ × ℕ × ℕ). p.2) same in
    let at_nanos = same_Some nanos other fraction in
    from_shown r _ _ t given (omega arith, omega arith, omega arith) (rw (at_hour, at_minute, at_second, at_nanos) names)

-- the parts of a time that a clock shows, by whether the second is 60
record ShowsAs (hour minute second nanos : ℕ) (t : TimeOfDay) : Type 0 where
  leap : second ≡ 60 → (hour * 3_600 + minute * 60 + 59 ≡ t.second) × (1_000_000_000 + nanos ≡ t.fraction)
  plain : second < 60 → (hour * 3_600 + minute * 60 + second ≡ t.second) × (nanos ≡ t.fraction)

shows : (hour minute second nanos : ℕ) (t : TimeOfDay) → time_shown hour minute second nanos ≡ t → ShowsAs hour minute second nanos t
shows hour minute second nanos t e = record {
  leap = λ is. let made : time_at hour minute 59 (1_000_000_000 + nanos) ≡ t = sym (shown_leap hour minute second nanos is) ∙ e in
      (ap (λ (u : TimeOfDay). u.second) made, ap (λ (u : TimeOfDay). u.fraction) made);
  plain = λ is. let made : time_at hour minute second nanos ≡ t = shown_plain hour minute second nanos is ∙ e in
      (ap (λ (u : TimeOfDay). u.second) made, ap (λ (u : TimeOfDay). u.fraction) made);
}

record SameShown (text other : List ℕ) (t : TimeOfDay) (is : IsTimeText text t) (also : IsTimeText other t) : Type 0 where
  hour : is.hour ≡ also.hour
  minute : is.minute ≡ also.minute
  second : is.second ≡ also.second
  nanos : is.nanos ≡ also.nanos

same_shown : (text other : List ℕ) (t : TimeOfDay) (is : IsTimeText text t) (also : IsTimeText other t) → SameShown text other t is also
same_shown text other t is also =
    let one = shows is.hour is.minute is.second is.nanos t is.names in
    let two = shows also.hour also.minute also.second also.nanos t also.names in
    let small = IsFractionText-below is.fraction is.nanos is.fraction_written in
    let few = IsFractionText-below also.fraction also.nanos also.fraction_written in
    by_size 60 is.second
    (λ first. by_size 60 also.second
    (λ second. let a = one.plain first in let b = two.plain second in record { hour = omega (arith, is.minute_in_hour, also.minute_in_hour); minute = omega (arith, is.minute_in_hour, also.minute_in_hour); second = omega (arith, is.minute_in_hour, also.minute_in_hour); nanos = omega arith })
    (λ leap. let a = one.plain first in let b = two.leap (omega (arith, also.second_in_minute)) in absurd (omega arith)))
    (λ sixty. by_size 60 also.second
    (λ second. let a = one.leap (omega (arith, is.second_in_minute)) in let b = two.plain second in absurd (omega arith))
    (λ leap.
    let a = one.leap (omega (arith, is.second_in_minute)) in
    let b = two.leap (omega (arith, also.second_in_minute)) in
    record { hour = omega (arith, is.minute_in_hour, also.minute_in_hour); minute = omega (arith, is.minute_in_hour, also.minute_in_hour); second = omega (arith, is.second_in_minute, also.second_in_minute); nanos = omega arith }))

clock_same : (h k m l s j : ℕ) → h ≡ k → m ≡ l → s ≡ j → clock_digits h m s ≡ clock_digits k l j
clock_same h k m l s j hour minute second = rw (hour, minute, second) refl

-- two texts of one time show the same, up to the zeros at the end of the fraction
pub IsTimeText-same : (text other : List ℕ) (t : TimeOfDay) → IsTimeText text t → IsTimeText other t → SameClock text other
IsTimeText-same text other t is also =
    let same = same_shown text other t is also in
    let fraction : IsFractionText (drop 8 text) also.nanos = subst (λ n. IsFractionText (drop 8 text) n) same.nanos (IsTimeText-fraction text (drop 8 text) t is refl) in (
      sym (IsTimeText-clock text t is) ∙ clock_same is.hour also.hour is.minute also.minute is.second also.second same.hour same.minute same.second ∙ IsTimeText-clock other t also,
      IsFractionText-same (drop 8 text) (drop 8 other) also.nanos fraction (IsTimeText-fraction other (drop 8 other) t also refl),
    )
