-- What is printed is a text by its relation: fractions of a second, times and durations.
use Rattle.std.proofs.Common.{nat_le, Bool, true, false, negsuc, ◌==◌, if◌then◌else◌, pow-add, ◌≡◌, ◌≢◌, ℕ, zero, suc, ◌+◌, ◌-◌, ◌*◌, ◌/◌, ◌%◌, ◌^◌, ◌<◌, ◌≤◌, ℤ, pos, unsigned_abs, codes, List, [], ◌∷◌, ◌++◌, inl, inr, refl, sym, ap, ◌∙◌, subst, arith}
use Rattle.std.proofs.lemmas.Bool.{cases_eq}
use Rattle.std.proofs.lemmas.Nat.{mul-add-lt, mod_below, div_below, div-add-mod'}
use Rattle.std.proofs.Math.Nat.{pow-succ'}
use Rattle.std.specs.Ordering.{int_eq}
use Rattle.std.proofs.lemmas.Bool.Decides.{nat_tests}
use Rattle.std.proofs.lemmas.Int.{ints}
use Rattle.std.specs.Fmt.{decimal, sign_text}
use Rattle.std.specs.Int.{is_negative}
use Rattle.chrono_datetime.specs.Duration.{IsDuration, nanos_per_second}
use Rattle.chrono_text.specs.Text.{all_digits, duration_text, fraction_digits, fraction_text, subsecond_text, two_digits}
use Rattle.chrono_datetime.specs.TimeText.{time_text}
use Rattle.chrono_reading.specs.DurationTexts.{IsDurationText}
use Rattle.chrono_datetime.specs.Time.{FractionFits, IsTime, TimeOfDay, hour_of, minute_of, second_of, time_at}
use Rattle.chrono_text.specs.Fractions.{IsFractionText, IsPointText}
use Rattle.chrono_reading.specs.TimeTexts.{IsTimeText, time_shown}
use Rattle.chrono_text.proofs.Decimals.{fraction_digits-zero}
use Rattle.chrono_text.proofs.DigitLemmas.{by_size, digits_more, pow_pos}
use Rattle.chrono_text.proofs.TextLemmas.{unsigned_abs-zero}

-- a number is one value, or another
by_zero : (n : ℕ) → {P : Type 0} → (n ≡ 0 → P) → (n ≢ 0 → P) → P
by_zero n is not = elim (cases_eq n 0) [ inl h ↦ is h | inr h ↦ not h ]

-- a count of so many places, behind a point
point_of : (places count n : ℕ) → 1 ≤ places → places ≤ 9 → count < 10 ^ places → count * 10 ^ (9 - places) ≡ n → IsPointText (46 ∷ all_digits places count) n
point_of places count n some few below worth = record { places = places; count = count; some = (some, few); below = below; worth = worth; written = refl }

-- the fraction of a time, in three, six or nine digits
pub IsFractionText-subsecond : (n : ℕ) → n < 1_000_000_000 → IsFractionText (subsecond_text n) n
IsFractionText-subsecond n below = by_zero n
    (λ none. let is : [] ≡ subsecond_text n = grind arith in subst (λ (t : List ℕ). IsFractionText t n) is (inl (refl, none)))
    (λ some. by_zero (n % 1_000_000)
    (λ milli.
    let is : 46 ∷ all_digits 3 (n / 1_000_000) ≡ subsecond_text n = grind arith in
    subst (λ (t : List ℕ). IsFractionText t n) is (inr (point_of 3 (n / 1_000_000) n (omega arith) (omega arith) (omega arith) (omega arith))))
    (λ no_milli. by_zero (n % 1_000)
    (λ micro.
    let is : 46 ∷ all_digits 6 (n / 1_000) ≡ subsecond_text n = grind arith in
    subst (λ (t : List ℕ). IsFractionText t n) is (inr (point_of 6 (n / 1_000) n (omega arith) (omega arith) (omega arith) (omega arith))))
    (λ no_micro.
    let is : 46 ∷ all_digits 9 n ≡ subsecond_text n = grind arith in
    subst (λ (t : List ℕ). IsFractionText t n) is (inr (point_of 9 n n (omega arith) (omega arith) (omega arith) (omega arith))))))

-- digits up to the last that is not 0 are all those of a shorter count
record IsShort (p n : ℕ) : Type 0 where
  places : ℕ
  count : ℕ
  some : 1 ≤ places
  few : places ≤ p
  below : count < 10 ^ places
  worth : count * 10 ^ (p - places) ≡ n
  written : fraction_digits p n ≡ all_digits places count

more_digits : (p n : ℕ) → n ≢ 0 → fraction_digits (suc p) n ≡ (48 + n / 10 ^ p) ∷ fraction_digits p (n % 10 ^ p)
more_digits p n some = grind arith

one_digit : (d : ℕ) → all_digits 1 d ≡ (48 + d) ∷ []
one_digit d = let whole : d / 10 ^ 0 ≡ d = omega arith in ap (λ q. (48 + q) ∷ []) whole

below_more : (k d m : ℕ) → d < 10 → m < 10 ^ k → d * 10 ^ k + m < 10 ^ suc k
below_more k d m digit below = omega (arith, pow-succ' 10 k, mul-add-lt d (10 ^ k) m 10 digit below)

worth_one : (p d r n : ℕ) → r ≡ 0 → d * 10 ^ p + r ≡ n → d * 10 ^ (suc p - 1) ≡ n
worth_one p d r n none whole = let less : suc p - 1 ≡ p = omega arith in ap (λ k. d * 10 ^ k) less ∙ omega (arith, whole, none)

worth_more : (p k d m n r : ℕ) → k ≤ p → m * 10 ^ (p - k) ≡ r → d * 10 ^ p + r ≡ n → (d * 10 ^ k + m) * 10 ^ (suc p - suc k) ≡ n
worth_more p k d m n r few worth whole =
    let less : suc p - suc k ≡ p - k = omega arith in
    let sum : k + (p - k) ≡ p = omega arith in
    let unit : 10 ^ k * 10 ^ (p - k) ≡ 10 ^ p = sym (pow-add 10 k (p - k)) ∙ ap (λ j. 10 ^ j) sum in
    ap (λ j. (d * 10 ^ k + m) * 10 ^ j) less ∙ omega (arith, ap (λ z. d * z) unit, worth, whole)

short_of : (p n : ℕ) → n ≢ 0 → n < 10 ^ p → IsShort p n
short_of zero n some below = absurd (some (omega arith))
short_of (suc p) n some below =
    let unit : 10 ^ suc p ≡ 10 * 10 ^ p = pow-succ' 10 p in
    let digit = n / 10 ^ p in
    let small : digit < 10 = div_below n (10 ^ p) 10 (pow_pos p) (omega arith) in
    let whole = div-add-mod' n (10 ^ p) in
    by_zero (n % 10 ^ p)
    (λ none. record {
      places = 1;
      count = digit;
      some = omega arith;
      few = omega arith;
      below = omega arith;
      worth = worth_one p digit (n % 10 ^ p) n none whole;
      written = more_digits p n some ∙ ap (λ r. (48 + digit) ∷ fraction_digits p r) none ∙ ap (λ (t : List ℕ). (48 + digit) ∷ t) (fraction_digits-zero p) ∙ sym (one_digit digit);
    })
    (λ more.
    let rest = short_of p (n % 10 ^ p) more (mod_below n (10 ^ p) (pow_pos p)) in record {
      places = suc rest.places;
      count = digit * 10 ^ rest.places + rest.count;
      some = omega arith;
      few = omega (arith, rest.few);
      below = below_more rest.places digit rest.count small rest.below;
      worth = worth_more p rest.places digit rest.count n (n % 10 ^ p) rest.few rest.worth whole;
      written = more_digits p n some ∙ ap (λ (t : List ℕ). (48 + digit) ∷ t) rest.written ∙ sym (digits_more rest.places digit rest.count rest.below);
    })

past_test : {A : Type 0} (b : Bool) (x y : A) → (b ≡ true → ⊥) → y ≡ (if b then x else y)
past_test true x y fails = absurd (fails refl)
past_test false x y fails = refl

on_test : (b : Bool) (x y : List ℕ) → b ≡ true → x ≡ (if b then x else y)
on_test b x y holds = rw holds refl

is_zero : (n : ℕ) → (n == 0) ≡ true → n ≡ 0
is_zero n e = grind (arith, nat_tests)

point_text : (n : ℕ) → n ≢ 0 → 46 ∷ fraction_digits 9 n ≡ fraction_text n
point_text n some = past_test (n == 0) [] (46 ∷ fraction_digits 9 n) (λ e. some (is_zero n e))

-- the fraction of a duration, with no 0 at its end
pub IsFractionText-fraction : (n : ℕ) → n < 1_000_000_000 → IsFractionText (fraction_text n) n
IsFractionText-fraction n below = by_zero n
    (λ none. let is : [] ≡ fraction_text n = grind arith in subst (λ (t : List ℕ). IsFractionText t n) is (inl (refl, none)))
    (λ some.
    let short = short_of 9 n some (omega arith) in
    let is : 46 ∷ fraction_digits 9 n ≡ fraction_text n = point_text n some in
    subst (λ (t : List ℕ). IsFractionText t n) (ap (λ (t : List ℕ). 46 ∷ t) (sym short.written) ∙ is)
    (inr (point_of short.places short.count n short.some short.few short.below short.worth)))

int_zero : (x : ℤ) → int_eq x (pos 0) ≡ true → unsigned_abs x ≡ 0
int_zero (pos n) e = grind (arith, ints, nat_tests)
int_zero (negsuc n) e = cc

-- a sign and the seconds of a size
abbrev seconds_text : Bool → ℕ → List ℕ
seconds_text negative size =
    sign_text negative ++ codes "PT" ++ decimal (size / nanos_per_second) ++ fraction_text (size % nanos_per_second) ++ codes "S"

behind_sign : (negative : Bool) (size : ℕ) → sign_text negative ++ (codes "PT" ++ decimal (size / nanos_per_second) ++ fraction_text (size % nanos_per_second) ++ codes "S") ≡ seconds_text negative size
behind_sign true size = refl
behind_sign false size = refl

-- the signed seconds of a duration
pub IsDurationText-printed : (x : ℤ) → IsDuration x → IsDurationText (duration_text x) x
IsDurationText-printed x within = by_zero (unsigned_abs x)
    (λ none. subst (λ (y : ℤ). IsDurationText (duration_text y) y) (sym (unsigned_abs-zero x none)) (inl (refl, refl)))
    (λ some. inr (record {
      size = codes "PT" ++ decimal (unsigned_abs x / nanos_per_second) ++ fraction_text (unsigned_abs x % nanos_per_second) ++ codes "S";
      is_some = omega arith;
      is_duration = within;
      size_written = record {
        seconds = unsigned_abs x / nanos_per_second;
        nanos = unsigned_abs x % nanos_per_second;
        fraction = fraction_text (unsigned_abs x % nanos_per_second);
        names = omega arith;
        fraction_written = IsFractionText-fraction (unsigned_abs x % nanos_per_second) (omega arith);
        written = refl;
      };
      written = behind_sign (is_negative x) (unsigned_abs x) ∙ past_test (int_eq x (pos 0)) (codes "P0D") (seconds_text (is_negative x) (unsigned_abs x)) (λ e. some (int_zero x e));
    }))

-- ---- times

time_text-plain : (t : TimeOfDay) → t.fraction < 1_000_000_000 → two_digits (second_of t) ++ subsecond_text t.fraction
    ≡ (if nat_le nanos_per_second t.fraction then two_digits (second_of t + 1) ++ subsecond_text (t.fraction - nanos_per_second) else two_digits (second_of t) ++ subsecond_text t.fraction)
time_text-plain t plain = past_test (nat_le nanos_per_second t.fraction) _ _ (λ e. let more : 1_000_000_000 ≤ t.fraction = grind (arith, nat_tests) in omega arith)

time_text-leap : (t : TimeOfDay) → 1_000_000_000 ≤ t.fraction → two_digits (second_of t + 1) ++ subsecond_text (t.fraction - nanos_per_second)
    ≡ (if nat_le nanos_per_second t.fraction then two_digits (second_of t + 1) ++ subsecond_text (t.fraction - nanos_per_second) else two_digits (second_of t) ++ subsecond_text t.fraction)
time_text-leap t leap = on_test (nat_le nanos_per_second t.fraction) _ _ (grind (arith, nat_tests))

same_time : (t : TimeOfDay) (second fraction : ℕ) → second ≡ t.second → fraction ≡ t.fraction → record { second = second; fraction = fraction } ≡ t
same_time t second fraction e f = rw (e, f) refl

pub shown_plain : (hour minute second nanos : ℕ) → second < 60 → time_at hour minute second nanos ≡ time_shown hour minute second nanos
shown_plain hour minute second nanos h =
    past_test (second == 60) _ _ (λ e. let same : second ≡ 60 = grind (arith, nat_tests) in omega arith)

pub shown_leap : (hour minute second nanos : ℕ) → second ≡ 60 → time_shown hour minute second nanos ≡ time_at hour minute 59 (nanos_per_second + nanos)
shown_leap hour minute second nanos e = rw e refl

-- what is printed of a time is a text of it, if a leap fraction stands at second 59
pub IsTimeText-printed : (t : TimeOfDay) → IsTime t → FractionFits (second_of t) t.fraction → IsTimeText (time_text t) t
IsTimeText-printed t is fits = by_size 1_000_000_000 t.fraction
    (λ plain. record {
      hour = hour_of t;
      minute = minute_of t;
      second = second_of t;
      nanos = t.fraction;
      fraction = subsecond_text t.fraction;
      hour_in_day = omega (arith, is.second);
      minute_in_hour = omega arith;
      second_in_minute = omega arith;
      names = sym (shown_plain (hour_of t) (minute_of t) (second_of t) t.fraction (omega arith)) ∙ same_time t _ t.fraction (omega arith) refl;
      fraction_written = IsFractionText-subsecond t.fraction plain;
      written = ap (λ (end : List ℕ). two_digits (hour_of t) ++ 58 ∷ two_digits (minute_of t) ++ 58 ∷ end) (time_text-plain t plain);
    })
    (λ leap.
    let last : second_of t ≡ 59 = fits.1 leap in record {
      hour = hour_of t;
      minute = minute_of t;
      second = second_of t + 1;
      nanos = t.fraction - nanos_per_second;
      fraction = subsecond_text (t.fraction - nanos_per_second);
      hour_in_day = omega (arith, is.second);
      minute_in_hour = omega arith;
      second_in_minute = omega arith;
      names = shown_leap (hour_of t) (minute_of t) (second_of t + 1) (t.fraction - nanos_per_second) (omega arith) ∙ same_time t _ _ (omega arith) (omega arith);
      fraction_written = IsFractionText-subsecond (t.fraction - nanos_per_second) (omega (arith, fits.0));
      written = ap (λ (end : List ℕ). two_digits (hour_of t) ++ 58 ∷ two_digits (minute_of t) ++ 58 ∷ end) (time_text-leap t leap);
    })
