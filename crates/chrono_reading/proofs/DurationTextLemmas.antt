-- How the text of a duration falls into its parts.
use Rattle.std.proofs.Common.{◌⊎◌, Bool, true, false, subst, Option, Some, None, ℤ, pos, negsuc, neg_ℤ, unsigned_abs, ◌≡◌, ◌≢◌, ℕ, ◌+◌, ◌*◌, ◌^◌, ◌<◌, ◌≤◌, List, ◌∷◌, ◌++◌, length, length-append, get_or, take, drop, codes, inl, inr, refl, sym, ap, ◌∙◌, arith}
use Rattle.std.specs.Fmt.{decimal, sign_text}
use Rattle.std.specs.Int.{is_negative}
use Rattle.std.specs.Str.Parse.{AllDigits}
use Rattle.std.proofs.lemmas.Fmt.{decimal_is_IsNumeral}
use Rattle.std.proofs.lemmas.List.{get_or_append_left, get_or_at, take_at, drop_at}
use Rattle.std.proofs.lemmas.Option.{same_Some, some_pair_parts}
use Rattle.std.proofs.lemmas.Str.Parse.{digit_at}
use Rattle.std.specs.Option.{SomeIff}
use Rattle.chrono_datetime.specs.Duration.{longest, nanos_per_second}
use Rattle.chrono_reading.specs.DurationTexts.{IsDurationText, IsSecondsText, SameSeconds}
use Rattle.chrono_text.specs.Fractions.{IsFractionText}
use Rattle.chrono_text.proofs.DigitLemmas.{by_size}
use Rattle.chrono_text.proofs.FractionLemmas.{IsFractionText-below, IsFractionText-same}
use Rattle.chrono_text.proofs.TextLemmas.{is_negative-pos}

-- what stands behind the digits
fits_front : (digits rest text : List ℕ) (n : ℕ) → digits ++ rest ≡ text → IsFractionText rest n → length digits < length text → get_or text (length digits) 0 ≡ 46
fits_front digits rest text n e (inl is) more = absurd (omega (arith, ap length is.0, ap length e, length-append digits rest))
fits_front digits rest text n e (inr is) more = ap (λ (t : List ℕ). get_or t (length digits) 0) (sym e) ∙ ap (λ (t : List ℕ). get_or (digits ++ t) (length digits) 0) (sym is.written) ∙ get_or_at digits 46 _ 0 (length digits) refl

-- digits end where the first point stands, if what follows them is nothing or begins with a point
pub point_between : (digits rest text : List ℕ) (n at : ℕ) → digits ++ rest ≡ text → AllDigits 10 digits → IsFractionText rest n
    → at ≤ length text → ((k : ℕ) → k < at → get_or text k 0 ≢ 46) → (at < length text → get_or text at 0 ≡ 46) → at ≡ length digits
point_between digits rest text n at e all fraction within first point =
    let size : length text ≡ length digits + length rest = ap length (sym e) ∙ length-append digits rest in
    by_size at (length digits)
    (λ past. absurd (first (length digits) past (fits_front digits rest text n e fraction (omega arith))))
    (λ not_past. by_size (length digits) at
    (λ inside.
    let digit = digit_at digits at all inside in
    let same : get_or text at 0 ≡ get_or digits at 0 = ap (λ (t : List ℕ). get_or t at 0) (sym e) ∙ get_or_append_left digits rest 0 at inside in
    absurd (omega (arith, point (omega arith))))
    (λ reached. omega arith))

-- the seconds in decimal and the fraction of a number are what stands before its point, and from there on
pub seconds_cut : (number fraction : List ℕ) (seconds nanos at : ℕ) → number ≡ decimal seconds ++ fraction → seconds < 10 ^ 18 → IsFractionText fraction nanos
    → at ≤ length number → ((k : ℕ) → k < at → get_or number k 0 ≢ 46) → (at < length number → get_or number at 0 ≡ 46)
    → (decimal seconds ≡ take at number) × IsFractionText (drop at number) nanos
seconds_cut number fraction seconds nanos at e small fraction_is within first point =
    let numeral = decimal_is_IsNumeral seconds (omega arith) in
    let here = point_between (decimal seconds) fraction number nanos at (sym e) numeral.0.1 fraction_is within first point in
    let front : decimal seconds ≡ take at number = sym (take_at (decimal seconds) fraction at (sym here)) ∙ ap (take at) (sym e) in
    let back : fraction ≡ drop at number = sym (drop_at (decimal seconds) fraction at (sym here)) ∙ ap (drop at) (sym e) in
    (front, subst (λ (t : List ℕ). IsFractionText t nanos) back fraction_is)

-- both numbers found
pub both_found : (s t n k : ℕ) → Some s ≡ Some t → Some n ≡ Some k → ◌≡◌ {A = Option (ℕ × ℕ)} (Some (s, n)) (Some (t, k))
both_found s t n k first second = rw (same_Some s t first, same_Some n k second) refl

-- a duration has fewer seconds than that
pub seconds_small : (text : List ℕ) (size : ℕ) (is : IsSecondsText text size) → size ≤ longest → is.seconds < 10 ^ 18
seconds_small text size is within = omega (arith, is.names)

by_given : (r : Option ℤ) (made size : ℕ) → made ≡ size → SomeIff r ((0 < made) × (made ≤ longest)) (pos made) → 0 < size → size ≤ longest → r ≡ Some (pos size)
by_given (Some x) made size same given some within = ap Some (given.1 ∙ ap pos same)
by_given None made size same given some within = absurd (given (omega arith, omega arith))

-- and is found by them
pub duration_found : (r : Option ℤ) (s t n k size : ℕ) → (let made = s * nanos_per_second + n in SomeIff r ((0 < made) × (made ≤ longest)) (pos made))
    → ◌≡◌ {A = Option (ℕ × ℕ)} (Some (s, n)) (Some (t, k)) → t * nanos_per_second + k ≡ size → 0 < size → size ≤ longest → r ≡ Some (pos size)
duration_found r s t n k size given found names some within =
    let parts = some_pair_parts s t n k found in
    let same : s * nanos_per_second + n ≡ size = rw (parts.0, parts.1) names in
    by_given r (s * nanos_per_second + n) size same given some within

-- a size, from 1 to that of the longest durations, and its text
pub record IsSizeOf (text : List ℕ) (x : ℤ) : Type 0 where
  pub some : 0 < unsigned_abs x
  pub within : unsigned_abs x ≤ longest
  pub written : IsSecondsText text (unsigned_abs x)

pub first_p : (text : List ℕ) (size : ℕ) → IsSecondsText text size → get_or text 0 0 ≡ 80
first_p text size is = ap (λ (t : List ℕ). get_or t 0 0) (sym is.written)

-- behind a `-` stands the size of a negative duration
pub minus_size : (text behind : List ℕ) (x : ℤ) → 45 ∷ behind ≡ text → IsDurationText text x → (x ≡ neg_ℤ (pos (unsigned_abs x))) × IsSizeOf behind x
minus_size text behind x e (inl zero_is) = absurd (omega (arith, ap (λ (t : List ℕ). get_or t 0 0) (e ∙ zero_is.0)))
minus_size text behind (pos n) e (inr is) =
    let plain : is.size ≡ text = ap (λ b. sign_text b ++ is.size) (sym (is_negative-pos n)) ∙ is.written in
    absurd (omega (arith, first_p is.size n is.size_written, ap (λ (t : List ℕ). get_or t 0 0) (plain ∙ sym e)))
minus_size text behind (negsuc n) e (inr is) =
    let same : is.size ≡ behind = ap (drop 1) (is.written ∙ sym e) in
    (refl, record { some = is.is_some; within = is.is_duration; written = rw same at is.size_written })

-- with no `-` it is the size of one past zero
pub plain_size : (text : List ℕ) (x : ℤ) → ((behind : List ℕ) → 45 ∷ behind ≢ text) → (text ≢ codes "P0D") → IsDurationText text x → (x ≡ pos (unsigned_abs x)) × IsSizeOf text x
plain_size text x no_minus not_zero (inl zero_is) = absurd (not_zero zero_is.0)
plain_size text (pos n) no_minus not_zero (inr is) =
    let plain : is.size ≡ text = ap (λ b. sign_text b ++ is.size) (sym (is_negative-pos n)) ∙ is.written in
    (refl, record { some = is.is_some; within = is.is_duration; written = subst (λ (t : List ℕ). IsSecondsText t n) plain is.size_written })
plain_size text (negsuc n) no_minus not_zero (inr is) = absurd (no_minus is.size is.written)

pub negated : (made found x : ℤ) → made ≡ neg_ℤ found → Some found ≡ Some (pos (unsigned_abs x)) → x ≡ neg_ℤ (pos (unsigned_abs x)) → Some made ≡ Some x
negated made found x is size same = ap Some (is ∙ ap neg_ℤ (same_Some found _ size) ∙ sym same)

-- ---- the texts of one duration

-- a size has one number of whole seconds and one fraction
parts_same : (text other : List ℕ) (size : ℕ) (is : IsSecondsText text size) (also : IsSecondsText other size) → (is.seconds ≡ also.seconds) × (is.nanos ≡ also.nanos)
parts_same text other size is also =
    let small = IsFractionText-below is.fraction is.nanos is.fraction_written in
    let few = IsFractionText-below also.fraction also.nanos also.fraction_written in
    (omega (arith, is.names, also.names), omega (arith, is.names, also.names))

-- the sign, the whole seconds and the fraction of a text
signed_seconds : (negative : Bool) (size text fraction : List ℕ) (s t : ℕ) → s ≡ t → codes "PT" ++ decimal s ++ fraction ++ codes "S" ≡ size → sign_text negative ++ size ≡ text
    → sign_text negative ++ codes "PT" ++ decimal t ++ fraction ++ codes "S" ≡ text
signed_seconds true size text fraction s t same inner outer = rw (← same) (ap (λ (u : List ℕ). 45 ∷ u) inner ∙ outer)
signed_seconds false size text fraction s t same inner outer = rw (← same) (inner ∙ outer)

not_zero : (x : ℤ) → x ≡ pos 0 → 0 < unsigned_abs x → ⊥
not_zero x is some = omega (arith, ap unsigned_abs is)

-- two texts of one duration are the same but for the zeros at the end of the fraction
pub IsDurationText-same : (text other : List ℕ) (x : ℤ) → IsDurationText text x → IsDurationText other x → (text ≡ other) ⊎ SameSeconds text other
IsDurationText-same text other x (inl is) (inl also) = inl (is.0 ∙ sym also.0)
IsDurationText-same text other x (inl is) (inr also) = absurd (not_zero x is.1 also.is_some)
IsDurationText-same text other x (inr is) (inl also) = absurd (not_zero x also.1 is.is_some)
IsDurationText-same text other x (inr is) (inr also) =
    let one = is.size_written in
    let two = also.size_written in
    let same = parts_same is.size also.size (unsigned_abs x) one two in
    let fraction : IsFractionText one.fraction two.nanos = subst (λ n. IsFractionText one.fraction n) same.1 one.fraction_written in
    inr (record {
      negative = is_negative x;
      seconds = two.seconds;
      fraction = one.fraction;
      other_fraction = two.fraction;
      same_fraction = IsFractionText-same one.fraction two.fraction two.nanos fraction two.fraction_written;
      written = signed_seconds (is_negative x) is.size text one.fraction one.seconds two.seconds same.0 one.written is.written;
      other_written = signed_seconds (is_negative x) also.size other two.fraction two.seconds two.seconds refl two.written also.written;
    })
