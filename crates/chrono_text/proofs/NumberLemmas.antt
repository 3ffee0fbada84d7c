-- The whole numbers that texts write, and where they stand in a text.
use Rattle.std.proofs.Common.{◌≡◌, ◌≢◌, ◌==◌, ◌<◌, ◌≤◌, ◌+◌, ◌-◌, ◌^◌, min, ℕ, zero, suc, Bool, true, false, if◌then◌else◌, inl, inr, List, [], ◌∷◌, ◌++◌, length, get_or, take, drop, refl, ap, sym, ◌∙◌, subst, arith, ℤ, pos, negsuc, neg_ℤ, int_le, FitsSigned, Option, Some, None, take-append-drop, drop-cons, length-take}
use mir.Val.{bool_byte}
use Rattle.std.specs.Bool.{MatchBool}
use Rattle.std.specs.Fmt.{decimal}
use Rattle.std.specs.Int.{IsInRange, w64}
use Rattle.std.specs.List.{AllByRecursion}
use Rattle.std.specs.Option.{option_map, option_and_then}
use Rattle.std.specs.Str.{all_ascii_digits}
use Rattle.std.specs.Str.Parse.{AllDigits, digits_value}
use Rattle.std.proofs.lemmas.Bool.{cases_eq, cases_lt, eq-eqb, le-leb, ne_eqb}
use Rattle.std.proofs.lemmas.Fmt.{decimal_is_IsNumeral, decimal_nonempty}
use Rattle.std.proofs.lemmas.Int.{ints}
use Rattle.std.proofs.lemmas.List.{get_or-take}
use Rattle.std.proofs.lemmas.Option.{cond_some}
use Rattle.std.proofs.lemmas.Str.Parse.{digit_at, digit_from_value, tells_all_ascii_digits}
use Rattle.chrono_text.specs.Numbers.{AreDigits, StandsBefore, WritesNumber, count_of, i64_of, natural_of, number_of, signed, to_i64, up_to, value_of}
use Rattle.chrono_text.proofs.DigitLemmas.{natural_none, natural_some}
use Rattle.chrono_text.proofs.Types.{i64_read, i64_written}

-- ---- the texts of numbers

digits_from_test : (xs : List ℕ) → all_ascii_digits xs ≡ true → AllByRecursion (IsInRange 48 57) xs
digits_from_test [] e = tt
digits_from_test (x ∷ xs) e = let k = tells_all_ascii_digits.parts x xs e in (k.0, digits_from_test xs k.1)

test_from_digits : (xs : List ℕ) → AllByRecursion (IsInRange 48 57) xs → all_ascii_digits xs ≡ true
test_from_digits [] h = refl
test_from_digits (x ∷ xs) h = tells_all_ascii_digits.more x xs h.0 (test_from_digits xs h.1)

pub natural_read : (text : List ℕ) (n : ℕ) → natural_of text ≡ Some n → AreDigits text × (n ≡ value_of text)
unfolding natural_of
natural_read [] n h = let wrong : ⊥ = cc in absurd wrong
natural_read (x ∷ xs) n h =
    let k = cond_some (all_ascii_digits (x ∷ xs)) (value_of (x ∷ xs)) n h in
    (record { some = omega arith; digits = digits_from_test (x ∷ xs) k.0 }, sym k.1)

natural_written : (text : List ℕ) → AreDigits text → natural_of text ≡ Some (value_of text)
unfolding natural_of
natural_written [] h = absurd (omega (arith, h.some))
natural_written (x ∷ xs) h = rw (test_from_digits (x ∷ xs) h.digits) refl

-- a number that is written is read back
pub decimal_back : (n : ℕ) → n < 2 ^ 64 → natural_of (decimal n) ≡ Some n
decimal_back n fits =
    let numeral = decimal_is_IsNumeral n fits in
    natural_some (decimal n) numeral.0.1 (decimal_nonempty n fits) ∙ ap Some numeral.1

pub count_back : (n : ℕ) → n < 2 ^ 32 → count_of (decimal n) ≡ Some n
unfolding count_of
count_back n fits =
    ap (option_and_then (up_to 4_294_967_295)) (decimal_back n (omega (arith, fits))) ∙ ap (λ t. if t then Some n else None) (le-leb n 4_294_967_295 (omega (arith, fits)))

pub mapped : {A B : Type 0} (f : A → B) (o : Option A) (b : B) → option_map f o ≡ Some b → (a : A) × (o ≡ Some a) × (b ≡ f a)
mapped f None b h = let wrong : ⊥ = cc in absurd wrong
mapped f (Some a) b h = (a, refl, cc)

pub number_read : (text : List ℕ) (z : ℤ) → number_of text ≡ Some z → WritesNumber text z
unfolding number_of
number_read [] z h = let wrong : ⊥ = cc in absurd wrong
number_read (x ∷ xs) z h = elim (cases_eq x 45) as (λ _. WritesNumber (x ∷ xs) z) [
  | inl is ↦
      let h' = rw (eq-eqb x 45 is) at h in
      let (n, e, same) = mapped (signed true) (natural_of xs) z h' in
      let (digits, value) = natural_read xs n e in
      inr (xs, ap (λ y. y ∷ xs) is, digits, same ∙ ap (λ m. neg_ℤ (pos m)) value)
  | inr ne ↦
      let h' = rw (ne_eqb x 45 ne) at h in
      let (n, e, same) = mapped (signed false) (natural_of (x ∷ xs)) z h' in
      let (digits, value) = natural_read (x ∷ xs) n e in
      inl (digits, same ∙ ap pos value)
]

plain_number : (text : List ℕ) → AreDigits text → number_of text ≡ Some (pos (value_of text))
unfolding number_of
plain_number [] h = absurd (omega (arith, h.some))
plain_number (x ∷ xs) h =
    let test : (x == 45) ≡ false = ne_eqb x 45 (λ e. omega (arith, h.digits.0)) in
    rw test (ap (option_map (signed false)) (natural_written (x ∷ xs) h))

pub number_written : (text : List ℕ) (z : ℤ) → WritesNumber text z → number_of text ≡ Some z
unfolding number_of
number_written text z (inl (digits, is)) = plain_number text digits ∙ ap Some (sym is)
number_written text z (inr (xs, cut, digits, is)) = ap number_of cut ∙ ap (option_map (signed true)) (natural_written xs digits) ∙ ap Some (sym is)

-- the same of numbers that fit an `i64`
from_number : (text : List ℕ) (o : Option ℤ) (n : ℤ) → number_of text ≡ o → option_and_then to_i64 o ≡ Some n → WritesNumber text n × FitsSigned w64 n
from_number text None n is h = let wrong : ⊥ = cc in absurd wrong
from_number text (Some z) n is h = let (same, fits) = i64_read z n h in (number_read text n (is ∙ ap Some same), fits)

pub i64_of-read : (text : List ℕ) (n : ℤ) → i64_of text ≡ Some n → WritesNumber text n × FitsSigned w64 n
i64_of-read text n h = from_number text (number_of text) n refl h

pub i64_of-written : (text : List ℕ) (n : ℤ) → WritesNumber text n → FitsSigned w64 n → i64_of text ≡ Some n
i64_of-written text n writes fits = ap (option_and_then to_i64) (number_written text n writes) ∙ i64_written n fits

pub i64_of-some : (text : List ℕ) (len : ℕ) (n : ℤ) → i64_of (take len text) ≡ Some n → 0 < len
unfolding number_of
i64_of-some text zero n h = let wrong : ⊥ = cc in absurd wrong
i64_of-some text (suc len) n h = omega arith

-- ---- the number in front of a text

-- so many digits stand in front, and no more
pub record DigitsInFront (text : List ℕ) (count : ℕ) : Type 0 where
  pub within : count ≤ length text
  pub digits : AllDigits 10 (take count text)
  pub end : count < length text → ¬ (IsInRange 48 57 (get_or text count 0))

-- with a byte behind them no number stands there
pub natural_past : (text : List ℕ) (count len : ℕ) → count < len → len ≤ length text → ¬ (IsInRange 48 57 (get_or text count 0)) → natural_of (take len text) ≡ None
natural_past text count len past within other =
    let word = take len text in
    let inside : count < length word = omega (arith, length-take len text) in
    let same = get_or-take len text count 0 past in
    let cut : take count word ++ get_or word count 0 ∷ drop (suc count) word ≡ word = ap (λ l. take count word ++ l) (sym (drop-cons word count 0 inside)) ∙ take-append-drop count word in
    ap natural_of (sym cut) ∙ natural_none (take count word) (get_or word count 0) (drop (suc count) word) (λ range. other (subst (IsInRange 48 57) same range))

-- nor do fewer of them stand before a byte that is no digit
digit_inside : (text : List ℕ) (count len : ℕ) → AllDigits 10 (take count text) → len < count → count ≤ length text → IsInRange 48 57 (get_or text len 0)
digit_inside text count len digits less within =
    let inside : len < length (take count text) = omega (arith, length-take count text) in
    subst (IsInRange 48 57) (get_or-take count text len 0 less) (digit_at (take count text) len digits inside)

natural_elsewhere : (stop : ℕ) (text : List ℕ) (count len : ℕ) → DigitsInFront text count → ¬ (IsInRange 48 57 stop) → StandsBefore stop text len → len ≢ count → natural_of (take len text) ≡ None
natural_elsewhere stop text count len front other stands ne = elim (cases_lt len count) as (λ _. natural_of (take len text) ≡ None) [
  | inl less ↦
      absurd (other (subst (IsInRange 48 57) (stands.stops (omega (arith, front.within))) (digit_inside text count len front.digits less front.within)))
  | inr least ↦
      let past : count < len = omega arith in
      natural_past text count len past stands.within (front.end (omega (arith, stands.within)))
]

-- what a text begins with: a sign, or none
abbrev pub HasSign : Bool → List ℕ → List ℕ → Type 0
HasSign true text digits = (digits ≡ drop 1 text) × (0 < length text) × (get_or text 0 0 ≡ 45)
HasSign false text digits = (digits ≡ text) × (0 < length text → get_or text 0 0 ≢ 45)

pub has_sign : (negative : Bool) (k : ℕ) (text digits : List ℕ) → k ≡ bool_byte negative → digits ≡ drop k text
    → MatchBool negative ((0 < length text) × (get_or text 0 0 ≡ 45)) (0 < length text → get_or text 0 0 ≢ 45) → HasSign negative text digits
has_sign true k text digits is cut (some, minus) = (cut ∙ ap (λ n. drop n text) is, some, minus)
has_sign false k text digits is cut other = (cut ∙ ap (λ n. drop n text) is, other)

-- a number behind its sign
signed_of : Bool → List ℕ → Option ℤ
signed_of negative digits = option_and_then to_i64 (option_map (signed negative) (natural_of digits))

no_minus : (text : List ℕ) → (0 < length text → get_or text 0 0 ≢ 45) → (len : ℕ) → i64_of (take len text) ≡ signed_of false (take len text)
unfolding signed_of number_of natural_of
no_minus [] other zero = refl
no_minus [] other (suc len) = refl
no_minus (x ∷ xs) other zero = refl
no_minus (x ∷ xs) other (suc len) = rw (ne_eqb x 45 (other (omega arith))) refl

minus : (text : List ℕ) → 0 < length text → get_or text 0 0 ≡ 45 → (len : ℕ) → i64_of (take (suc len) text) ≡ signed_of true (take len (drop 1 text))
unfolding signed_of number_of
minus [] some is len = absurd (omega arith)
minus (x ∷ xs) some is len = rw (eq-eqb x 45 is) refl

nothing : (text : List ℕ) → i64_of (take 0 text) ≡ None
unfolding number_of
nothing text = refl

signed_none : (negative : Bool) (digits : List ℕ) → natural_of digits ≡ None → signed_of negative digits ≡ None
unfolding signed_of
signed_none negative digits none = rw none refl

behind_sign : (stop : ℕ) (text : List ℕ) (len : ℕ) → 0 < length text → StandsBefore stop text (suc len) → StandsBefore stop (drop 1 text) len
behind_sign stop [] len some stands = absurd (omega arith)
behind_sign stop (x ∷ xs) len some stands = record { within = omega (arith, stands.within); stops = λ less. stands.stops (omega arith) }

before_sign : (stop : ℕ) (text : List ℕ) (len : ℕ) → 0 < length text → StandsBefore stop (drop 1 text) len → StandsBefore stop text (suc len)
before_sign stop [] len some stands = absurd (omega arith)
before_sign stop (x ∷ xs) len some stands = record { within = omega (arith, stands.within); stops = λ less. stands.stops (omega arith) }

-- no number stands there if none is made of the digits, or none that fits
no_fit : (negative : Bool) (stop : ℕ) (digits : List ℕ) (count : ℕ) → DigitsInFront digits count → ¬ (IsInRange 48 57 stop)
    → (0 < count → StandsBefore stop digits count → to_i64 (signed negative (digits_value 10 (take count digits))) ≡ None)
    → (len : ℕ) → StandsBefore stop digits len → signed_of negative (take len digits) ≡ None
unfolding signed_of natural_of
no_fit negative stop digits count front other fails len stands = elim (cases_eq len count) as (λ _. signed_of negative (take len digits) ≡ None) [
  | inl same ↦ elim (cases_lt 0 count) as (λ _. signed_of negative (take len digits) ≡ None) [
    | inl some ↦
        let here : natural_of (take count digits) ≡ Some (digits_value 10 (take count digits)) = natural_some (take count digits) front.digits (omega (arith, length-take count digits, front.within)) in
        ap (λ n. signed_of negative (take n digits)) same ∙ ap (λ o. option_and_then to_i64 (option_map (signed negative) o)) here ∙ fails some (subst (StandsBefore stop digits) same stands)
    | inr none ↦
        let zero_is : len ≡ 0 = omega arith in ap (λ n. signed_of negative (take n digits)) zero_is
  ]
  | inr ne ↦ signed_none negative (take len digits) (natural_elsewhere stop digits count len front other stands ne)
]

pub no_number : (negative : Bool) (stop : ℕ) (text digits : List ℕ) (count : ℕ) → HasSign negative text digits → DigitsInFront digits count → ¬ (IsInRange 48 57 stop)
    → (0 < count → StandsBefore stop digits count → to_i64 (signed negative (digits_value 10 (take count digits))) ≡ None)
    → (len : ℕ) → StandsBefore stop text len → i64_of (take len text) ≡ None
no_number true stop text digits count (is, some, sign) front other fails zero stands = nothing text
no_number true stop text digits count (is, some, sign) front other fails (suc len) stands =
    minus text some sign len ∙ ap (λ l. signed_of true (take len l)) (sym is)
    ∙ no_fit true stop digits count front other fails len (subst (λ l. StandsBefore stop l len) (sym is) (behind_sign stop text len some stands))
no_number false stop text digits count (is, plain) front other fails len stands =
    no_minus text plain len ∙ ap (λ l. signed_of false (take len l)) (sym is)
    ∙ no_fit false stop digits count front other fails len (subst (λ l. StandsBefore stop l len) (sym is) stands)

-- the number is that of its sign and its digits
number_here : (negative : Bool) (digits : List ℕ) (count : ℕ) (n : ℤ) → 0 < count → count ≤ length digits → AllDigits 10 (take count digits)
    → to_i64 (signed negative (digits_value 10 (take count digits))) ≡ Some n → signed_of negative (take count digits) ≡ Some n
unfolding signed_of
number_here negative digits count n some within all fits =
    ap (λ o. option_and_then to_i64 (option_map (signed negative) o)) (natural_some (take count digits) all (omega (arith, length-take count digits))) ∙ fits

pub number_first : (negative : Bool) (k : ℕ) (text digits : List ℕ) (count : ℕ) (n : ℤ) → k ≡ bool_byte negative → HasSign negative text digits → 0 < count → count ≤ length digits
    → AllDigits 10 (take count digits) → to_i64 (signed negative (digits_value 10 (take count digits))) ≡ Some n → i64_of (take (k + count) text) ≡ Some n
number_first true k text digits count n one (is, some, sign) more within all fits =
    let sum : k + count ≡ suc count = omega (arith, one) in
    ap (λ m. i64_of (take m text)) sum ∙ minus text some sign count ∙ ap (λ l. signed_of true (take count l)) (sym is) ∙ number_here true digits count n more within all fits
number_first false k text digits count n none (is, plain) more within all fits =
    let sum : k + count ≡ count = omega (arith, none) in
    ap (λ m. i64_of (take m text)) sum ∙ no_minus text plain count ∙ ap (λ l. signed_of false (take count l)) (sym is) ∙ number_here false digits count n more within all fits

pub stands_first : (negative : Bool) (k stop : ℕ) (text digits : List ℕ) (count : ℕ) → k ≡ bool_byte negative → HasSign negative text digits → StandsBefore stop digits count → StandsBefore stop text (k + count)
stands_first true k stop text digits count one (is, some, sign) stands =
    let sum : k + count ≡ suc count = omega (arith, one) in
    subst (StandsBefore stop text) (sym sum) (before_sign stop text count some (subst (λ l. StandsBefore stop l count) is stands))
stands_first false k stop text digits count none (is, plain) stands =
    let sum : k + count ≡ count = omega (arith, none) in
    subst (StandsBefore stop text) (sym sum) (subst (λ l. StandsBefore stop l count) is stands)

-- what is worth more than a `u64` holds fits no `i64`, nor does the greatest `u64`
fits_none : (negative : Bool) (n : ℕ) → 2 ^ 63 < n → to_i64 (signed negative n) ≡ None
unfolding to_i64
fits_none true n large =
    let e : int_le (negsuc (2 ^ 63 - 1)) (neg_ℤ (pos n)) ≡ false = grind (arith, ints) in rw e refl
fits_none false n large =
    let e : int_le (pos n) (pos (2 ^ 63 - 1)) ≡ false = grind (arith, ints) in rw e refl

pub saturated : (negative : Bool) (n size : ℕ) → size ≡ min n (2 ^ 64 - 1) → to_i64 (signed negative size) ≡ to_i64 (signed negative n)
saturated negative n size is = elim (cases_lt n (2 ^ 64)) as (λ _. to_i64 (signed negative size) ≡ to_i64 (signed negative n)) [
  | inl small ↦ let same : size ≡ n = omega arith in ap (λ m. to_i64 (signed negative m)) same
  | inr large ↦ fits_none negative size (omega arith) ∙ sym (fits_none negative n (omega arith))
]

-- one digit or two are no sign, and always fit
digit_first : (text : List ℕ) (len : ℕ) → 0 < len → AllDigits 10 (take len text) → 0 < length text → get_or text 0 0 ≢ 45
digit_first [] len some digits more = absurd (omega arith)
digit_first (x ∷ xs) zero some digits more = absurd (omega arith)
digit_first (x ∷ xs) (suc len) some digits more = let r : IsInRange 48 57 x = digit_from_value x digits.0 in λ is. omega arith

fits_small : (n : ℕ) → n < 100 → to_i64 (signed false n) ≡ Some (pos n)
unfolding to_i64
fits_small n small =
    let high : int_le (pos n) (pos (2 ^ 63 - 1)) ≡ true = grind (arith, ints) in rw high refl

pub small_first : (text : List ℕ) (len size : ℕ) → 0 < len → len ≤ length text → AllDigits 10 (take len text) → size ≡ digits_value 10 (take len text) → size < 100
    → i64_of (take len text) ≡ Some (pos size)
small_first text len size some within all is small =
    no_minus text (digit_first text len some all) len
    ∙ number_here false text len (pos size) some within all (ap (λ n. to_i64 (signed false n)) (sym is) ∙ fits_small size small)
