-- The digits of a number, cut at any place.
use Rattle.std.proofs.Common.{◌≡◌, ◌≢◌, ℕ, zero, suc, Bool, true, false, ◌+◌, ◌-◌, ◌*◌, ◌/◌, ◌%◌, ◌^◌, ◌<◌, ◌≤◌, List, [], ◌∷◌, ◌++◌, length, take, drop, nat_le, nat_lt, inl, inr, if◌then◌else◌, refl, ap, sym, ◌∙◌, append_assoc, append-nil, length-append, arith}
use Rattle.std.proofs.Math.Nat.{div-add-mod, mod-lt, one-le-pow, pow-succ', le-mul_of_pos_right, pow-le-pow_right, mul-mod_left}
use Rattle.std.proofs.Math.Seq.{take-append-add}
use Rattle.std.proofs.lemmas.Bool.{cases_lt, ne_eqb, lt-ltb, le-ltb, le-leb}
use Rattle.std.proofs.lemmas.Bool.Decides.{nat_tests}
use Rattle.std.proofs.lemmas.Nat.{pow-add, mul-add-lt, mod-mul-add, div_below, le-div}
use Rattle.std.proofs.lemmas.Fmt.{decimal_digit, decimal_step, length-decimal-le}
use Rattle.std.specs.Fmt.{decimal}
use Rattle.chrono_text.specs.Text.{two_digits, all_digits, fraction_digits, year_digits}

-- the parts of a number before and behind its last digits
parts : (places n : ℕ) → (n ≡ n / 10 ^ places * 10 ^ places + n % 10 ^ places) × (n % 10 ^ places < 10 ^ places)
parts places n = let unit = one-le-pow places 10 (omega arith) in (omega (arith, div-add-mod n (10 ^ places)), mod-lt n unit)

-- the text of a number that is not 0, and of so many digits behind it
decimal_onto : (places front back : ℕ) → 0 < front → back < 10 ^ places → front * 10 ^ places + back < 10 ^ 19
    → decimal (front * 10 ^ places + back) ≡ decimal front ++ all_digits places back
decimal_onto zero front back some within fits =
    let is : front * 1 + back ≡ front = omega arith in ap decimal is ∙ sym (append-nil (decimal front))
decimal_onto (suc places) front back some within fits =
    let unit = 10 ^ places in
    let tenfold : 10 ^ suc places ≡ 10 * unit = pow-succ' 10 places in
    let (is, rest) = parts places back in
    let small : back / unit < 10 = div_below back unit 10 (one-le-pow places 10 (omega arith)) (omega (arith, tenfold)) in
    let next = front * 10 + back / unit in
    let same : front * 10 ^ suc places + back ≡ next * unit + back % unit = omega (arith, is, ap (λ u. front * u) tenfold) in
    let before : next / 10 ≡ front = omega arith in
    let last : next % 10 ≡ back / unit = omega arith in
    let one : decimal next ≡ decimal front ++ (48 + back / unit) ∷ [] = decimal_step next (omega arith) (omega (arith, le-mul_of_pos_right next (one-le-pow places 10 (omega arith)))) ∙ rw (before, last) refl in
    ap decimal same
    ∙ decimal_onto places next (back % unit) (omega arith) rest (omega (arith, same))
    ∙ ap (λ text. text ++ all_digits places (back % unit)) one
    ∙ append_assoc (decimal front) ((48 + back / unit) ∷ []) (all_digits places (back % unit))

-- the text of a number with at least one digit before the last ones
pub decimal_cut : (places n : ℕ) → 10 ^ places ≤ n → n < 10 ^ 19 → decimal n ≡ decimal (n / 10 ^ places) ++ all_digits places (n % 10 ^ places)
decimal_cut places n low high =
    let (is, rest) = parts places n in
    let some : 0 < n / 10 ^ places = le-div 1 n (10 ^ places) (one-le-pow places 10 (omega arith)) (omega arith) in
    ap decimal is ∙ decimal_onto places (n / 10 ^ places) (n % 10 ^ places) some rest (omega (arith, is))

-- all digits of a number: behind a 1 they are a number's text, which is cut as above
pub digits_cut : (before behind n : ℕ) → before + behind ≤ 18 → n < 10 ^ (before + behind)
    → all_digits (before + behind) n ≡ all_digits before (n / 10 ^ behind) ++ all_digits behind (n % 10 ^ behind)
digits_cut before behind n few within =
    let (is, rest) = parts behind n in
    let joined = pow-add 10 before behind in
    let front = 1 * 10 ^ before + n / 10 ^ behind in
    let whole : 1 * 10 ^ (before + behind) + n ≡ front * 10 ^ behind + n % 10 ^ behind = omega (arith, is, joined) in
    let fits : 1 * 10 ^ (before + behind) + n < 10 ^ 19 = omega (arith, pow-le-pow_right {n = 10} (omega arith) few) in
    let small : n / 10 ^ behind < 10 ^ before = div_below n (10 ^ behind) (10 ^ before) (one-le-pow behind 10 (omega arith)) (omega (arith, joined)) in
    let one = decimal_digit 1 (omega arith) in
    let direct = decimal_onto (before + behind) 1 n (omega arith) within fits in
    let by_parts = decimal_onto behind front (n % 10 ^ behind) (omega (arith, one-le-pow before 10 (omega arith))) rest (omega (arith, whole, fits)) in
    let first = decimal_onto before 1 (n / 10 ^ behind) (omega arith) small (omega (arith, whole, fits, le-mul_of_pos_right front (one-le-pow behind 10 (omega arith)))) in
    let same : decimal 1 ++ all_digits (before + behind) n ≡ (decimal 1 ++ all_digits before (n / 10 ^ behind)) ++ all_digits behind (n % 10 ^ behind) =
    sym direct ∙ ap decimal whole ∙ by_parts ∙ ap (λ text. text ++ all_digits behind (n % 10 ^ behind)) first in
    ap (drop 1) (rw one at same)

-- the numbers of places that are written together

as_two : (n : ℕ) → all_digits 2 n ≡ two_digits n
as_two n = let e : n % 10 / 1 ≡ n % 10 = omega arith in ap (λ d. (48 + n / 10) ∷ (48 + d) ∷ []) e

pub three_places : (n : ℕ) → n < 1_000 → all_digits 3 n ≡ (48 + n / 100) ∷ two_digits (n % 100)
three_places n small = ap (λ l. (48 + n / 100) ∷ l) (as_two (n % 100))

pub four_places : (n : ℕ) → n < 10_000 → all_digits 4 n ≡ two_digits (n / 100) ++ two_digits (n % 100)
four_places n small =
    digits_cut 2 2 n (omega arith) small ∙ ap (λ l. l ++ all_digits 2 (n % 100)) (as_two (n / 100)) ∙ ap (λ l. two_digits (n / 100) ++ l) (as_two (n % 100))

pub six_places : (n : ℕ) → n < 1_000_000_000 → all_digits 6 (n / 1_000) ≡ all_digits 3 (n / 1_000_000) ++ all_digits 3 (n / 1_000 % 1_000)
six_places n small =
    let front : n / 1_000 / 1_000 ≡ n / 1_000_000 = omega arith in
    digits_cut 3 3 (n / 1_000) (omega arith) (omega arith) ∙ ap (λ q. all_digits 3 q ++ all_digits 3 (n / 1_000 % 1_000)) front

pub nine_places : (n : ℕ) → n < 1_000_000_000 → all_digits 9 n ≡ all_digits 3 (n / 1_000_000) ++ all_digits 3 (n / 1_000 % 1_000) ++ all_digits 3 (n % 1_000)
nine_places n small =
    let front = all_digits 3 (n / 1_000_000) in
    let middle : n % 1_000_000 / 1_000 ≡ n / 1_000 % 1_000 = omega arith in
    let last : n % 1_000_000 % 1_000 ≡ n % 1_000 = omega arith in
    digits_cut 3 6 n (omega arith) small
    ∙ ap (λ l. front ++ l) (digits_cut 3 3 (n % 1_000_000) (omega arith) (omega arith))
    ∙ ap (λ q. front ++ all_digits 3 q ++ all_digits 3 (n % 1_000_000 % 1_000)) middle
    ∙ ap (λ r. front ++ all_digits 3 (n / 1_000 % 1_000) ++ all_digits 3 r) last

-- the digits of a short number, each of which is there from its unit on

pub pair_text : (n : ℕ) → n < 100 → decimal n ≡ (if nat_le 10 n then (48 + n / 10) ∷ [] else []) ++ (48 + n % 10) ∷ []
pair_text n small = grind (arith, nat_tests, decimal_digit, decimal_step)

pub short_text : (n : ℕ) → n < 10_000
    → decimal n ≡ (((if nat_le 1_000 n then (48 + n / 100 / 10) ∷ [] else []) ++ (if nat_le 100 n then (48 + n / 100 % 10) ∷ [] else [])) ++ (if nat_le 10 n then (48 + n % 100 / 10) ∷ [] else [])) ++ (48 + n % 100 % 10) ∷ []
short_text n small = grind (arith, nat_tests, decimal_digit, decimal_step, append_assoc)

pub eight_digits : (n : ℕ) → n < 100_000_000 → all_digits 8 n ≡ all_digits 4 (n / 10_000) ++ all_digits 4 (n % 10_000)
eight_digits n small = digits_cut 4 4 n (omega arith) small

-- a short number in front of others, where 0 is nothing
pub front_text : (n : ℕ) → n < 10_000
    → (if nat_lt 0 n then decimal n else []) ≡ (((if nat_le 1_000 n then (48 + n / 100 / 10) ∷ [] else []) ++ (if nat_le 100 n then (48 + n / 100 % 10) ∷ [] else [])) ++ (if nat_le 10 n then (48 + n % 100 / 10) ∷ [] else [])) ++ (if nat_lt 0 n then (48 + n % 100 % 10) ∷ [] else [])
front_text n small = elim (cases_lt 0 n) [
  | inl some ↦ rw (lt-ltb 0 n some) (short_text n small)
  | inr none ↦ let nothing : n ≡ 0 = omega arith in rw nothing refl
]

-- the last four digits of a number, or all that it has
pub last_four_text : (n : ℕ)
    → (if nat_lt n 10_000 then decimal n else all_digits 4 (n % 10_000)) ≡ (((if nat_le 1_000 n then (48 + n % 10_000 / 100 / 10) ∷ [] else []) ++ (if nat_le 100 n then (48 + n % 10_000 / 100 % 10) ∷ [] else [])) ++ (if nat_le 10 n then (48 + n % 10_000 % 100 / 10) ∷ [] else [])) ++ (48 + n % 10_000 % 100 % 10) ∷ []
last_four_text n = elim (cases_lt n 10_000) [
  | inl small ↦ let same : n % 10_000 ≡ n = omega arith in rw (same, lt-ltb n 10_000 small) (short_text n small)
  | inr large ↦ rw (le-ltb n 10_000 large, four_places (n % 10_000) (omega arith), le-leb 1_000 n (omega arith), le-leb 100 n (omega arith), le-leb 10 n (omega arith)) refl
]

-- a number is its front and its last four digits
pub by_fours : (n : ℕ) → n < 100_000_000
    → decimal n ≡ (if nat_lt 0 (n / 10_000) then decimal (n / 10_000) else []) ++ (if nat_lt n 10_000 then decimal n else all_digits 4 (n % 10_000))
by_fours n within = elim (cases_lt n 10_000) [
  | inl small ↦ let none : n / 10_000 ≡ 0 = omega arith in rw (none, lt-ltb n 10_000 small) refl
  | inr large ↦ rw (le-ltb n 10_000 large, lt-ltb 0 (n / 10_000) (omega arith)) (decimal_cut 4 n large (omega arith))
]

-- the size of a year
pub year_by_fours : (n : ℕ) → n < 1_000_000
    → year_digits n ≡ ((if nat_le 10 (n / 10_000) then (48 + n / 10_000 / 10) ∷ [] else []) ++ (if nat_lt 0 (n / 10_000) then (48 + n / 10_000 % 10) ∷ [] else [])) ++ all_digits 4 (n % 10_000)
year_by_fours n within = elim (cases_lt n 10_000) [
  | inl small ↦ let none : n / 10_000 ≡ 0 = omega arith in let same : n % 10_000 ≡ n = omega arith in rw (none, same, lt-ltb n 10_000 small) refl
  | inr large ↦ rw (le-ltb n 10_000 large, lt-ltb 0 (n / 10_000) (omega arith), decimal_cut 4 n large (omega arith), pair_text (n / 10_000) (omega arith)) refl
]

-- how long the texts are

pub at_most : (places n : ℕ) → 0 < places → n < 10 ^ places → n < 10 ^ 19 → length (decimal n) ≤ places
at_most places n some small fits = length-decimal-le places n some small (omega arith)

-- behind a text: a byte that is wanted or not
pub one_at_most : (wanted : Bool) (byte : ℕ) (before after : List ℕ) → after ≡ before ++ (if wanted then byte ∷ [] else []) → length after ≤ length before + 1
one_at_most true byte before after is = omega (arith, ap length is, length-append before (byte ∷ []))
one_at_most false byte before after is = omega (arith, ap length is, length-append before [])

-- the digits of a fraction, less the zeros at its end

pub fraction_digits-zero : (places : ℕ) → fraction_digits places 0 ≡ []
fraction_digits-zero zero = refl
fraction_digits-zero (suc places) = refl

-- a number that is not 0, and zeros behind it
at_least : (n ending front : ℕ) → n ≡ front * 10 ^ ending → front % 10 ≢ 0 → 10 ^ ending ≤ n
at_least n ending front is some = omega (arith, is, le-mul_of_pos_right {m = front} (10 ^ ending) (omega arith))

pub few_zeros : (places n ending front : ℕ) → n ≡ front * 10 ^ ending → front % 10 ≢ 0 → n < 10 ^ places → ending < places
few_zeros places n ending front is some within = elim (cases_lt ending places) as (λ _. ending < places) [
  | inl few ↦ few
  | inr many ↦ absurd (omega (arith, at_least n ending front is some, pow-le-pow_right {n = 10} (omega arith) many))
]

-- the places behind the first
behind_first : (places n ending front : ℕ) → n ≡ front * 10 ^ ending → ending < places
    → (n % 10 ^ places ≡ front % 10 ^ (places - ending) * 10 ^ ending) × (front % 10 ^ (places - ending) % 10 ≡ front % 10)
behind_first places n ending front is more =
    let gap = places - ending in
    let before = front / 10 ^ gap in
    let rest = front % 10 ^ gap in
    let (cut, small) = parts gap front in
    let same : gap + ending ≡ places = omega arith in
    let joined : 10 ^ places ≡ 10 ^ gap * 10 ^ ending = ap (λ k. 10 ^ k) (sym same) ∙ pow-add 10 gap ending in
    let whole : n ≡ before * 10 ^ places + rest * 10 ^ ending = omega (arith, is, ap (λ f. f * 10 ^ ending) cut, ap (λ u. before * u) joined) in
    let below : rest * 10 ^ ending < 10 ^ places = omega (arith, joined, mul-add-lt rest (10 ^ ending) 0 (10 ^ gap) small (one-le-pow ending 10 (omega arith))) in
    let one_more : gap ≡ suc (gap - 1) = omega arith in
    let tenfold : 10 ^ gap ≡ 10 * 10 ^ (gap - 1) = ap (λ k. 10 ^ k) one_more ∙ pow-succ' 10 (gap - 1) in
    (ap (λ k. k % 10 ^ places) whole ∙ mod-mul-add before (10 ^ places) (rest * 10 ^ ending) below, omega (arith, cut, ap (λ u. before * u) tenfold))

without_zeros : (places n ending front : ℕ) → n ≡ front * 10 ^ ending → front % 10 ≢ 0 → n < 10 ^ places → fraction_digits places n ≡ take (places - ending) (all_digits places n)
without_zeros zero n ending front is some within =
    absurd (omega (arith, at_least n ending front is some, one-le-pow ending 10 (omega arith)))
without_zeros (suc places) n ending front is some within =
    let digit = 48 + n / 10 ^ places in
    let rest = n % 10 ^ places in
    let not_zero : n ≢ 0 = omega (arith, at_least n ending front is some, one-le-pow ending 10 (omega arith)) in
    rw (ne_eqb n 0 not_zero) (elim (cases_lt ending places) as (λ _. digit ∷ fraction_digits places rest ≡ take (suc places - ending) (digit ∷ all_digits places rest)) [
      | inl more ↦
          let (same, last) = behind_first places n ending front is more in
          let e : suc places - ending ≡ suc (places - ending) = omega arith in
          let below = mod-lt n (one-le-pow places 10 (omega arith)) in
          rw e (ap (λ l. digit ∷ l) (without_zeros places rest ending (front % 10 ^ (places - ending)) same (omega (arith, last)) below))
      | inr none ↦
          let only : ending ≡ places = omega (arith, few_zeros (suc places) n ending front is some within) in
          let e : suc places - ending ≡ 1 = omega arith in
          let empty : rest ≡ 0 = ap (λ k. k % 10 ^ places) (is ∙ ap (λ k. front * 10 ^ k) only) ∙ mul-mod_left front (10 ^ places) in
          rw e (ap (λ l. digit ∷ l) (ap (fraction_digits places) empty ∙ fraction_digits-zero places))
    ])

-- behind a text: nine digits, less the zeros at their end
pub trimmed : (before : List ℕ) (n ending front : ℕ) → n ≡ front * 10 ^ ending → front % 10 ≢ 0 → n < 10 ^ 9
    → take (length (before ++ all_digits 9 n) - ending) (before ++ all_digits 9 n) ≡ before ++ fraction_digits 9 n
trimmed before n ending front is some within =
    let few = few_zeros 9 n ending front is some within in
    let size : length (before ++ all_digits 9 n) - ending ≡ length before + (9 - ending) = omega (arith, length-append before (all_digits 9 n)) in
    rw size (take-append-add before (all_digits 9 n) (9 - ending) ∙ ap (λ l. before ++ l) (sym (without_zeros 9 n ending front is some within)))

-- for the writers of digits, and of fractions
pub ruleset places = (three_places, four_places)

pub ruleset fractions = (six_places, nine_places)
