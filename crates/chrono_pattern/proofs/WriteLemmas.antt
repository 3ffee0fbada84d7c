-- The texts of numbers with few digits, and how long the texts of words are.
use Rattle.std.proofs.Common.{◌≡◌, ℕ, ◌+◌, ◌/◌, ◌%◌, ◌<◌, ◌≤◌, [], ◌∷◌, inl, inr, refl, ap, ◌∙◌, arith}
use Rattle.std.proofs.lemmas.Bool.{cases_lt, le-leb, lt-leb}
use Rattle.std.proofs.lemmas.Fmt.{decimal_digit}
use Rattle.std.specs.Fmt.{decimal}
use Rattle.chrono_text.proofs.Decimals.{four_places, pair_text, short_text}
use Rattle.chrono_text.specs.Text.{all_digits, two_digits}
use Rattle.chrono_datetime.proofs.DayNames.{length-weekday_text}
use Rattle.chrono_pattern.specs.Numbers.{padded}
use Rattle.chrono_pattern.specs.declared.item.Padding.TheVariants.{Spaces, Zeros}

-- ---- numbers of one digit to four

one : (n : ℕ) → n < 10 → decimal n ≡ (48 + n) ∷ []
one n small = decimal_digit n small

pair : (n : ℕ) → 10 ≤ n → n < 100 → decimal n ≡ (48 + n / 10) ∷ (48 + n % 10) ∷ []
pair n large small = rw (le-leb 10 n large) at (pair_text n small)

three : (n : ℕ) → 100 ≤ n → n < 1_000 → decimal n ≡ (48 + n / 100 % 10) ∷ (48 + n % 100 / 10) ∷ (48 + n % 100 % 10) ∷ []
three n large small =
    rw (lt-leb 1_000 n small, le-leb 100 n large, le-leb 10 n (omega arith)) at (short_text n (omega arith))

four : (n : ℕ) → 1_000 ≤ n → n < 10_000
    → decimal n ≡ (48 + n / 100 / 10) ∷ (48 + n / 100 % 10) ∷ (48 + n % 100 / 10) ∷ (48 + n % 100 % 10) ∷ []
four n large small =
    rw (le-leb 1_000 n large, le-leb 100 n (omega arith), le-leb 10 n (omega arith)) at (short_text n small)

-- ---- in two digits, or with a space

pub two_padded : (n : ℕ) → n < 100 → padded Zeros 2 [] n ≡ two_digits n
two_padded n small = elim (cases_lt n 10) [
  | inl few ↦ let tens : 0 ≡ n / 10 = omega arith in let ones : n ≡ n % 10 = omega arith in rw (one n few) (ap (λ (t : ℕ). (48 + t) ∷ (48 + n) ∷ []) tens ∙ ap (λ (t : ℕ). (48 + n / 10) ∷ (48 + t) ∷ []) ones)
  | inr more ↦ rw (pair n more small) refl
]

pub spaced_digit : (n : ℕ) → n < 10 → padded Spaces 2 [] n ≡ 32 ∷ (48 + n) ∷ []
spaced_digit n few = rw (one n few) refl

pub spaced_pair : (n : ℕ) → 10 ≤ n → n < 100 → padded Spaces 2 [] n ≡ two_digits n
spaced_pair n more small = rw (pair n more small) refl

-- ---- in four digits

pub four_padded : (n : ℕ) → n < 10_000 → padded Zeros 4 [] n ≡ all_digits 4 n
four_padded n small = elim (cases_lt n 10) [
  | inl units ↦
      let thousands : n / 100 / 10 ≡ 0 = omega arith in
      let hundreds : n / 100 % 10 ≡ 0 = omega arith in
      let tens : n % 100 / 10 ≡ 0 = omega arith in
      let ones : n % 100 % 10 ≡ n = omega arith in
      rw (one n units, four_places n small, thousands, hundreds, tens, ones) refl
  | inr more ↦ elim (cases_lt n 100) [
    | inl few ↦
        let thousands : n / 100 / 10 ≡ 0 = omega arith in
        let hundreds : n / 100 % 10 ≡ 0 = omega arith in
        let rest : n % 100 ≡ n = omega arith in
        rw (pair n more few, four_places n small, thousands, hundreds, rest) refl
    | inr many ↦ elim (cases_lt n 1_000) [
      | inl some ↦
          let thousands : n / 100 / 10 ≡ 0 = omega arith in
          rw (three n many some, four_places n small, thousands) refl
      | inr all ↦ rw (four n all small, four_places n small) refl
    ]
  ]
]

-- for the writers of numbers
pub ruleset few_digits = (two_padded, four_padded, spaced_digit, spaced_pair)

-- for the writers of weekdays
pub ruleset letters = (length-weekday_text)
