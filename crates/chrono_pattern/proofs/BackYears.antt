-- A year is read back with its sign or with none.
use Rattle.std.proofs.Common.{◌≡◌, ℕ, suc, ◌<◌, ◌≤◌, ◌^◌, Bool, true, false, ◌&&◌, if◌then◌else◌, List, [], ◌∷◌, ◌++◌, length, ℤ, pos, negsuc, neg_ℤ, unsigned_abs, Ok, inl, inr, refl, ap, sym, ◌∙◌, arith}
use Rattle.std.proofs.lemmas.Bool.{cases_lt, false≢true}
use Rattle.std.proofs.lemmas.Bool.Decides.{nat_tests}
use Rattle.std.proofs.lemmas.Int.{ints}
use Rattle.std.specs.Int.RustNames.{int_lt}
use Rattle.std.specs.Prelude.{nat_le}
use Rattle.chrono_text.proofs.Decimals.{at_most}
use Rattle.chrono_pattern.specs.Kept.{keeps_year}
use Rattle.chrono_pattern.specs.NumberReads.{digits_read, has_sign, most_digits, number_put, number_read, signed_read}
use Rattle.chrono_pattern.specs.Numbers.{padded, padding_of, year_sign}
use Rattle.chrono_pattern.specs.OffsetReads.{at_rest}
use Rattle.chrono_pattern.specs.Progress.{behind_blanks, class_len}
use Rattle.chrono_pattern.specs.Separable.{bar_of_number, is_filled}
use Rattle.chrono_pattern.specs.declared.class.Class.TheVariants.{Digit}
use Rattle.chrono_pattern.specs.declared.item.Bar.{Bar}
use Rattle.chrono_pattern.specs.declared.item.Bar.TheVariants.{Free, NoDigit}
use Rattle.chrono_pattern.specs.declared.item.NumberField.{NumberField}
use Rattle.chrono_pattern.specs.declared.item.Padding.{Padding}
use Rattle.chrono_pattern.specs.declared.parsed.Parsed.{Parsed}
use Rattle.chrono_pattern.proofs.BackDigits.{Closed, Ends, digits_back, digits_stay, few_digits, number_closed, number_digits, number_digits-are, padded_parts, skip, skipped, spaces_blank, spaces_of, unsigned_digits}
use Rattle.chrono_pattern.proofs.BackNumbers.{front_stays, not_below}

-- what is read behind blanks
by_sign : (field : NumberField) (text other : List ℕ) (p : Parsed) → has_sign field ≡ true → behind_blanks text ≡ other
    → number_read field (at_rest text p) ≡ signed_read field other p
unfolding number_read
by_sign field text other p signed is =
    ap (λ (s : Bool). if s then signed_read field (behind_blanks text) p else digits_read field (most_digits field) false (behind_blanks text) p) signed
    ∙ ap (λ (l : List ℕ). signed_read field l p) is

minus_read : (field : NumberField) (digits : List ℕ) (p : Parsed) → signed_read field (45 ∷ digits) p ≡ digits_read field 9 true digits p
unfolding signed_read
minus_read field digits p = refl

plus_read : (field : NumberField) (digits : List ℕ) (p : Parsed) → signed_read field (43 ∷ digits) p ≡ digits_read field 9 false digits p
unfolding signed_read
plus_read field digits p = refl

-- the text of a year behind blanks
signed_text : (padding : Padding) (b : Bool) (c n : ℕ) (rest : List ℕ) → behind_blanks (c ∷ (number_digits padding 4 n ++ rest)) ≡ c ∷ (number_digits padding 4 n ++ rest)
    → behind_blanks (skip b (padded padding 4 (c ∷ []) n ++ rest)) ≡ c ∷ (number_digits padding 4 n ++ rest)
signed_text padding b c n rest stays =
    ap (λ (l : List ℕ). behind_blanks (skip b l)) (padded_parts padding 4 n (c ∷ []) rest)
    ∙ skipped b (spaces_of padding 4 n) (c ∷ (number_digits padding 4 n ++ rest)) (spaces_blank padding 4 n) stays

minus_back : (field : NumberField) (padding : Padding) (b : Bool) (n : ℕ) (rest : List ℕ) (p q : Parsed) → has_sign field ≡ true → n < 10 ^ 9
    → class_len Digit rest ≡ 0 → number_put field (neg_ℤ (pos n)) p ≡ Ok q
    → number_read field (at_rest (skip b (padded padding 4 (45 ∷ []) n ++ rest)) p) ≡ Ok (at_rest rest q)
minus_back field padding b n rest p q signed small none put =
    let ds = number_digits padding 4 n in
    let few = few_digits padding 4 9 n (at_most 9 n (omega arith) small (omega (arith, small))) (omega arith) in
    by_sign field _ (45 ∷ (ds ++ rest)) p signed (signed_text padding b 45 n rest (front_stays 45 (ds ++ rest) refl))
    ∙ minus_read field (ds ++ rest) p
    ∙ digits_back field 9 n true ds rest p q (number_digits-are padding 4 n (omega (arith, small))) few (λ less. none) put

plus_back : (field : NumberField) (padding : Padding) (b : Bool) (n : ℕ) (rest : List ℕ) (p q : Parsed) → has_sign field ≡ true → n < 10 ^ 9
    → class_len Digit rest ≡ 0 → number_put field (pos n) p ≡ Ok q
    → number_read field (at_rest (skip b (padded padding 4 (43 ∷ []) n ++ rest)) p) ≡ Ok (at_rest rest q)
plus_back field padding b n rest p q signed small none put =
    let ds = number_digits padding 4 n in
    let few = few_digits padding 4 9 n (at_most 9 n (omega arith) small (omega (arith, small))) (omega arith) in
    by_sign field _ (43 ∷ (ds ++ rest)) p signed (signed_text padding b 43 n rest (front_stays 43 (ds ++ rest) refl))
    ∙ plus_read field (ds ++ rest) p
    ∙ digits_back field 9 n false ds rest p q (number_digits-are padding 4 n (omega (arith, small))) few (λ less. none) put

plain_back : (field : NumberField) (padding : Padding) (b : Bool) (n : ℕ) (rest : List ℕ) (p q : Parsed) → has_sign field ≡ true → most_digits field ≡ 4
    → n < 10_000 → Closed (number_digits padding 4 n) 4 rest → number_put field (pos n) p ≡ Ok q
    → number_read field (at_rest (skip b (padded padding 4 [] n ++ rest)) p) ≡ Ok (at_rest rest q)
plain_back field padding b n rest p q signed four small closed put =
    let ds = number_digits padding 4 n in
    let are = number_digits-are padding 4 n (omega (arith, small)) in
    let few = few_digits padding 4 4 n (at_most 4 n (omega arith) small (omega (arith, small))) (omega arith) in
    let text = ap (λ (l : List ℕ). behind_blanks (skip b l)) (padded_parts padding 4 n [] rest)
    ∙ skipped b (spaces_of padding 4 n) (ds ++ rest) (spaces_blank padding 4 n) (digits_stay ds rest n are) in
    by_sign field _ (ds ++ rest) p signed text
    ∙ unsigned_digits field ds rest n p are
    ∙ ap (λ (k : ℕ). digits_read field k false (ds ++ rest) p) four
    ∙ digits_back field 4 n false ds rest p q are few closed put

-- behind a year that may have a sign stands no digit
wide_ends : (a : Bool) (other : Bar) (rest : List ℕ) → a ≡ true → Ends (if true && a then NoDigit else other) rest → class_len Digit rest ≡ 0
wide_ends true other rest h ends = ends
wide_ends false other rest h ends = absurd (false≢true h)

four_closed : (wide : Bool) (field : NumberField) (padding : Padding) (n : ℕ) (rest : List ℕ) → most_digits field ≡ 4 → n < 10_000
    → Ends (bar_of_number wide field padding) rest → Closed (number_digits (padding_of field padding) 4 n) 4 rest
four_closed wide field padding n rest four small ends less =
    let few = at_most 4 n (omega arith) small (omega (arith, small)) in
    number_closed wide field padding n rest (omega (arith, small)) (omega (arith, four)) (omega (arith, four, few)) ends
    (omega (arith, four, less, ap (λ (k : ℕ). length (number_digits (padding_of field padding) k n)) four))

ahead_back : (wide : Bool) (field : NumberField) (padding : Padding) (b : Bool) (n : ℕ) (rest : List ℕ) (p q : Parsed) → has_sign field ≡ true
    → most_digits field ≡ 4 → keeps_year wide (pos n) ≡ true → Ends (bar_of_number wide field padding) rest → number_put field (pos n) p ≡ Ok q
    → number_read field (at_rest (skip b (padded (padding_of field padding) 4 (year_sign (pos n)) n ++ rest)) p) ≡ Ok (at_rest rest q)
ahead_back wide field padding b n rest p q signed four keeps ends put = elim (cases_lt n 10_000) [
  | inl small ↦
      ap (λ (s : List ℕ). number_read field (at_rest (skip b (padded (padding_of field padding) 4 s n ++ rest)) p)) (unsigned n small)
      ∙ plain_back field (padding_of field padding) b n rest p q signed four small (four_closed wide field padding n rest four small ends) put
  | inr large ↦
      ap (λ (s : List ℕ). number_read field (at_rest (skip b (padded (padding_of field padding) 4 s n ++ rest)) p)) (with_plus n large)
      ∙ by_wide wide keeps ends large
]
  where
    unsigned : (k : ℕ) → k < 10_000 → year_sign (pos k) ≡ []
    unsigned k small =
        ap (λ (t : Bool). if t then 45 ∷ [] else if int_lt (pos 9_999) (pos k) then 43 ∷ [] else []) (not_below k 0 (omega arith))
        ∙ ap (λ (t : Bool). if t then 43 ∷ [] else []) (not_below 9_999 k (omega (arith, small)))

    above : (k : ℕ) → 10_000 ≤ k → int_lt (pos 9_999) (pos k) ≡ true
    above k large = grind (arith, ints, large)

    with_plus : (k : ℕ) → 10_000 ≤ k → year_sign (pos k) ≡ 43 ∷ []
    with_plus k large =
        ap (λ (t : Bool). if t then 45 ∷ [] else if int_lt (pos 9_999) (pos k) then 43 ∷ [] else []) (not_below k 0 (omega arith))
        ∙ ap (λ (t : Bool). if t then 43 ∷ [] else []) (above k large)

    by_wide : (w : Bool) → keeps_year w (pos n) ≡ true → Ends (bar_of_number w field padding) rest → 10_000 ≤ n
        → number_read field (at_rest (skip b (padded (padding_of field padding) 4 (43 ∷ []) n ++ rest)) p) ≡ Ok (at_rest rest q)
    by_wide true kept ended large =
        let few : n ≤ 999_999_999 = grind (arith, nat_tests, kept) in
        plus_back field (padding_of field padding) b n rest p q signed (omega (arith, few))
        (wide_ends (has_sign field) (if is_filled field padding then Free else NoDigit) rest signed ended) put
    by_wide false kept ended large =
        let few : n ≤ 9_999 = grind (arith, nat_tests, sym (ap (λ (t : Bool). if t then false else nat_le n 9_999) (not_below n 0 (omega arith))) ∙ kept) in
        absurd (omega (arith, few, large))

behind_back : (wide : Bool) (field : NumberField) (padding : Padding) (b : Bool) (n : ℕ) (rest : List ℕ) (p q : Parsed) → has_sign field ≡ true
    → keeps_year wide (negsuc n) ≡ true → Ends (bar_of_number wide field padding) rest → number_put field (negsuc n) p ≡ Ok q
    → number_read field (at_rest (skip b (padded (padding_of field padding) 4 (45 ∷ []) (suc n) ++ rest)) p) ≡ Ok (at_rest rest q)
behind_back true field padding b n rest p q signed keeps ends put =
    let few : suc n ≤ 999_999_999 = grind (arith, nat_tests, keeps) in
    minus_back field (padding_of field padding) b (suc n) rest p q signed (omega (arith, few))
    (wide_ends (has_sign field) (if is_filled field padding then Free else NoDigit) rest signed ends) put
behind_back false field padding b n rest p q signed keeps ends put = absurd (false≢true keeps)

pub signed_back : (wide : Bool) (field : NumberField) (padding : Padding) (b : Bool) (y : ℤ) (rest : List ℕ) (p q : Parsed) → has_sign field ≡ true
    → most_digits field ≡ 4 → keeps_year wide y ≡ true → Ends (bar_of_number wide field padding) rest → number_put field y p ≡ Ok q
    → number_read field (at_rest (skip b (padded (padding_of field padding) 4 (year_sign y) (unsigned_abs y) ++ rest)) p) ≡ Ok (at_rest rest q)
signed_back wide field padding b (pos n) rest p q signed four keeps ends put = ahead_back wide field padding b n rest p q signed four keeps ends put
signed_back wide field padding b (negsuc n) rest p q signed four keeps ends put = behind_back wide field padding b n rest p q signed keeps ends put
