-- A number of up to eighteen digits is read in two pieces.
use Rattle.std.proofs.Common.{◌≡◌, ℕ, ◌+◌, ◌-◌, ◌*◌, ◌^◌, ◌<◌, ◌≤◌, Bool, true, false, ◌&&◌, if◌then◌else◌, List, [], ◌∷◌, ◌++◌, drop, take, length, Option, None, Some, refl, ap, sym, ◌∙◌, arith}
use Rattle.std.proofs.lemmas.Bool.{le-leb, lt-leb}
use Rattle.std.proofs.lemmas.List.{length-drop, length-take, take-append-drop}
use Rattle.std.specs.Char.{is_ascii_digit}
use Rattle.std.specs.Str.{all_ascii_digits}
use Rattle.chrono_text.specs.Numbers.{digits_of, natural_of, value_of}
use Rattle.chrono_text.proofs.DigitLemmas.{value_append}

assoc_and : (a b c : Bool) → (a && (b && c)) ≡ ((a && b) && c)
assoc_and true b c = refl
assoc_and false b c = refl

pub digits_joined : (xs ys : List ℕ) → all_ascii_digits (xs ++ ys) ≡ (all_ascii_digits xs && all_ascii_digits ys)
digits_joined [] ys = refl
digits_joined (x ∷ xs) ys =
    ap (λ b. is_ascii_digit x && b) (digits_joined xs ys) ∙ assoc_and (is_ascii_digit x) (all_ascii_digits xs) (all_ascii_digits ys)

-- the number of two pieces, of which the second has so many digits
abbrev joined : Option ℕ → Option ℕ → ℕ → Option ℕ
joined (Some x) (Some y) k = Some (x * 10 ^ k + y)
joined (Some x) None k = None
joined None o k = None

by_pieces : (p q : Bool) (x y k : ℕ) → (if p && q then Some (x * 10 ^ k + y) else None) ≡ joined (if p then Some x else None) (if q then Some y else None) k
by_pieces true true x y k = refl
by_pieces true false x y k = refl
by_pieces false q x y k = refl

natural_joined : (xs ys : List ℕ) → 0 < length xs → 0 < length ys → natural_of (xs ++ ys) ≡ joined (natural_of xs) (natural_of ys) (length ys)
unfolding natural_of
natural_joined [] ys some more = absurd (omega (arith, some))
natural_joined (x ∷ xs) [] some more = absurd (omega (arith, more))
natural_joined (x ∷ xs) (y ∷ ys) some more =
    ap (λ b. if b then Some (value_of ((x ∷ xs) ++ (y ∷ ys))) else None) (digits_joined (x ∷ xs) (y ∷ ys))
    ∙ ap (λ v. if all_ascii_digits (x ∷ xs) && all_ascii_digits (y ∷ ys) then Some v else None) (value_append (x ∷ xs) (y ∷ ys))
    ∙ by_pieces (all_ascii_digits (x ∷ xs)) (all_ascii_digits (y ∷ ys)) (value_of (x ∷ xs)) (value_of (y ∷ ys)) (length (y ∷ ys))

-- as many digits as may be
pub within_most : (most : ℕ) (text : List ℕ) → length text ≤ most → digits_of most text ≡ natural_of text
unfolding digits_of
within_most most text few = ap (λ b. if b then natural_of text else None) (le-leb (length text) most few)

-- a few digits are no more than many
pub few_of_many : (text : List ℕ) → length text ≤ 9 → digits_of 18 text ≡ digits_of 9 text
few_of_many text few = within_most 18 text (omega (arith, few)) ∙ sym (within_most 9 text few)

-- the pieces that are read tell the number
pub pieces_read : (text front back : List ℕ) → text ≡ front ++ back → length text ≤ 18 → 0 < length front → length front ≤ 9 → length back ≡ 9
    → digits_of 18 text ≡ joined (digits_of 9 front) (digits_of 9 back) 9
pieces_read text front back is few some short nine =
    within_most 18 text few ∙ ap natural_of is
    ∙ natural_joined front back some (omega (arith, nine))
    ∙ ap (λ o. joined o (natural_of back) (length back)) (sym (within_most 9 front short))
    ∙ ap (λ o. joined (digits_of 9 front) o (length back)) (sym (within_most 9 back (omega (arith, nine))))
    ∙ ap (λ k. joined (digits_of 9 front) (digits_of 9 back) k) nine

pub no_front : (front back : List ℕ) → digits_of 9 front ≡ None → joined (digits_of 9 front) (digits_of 9 back) 9 ≡ None
no_front front back none = ap (λ o. joined o (digits_of 9 back) 9) none

pub no_back : (front back : List ℕ) (x : ℕ) → digits_of 9 front ≡ Some x → digits_of 9 back ≡ None → joined (digits_of 9 front) (digits_of 9 back) 9 ≡ None
no_back front back x some none = ap (λ o. joined o (digits_of 9 back) 9) some ∙ ap (λ o. joined (Some x) o 9) none

pub both_read : (front back : List ℕ) (x y : ℕ) → digits_of 9 front ≡ Some x → digits_of 9 back ≡ Some y
    → joined (digits_of 9 front) (digits_of 9 back) 9 ≡ Some (x * 1_000_000_000 + y)
both_read front back x y some more = ap (λ o. joined o (digits_of 9 back) 9) some ∙ ap (λ o. joined (Some x) o 9) more

-- the same by a place at which the text is cut
pub cut_read : (text front back : List ℕ) (mid : ℕ) → mid ≡ length text - 9 → front ≡ take mid text → back ≡ drop mid text → 9 < length text → length text ≤ 18
    → digits_of 18 text ≡ joined (digits_of 9 front) (digits_of 9 back) 9
cut_read text front back mid place first last low high =
    let front_len : length front ≡ mid = ap (λ (l : List ℕ). length l) first ∙ omega (arith, length-take mid text, place, low) in
    let back_len : length back ≡ 9 = ap (λ (l : List ℕ). length l) last ∙ omega (arith, length-drop mid text, place, low) in
    let is : text ≡ front ++ back = sym (ap (λ (l : List ℕ). l ++ back) first ∙ ap (λ (l : List ℕ). take mid text ++ l) last ∙ take-append-drop mid text) in
    pieces_read text front back is high (omega (arith, front_len, place, low)) (omega (arith, front_len, place, high)) back_len

pub too_many : (text : List ℕ) → 18 < length text → digits_of 18 text ≡ None
unfolding digits_of
too_many text many = ap (λ b. if b then natural_of text else None) (lt-leb (length text) 18 many)
