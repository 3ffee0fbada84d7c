-- How far a text goes on as a form does, byte by byte and piece by piece.
use Rattle.std.proofs.Common.{◌≡◌, ◌==◌, ◌≢◌, eq-eqb, ne_eqb, ◌⊎◌, inl, inr, ℕ, zero, suc, ◌+◌, ◌<◌, ◌≤◌, Bool, true, false, List, [], ◌∷◌, ◌++◌, length, get_or, drop, replicate, arith, refl, sym, ap, ◌∙◌, length-append, length-drop}
use Rattle.std.specs.Prelude.{if◌then◌else◌}
use Rattle.std.specs.Char.{is_ascii_digit, to_ascii_lowercase}
use Rattle.std.specs.List.{common_prefix_len, prefix_len}
use Rattle.std.proofs.lemmas.List.{length-replicate}
use Rattle.std.proofs.lemmas.List.Sums.{common_prefix_len-le, common_prefix_len-drop_no, common_prefix_len-drop_yes}
use Rattle.chrono_reading.specs.Fitting.{fitting, leading_digits, stands_for}
use Rattle.chrono_reading.specs.NameErrors.{in_common}

-- lists that both have a byte at a place, and go on behind it, or do not
pub common_end : (e : ℕ → ℕ → Bool) (xs ys : List ℕ) (i : ℕ) → (length xs ≤ i) ⊎ (length ys ≤ i) → common_prefix_len e (drop i xs) (drop i ys) ≡ 0
common_end e xs ys i (inl at) = omega (arith, common_prefix_len-le e (drop i xs) (drop i ys), length-drop i xs)
common_end e xs ys i (inr at) = omega (arith, common_prefix_len-le e (drop i xs) (drop i ys), length-drop i ys)

pub fitting-yes : (form text : List ℕ) (i : ℕ) → i < length form → i < length text → stands_for (get_or form i 0) (get_or text i 0) ≡ true
    → fitting (drop i form) (drop i text) ≡ 1 + fitting (drop (i + 1) form) (drop (i + 1) text)
unfolding fitting
fitting-yes form text i in_form in_text is = common_prefix_len-drop_yes stands_for form text i 0 0 in_form in_text is

pub fitting-no : (form text : List ℕ) (i : ℕ) → i < length form → i < length text → stands_for (get_or form i 0) (get_or text i 0) ≡ false
    → fitting (drop i form) (drop i text) ≡ 0
unfolding fitting
fitting-no form text i in_form in_text is = common_prefix_len-drop_no stands_for form text i 0 0 in_form in_text is

pub fitting-end : (form text : List ℕ) (i : ℕ) → (length form ≤ i) ⊎ (length text ≤ i) → fitting (drop i form) (drop i text) ≡ 0
unfolding fitting
fitting-end form text i ends = common_end stands_for form text i ends

by_sign : (is : Bool) (here all len behind : ℕ) → ((here < len → all ≡ here) × (here ≡ len → all ≡ len + behind))
    → ((if is then 1 + here else 0) < suc len → (if is then 1 + all else 0) ≡ (if is then 1 + here else 0))
    × ((if is then 1 + here else 0) ≡ suc len → (if is then 1 + all else 0) ≡ suc len + behind)
by_sign true here all len behind given = (λ less. omega (arith, given.0), λ whole. omega (arith, given.1))
by_sign false here all len behind given = (λ less. refl, λ whole. absurd (omega arith))

-- a form is fitted piece by piece
pub fitting-append : (a b text : List ℕ) → (fitting a text < length a → fitting (a ++ b) text ≡ fitting a text)
    × (fitting a text ≡ length a → fitting (a ++ b) text ≡ length a + fitting b (drop (length a) text))
unfolding fitting
fitting-append [] b text = (λ less. absurd (omega arith), λ whole. omega arith)
fitting-append (x ∷ a) b [] = (λ less. refl, λ whole. absurd (omega arith))
fitting-append (x ∷ a) b (y ∷ text) = by_sign (stands_for x y) (common_prefix_len stands_for a text) (common_prefix_len stands_for (a ++ b) text) (length a) (common_prefix_len stands_for b (drop (length a) text)) (fitting-append a b text)

by_digit : (is : Bool) (digits n here : ℕ) → ((digits < n → here ≡ digits) × (n ≤ digits → here ≡ n))
    → ((if is then 1 + digits else 0) < suc n → (if is then 1 + here else 0) ≡ (if is then 1 + digits else 0))
    × (suc n ≤ (if is then 1 + digits else 0) → (if is then 1 + here else 0) ≡ suc n)
by_digit true digits n here given = (λ less. omega (arith, given.0), λ more. omega (arith, given.1))
by_digit false digits n here given = (λ less. refl, λ more. absurd (omega arith))

pub fitting-le : (a text : List ℕ) → fitting a text ≤ length a
unfolding fitting
fitting-le a text = (common_prefix_len-le stands_for a text).0

-- a form of two pieces
pub fitting-two : (a b text : List ℕ) (fit : ℕ) → fit ≡ fitting a text → (fit < length a → fit ≡ fitting (a ++ b) text)
    × (length a ≤ fit → (behind : ℕ) → behind ≡ fitting b (drop (length a) text) → fit + behind ≡ fitting (a ++ b) text)
fitting-two a b text fit is =
    let both = fitting-append a b text in (
      λ less. is ∙ sym (both.0 (omega (arith, is, less))),
      λ more behind rest. omega (arith, is, rest, both.1 (omega (arith, is, more, fitting-le a text)), fitting-le a text),
    )

-- a form of digits is fitted by the digits that the text begins with
pub fitting-digits : (n : ℕ) (text : List ℕ) → (leading_digits text < n → fitting (replicate n 100) text ≡ leading_digits text)
    × (n ≤ leading_digits text → fitting (replicate n 100) text ≡ n)
unfolding fitting leading_digits
fitting-digits zero text = (λ less. absurd (omega arith), λ more. refl)
fitting-digits (suc n) [] = (λ less. refl, λ more. absurd (omega arith))
fitting-digits (suc n) (c ∷ text) = by_digit (is_ascii_digit c) (prefix_len is_ascii_digit text) n (common_prefix_len stands_for (replicate n 100) text) (fitting-digits n text)

-- a form of three pieces: bytes, digits, and an end
pub record FitsThree (front end text : List ℕ) (n : ℕ) : Type 0 where
  pub in_front : fitting front text < length front → fitting (front ++ replicate n 100 ++ end) text ≡ fitting front text
  pub in_digits : (second : ℕ) → fitting front text ≡ length front → second ≡ leading_digits (drop (length front) text) → second < n
      → fitting (front ++ replicate n 100 ++ end) text ≡ length front + second
  pub behind : (second : ℕ) → fitting front text ≡ length front → second ≡ leading_digits (drop (length front) text) → n ≤ second
      → fitting (front ++ replicate n 100 ++ end) text ≡ length front + n + fitting end (drop (length front + n) text)

pub fitting-three : (front end text : List ℕ) (n : ℕ) → FitsThree front end text n
fitting-three front end text n =
    let digits : List ℕ = replicate n 100 in
    let size : length digits ≡ n = length-replicate n 100 in
    let both : length (front ++ digits) ≡ length front + n = length-append front digits ∙ ap (λ k. length front + k) size in
    let outer = fitting-append (front ++ digits) end text in
    let inner = fitting-append front digits text in
    let run = fitting-digits n (drop (length front) text) in record {
      in_front = λ less. let same = inner.0 less in outer.0 (omega (arith, same, both, less)) ∙ same;
      in_digits = λ second whole is less.
          let some = run.0 (omega (arith, is, less)) in
          let same : fitting (front ++ digits) text ≡ length front + second = omega (arith, inner.1 whole, some, is) in
          outer.0 (omega (arith, same, both, less)) ∙ same;
      behind = λ second whole is more.
          let some = run.1 (omega (arith, is, more)) in
          let same : fitting (front ++ digits) text ≡ length (front ++ digits) = omega (arith, inner.1 whole, some, both) in
          outer.1 same ∙ ap (λ k. k + fitting end (drop k text)) both;
    }

-- bytes that a name and a text have in common, or do not
abbrev same_letter : ℕ → ℕ → Bool
same_letter a b = to_ascii_lowercase a == to_ascii_lowercase b

pub in_common-yes : (name text : List ℕ) (i : ℕ) → i < length name → i < length text → to_ascii_lowercase (get_or name i 0) ≡ to_ascii_lowercase (get_or text i 0)
    → in_common (drop i name) (drop i text) ≡ 1 + in_common (drop (i + 1) name) (drop (i + 1) text)
unfolding in_common
in_common-yes name text i in_name in_text is =
    common_prefix_len-drop_yes same_letter name text i 0 0 in_name in_text (eq-eqb _ _ is)

pub in_common-no : (name text : List ℕ) (i : ℕ) → i < length name → i < length text → to_ascii_lowercase (get_or name i 0) ≢ to_ascii_lowercase (get_or text i 0)
    → in_common (drop i name) (drop i text) ≡ 0
unfolding in_common
in_common-no name text i in_name in_text is =
    common_prefix_len-drop_no same_letter name text i 0 0 in_name in_text (ne_eqb _ _ is)

pub in_common-end : (name text : List ℕ) (i : ℕ) → (length name ≤ i) ⊎ (length text ≤ i) → in_common (drop i name) (drop i text) ≡ 0
unfolding in_common
in_common-end name text i ends = common_end same_letter name text i ends
