-- The first word of a text.
use Rattle.std.proofs.Common.{◌≡◌, ◌≢◌, ◌==◌, ◌<◌, ℤ, ℕ, suc, All, true, false, inl, inr, List, [], ◌∷◌, ◌++◌, length, get_or, take, drop, ap, sym, subst, ◌∙◌, append-nil, arith, take-append-drop, length-drop}
use Rattle.std.proofs.lemmas.Grind.{common_steps}
use Rattle.std.specs.Int.{IsInRange}
use Rattle.std.specs.List.{AllByRecursion}
use Rattle.std.proofs.lemmas.Bool.{cases_eq, eq-eqb, ne_eqb}
use Rattle.std.proofs.lemmas.List.Splits.{slice_split_none, slice_split_at, slice_split-cons_yes}
use Rattle.std.proofs.lemmas.List.Elements.{All-cons, All-nil}
use Rattle.chrono_text.specs.Numbers.{StandsBefore, WritesNumber}
use Rattle.caltool_command.specs.Words.{words, IsWord}
use Rattle.caltool_command.specs.Private.{EndsWord}

abbrev pub NotSpace : ℕ → Type 0
NotSpace x = x ≢ 32

pub no_space : (xs : List ℕ) → IsWord xs → All (λ x. (x == 32) ≡ false) xs
no_space xs plain k e m = ne_eqb _ 32 (plain k e m)

-- a word that a space or the end follows
pub words_front : (xs rest : List ℕ) → IsWord xs → EndsWord rest → words (xs ++ rest) ≡ xs ∷ drop 1 (words rest)
words_front xs [] plain ends = ap words (append-nil xs) ∙ slice_split_none (λ x. x == 32) xs (no_space xs plain)
words_front xs (y ∷ ys) plain ends =
    let is : y ≡ 32 = omega (arith, ends) in
    let test : (y == 32) ≡ true = eq-eqb y 32 is in
    slice_split_at (λ x. x == 32) xs y ys (no_space xs plain) test ∙ ap (λ parts. xs ∷ drop 1 parts) (sym (slice_split-cons_yes (λ x. x == 32) y ys test))

-- the same at a length
pub words_at : (text : List ℕ) (len : ℕ) → IsWord (take len text) → EndsWord (drop len text) → words text ≡ take len text ∷ drop 1 (words (drop len text))
words_at text len plain ends = ap words (sym (take-append-drop len text)) ∙ words_front (take len text) (drop len text) plain ends

-- a number has no space in it
word_of_range : (xs : List ℕ) → AllByRecursion (IsInRange 48 57) xs → IsWord xs
word_of_range [] h = All-nil NotSpace
word_of_range (x ∷ xs) h = All-cons NotSpace x xs (λ e. omega (arith, h.0)) (word_of_range xs h.1)

pub word_of_number : (text : List ℕ) (z : ℤ) → WritesNumber text z → IsWord text
word_of_number text z (inl (digits, is)) = word_of_range text digits.digits
word_of_number text z (inr (xs, cut, digits, is)) = subst IsWord (sym cut) (All-cons NotSpace 45 xs (λ e. omega (arith, e)) (word_of_range xs digits.digits))

-- a space or the end at a length
pub ends_at : (text : List ℕ) (len : ℕ) → (len < length text → get_or text len 0 ≡ 32) → EndsWord (drop len text)
ends_at text len h = λ more. let within : len < length text = omega (arith, length-drop len text) in grind (arith, common_steps, h within)

-- where the first word of a text ends
pub record FirstWord (text : List ℕ) : Type 0 where
  pub len : ℕ
  pub stands : StandsBefore 32 text len
  pub plain : IsWord (take len text)

pub first_word : (text : List ℕ) → FirstWord text
first_word [] = record { len = 0; stands = record { within = omega arith; stops = λ less. omega (arith, less) }; plain = All-nil NotSpace }
first_word (x ∷ xs) = elim (cases_eq x 32) as (λ _. FirstWord (x ∷ xs)) [
  | inl is ↦ record { len = 0; stands = record { within = omega arith; stops = λ less. is }; plain = All-nil NotSpace }
  | inr ne ↦
      let rest = first_word xs in
      record {
        len = suc rest.len;
        stands = record { within = omega (arith, rest.stands.within); stops = λ less. rest.stands.stops (omega arith) };
        plain = All-cons NotSpace x (take rest.len xs) ne rest.plain;
      }
]
