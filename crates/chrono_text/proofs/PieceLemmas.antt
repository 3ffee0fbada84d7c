-- Pieces of a text that are read one after another, and texts that are cut at the first of a byte.
use Rattle.std.proofs.Common.{◌≡◌, ◌==◌, ℕ, ◌+◌, ◌-◌, ◌<◌, ◌≤◌, true, false, List, [], ◌∷◌, ◌++◌, length, take, drop, refl, sym, ap, ◌∙◌, not, append_assoc, arith, length-append, length-drop, length-take}
use borrow.Author.Tests.{ltb-true, ltb-false}
use Rattle.std.specs.List.{after_first, before_first, position_or_len}
use Rattle.std.proofs.Math.ListN.{drop_of_length-le}
use Rattle.std.proofs.Math.Seq.{drop-append_seam, take-append_seam}
use Rattle.std.proofs.lemmas.Bool.{eq-eqb, lt-ltb}
use Rattle.std.proofs.lemmas.List.{take_all}
use Rattle.chrono_text.specs.Lists.{pieces, pieces_behind, stands_in}
use Rattle.chrono_text.proofs.ListLemmas.{lacks, prefix_ends}

pub pieces_more : (separator : ℕ) (text : List ℕ) → 1 ≤ length text → pieces_behind separator text ≡ pieces separator (take (length text - 1) (drop 1 text))
pieces_more separator [] some = absurd (omega (arith, some))
pieces_more separator (b ∷ bs) some = ap (pieces separator) (sym (take_all (length (b ∷ bs) - 1) bs (omega arith)))

pub pieces_none : (separator : ℕ) (text : List ℕ) → length text < 1 → pieces_behind separator text ≡ []
pieces_none separator [] none = refl
pieces_none separator (b ∷ bs) none = absurd (omega (arith, none))

pub size_more : (text : List ℕ) → 1 ≤ length text → length (take (length text - 1) (drop 1 text)) + 1 ≡ length text
size_more text some = simp (length-take, length-drop) (omega arith)

-- what stands before the first separator, the separator, and what stands behind it are the text
cut_size : (text : List ℕ) (n : ℕ) → n < length text → length (take n text) + 1 + length (drop (n + 1) text) ≡ length text
cut_size text n inside = simp (length-take, length-drop) (omega arith)

pub cut_whole : (separator : ℕ) (text front back : List ℕ) → stands_in separator text ≡ true
    → front ≡ before_first (λ x. x == separator) text → back ≡ after_first (λ x. x == separator) text → length front + 1 + length back ≡ length text
cut_whole separator text front back stands is_front is_back =
    rw (is_front, is_back) (cut_size text (position_or_len (λ x. x == separator) text) (ltb-true _ _ stands))

-- behind the first separator nothing stands if there is none
pub nothing_behind : (separator : ℕ) (text : List ℕ) → stands_in separator text ≡ false → after_first (λ x. x == separator) text ≡ []
nothing_behind separator text none =
    drop_of_length-le text {i = position_or_len (λ x. x == separator) text + 1} (omega (arith, ltb-false _ _ none))

-- ---- what stands before a separator, and what stands behind it

position_is : (sep : ℕ) (front rest : List ℕ) → lacks sep front ≡ true → position_or_len (λ x. x == sep) (front ++ sep ∷ rest) ≡ length front
position_is sep front rest none =
    prefix_ends (λ x. not (x == sep)) front (sep ∷ rest) none (rw (ap not (eq-eqb sep sep refl)) refl)

pub sep_stands : (sep : ℕ) (front rest : List ℕ) → lacks sep front ≡ true → stands_in sep (front ++ sep ∷ rest) ≡ true
sep_stands sep front rest none =
    lt-ltb (position_or_len (λ x. x == sep) (front ++ sep ∷ rest)) (length (front ++ sep ∷ rest))
    (omega (arith, position_is sep front rest none, length-append front (sep ∷ rest)))

pub before_sep : (sep : ℕ) (front rest : List ℕ) → lacks sep front ≡ true → before_first (λ x. x == sep) (front ++ sep ∷ rest) ≡ front
before_sep sep front rest none = ap (λ n. take n (front ++ sep ∷ rest)) (position_is sep front rest none) ∙ take-append_seam front (sep ∷ rest)

pub after_sep : (sep : ℕ) (front rest : List ℕ) → lacks sep front ≡ true → after_first (λ x. x == sep) (front ++ sep ∷ rest) ≡ rest
after_sep sep front rest none =
    let one : position_or_len (λ x. x == sep) (front ++ sep ∷ rest) + 1 ≡ length (front ++ sep ∷ []) =
    omega (arith, position_is sep front rest none, length-append front (sep ∷ [])) in
    ap (λ n. drop n (front ++ sep ∷ rest)) one
    ∙ ap (λ l. drop (length (front ++ sep ∷ [])) l) (sym (append_assoc front (sep ∷ []) rest))
    ∙ drop-append_seam (front ++ sep ∷ []) rest
