-- A folded text is unfolded again.
use Rattle.std.proofs.Common.{◌≡◌, ℕ, ◌+◌, ◌<◌, ◌≤◌, ◌==◌, Bool, true, false, List, [], ◌∷◌, ◌++◌, length, drop, refl, sym, ap, ◌∙◌, append-nil}
use Rattle.std.specs.Prelude.{not, ◌&&◌, ◌||◌, codes, slice_index, if◌then◌else◌}
use Rattle.std.proofs.Math.Bool.{and-false, and-true}
use Rattle.std.proofs.Math.ListN.{drop_of_length-le}
use Rattle.std.proofs.Math.Bool.{and-false, and-true}
use Rattle.std.proofs.lemmas.Bool.{and_from, and_parts, eqb-true, not-true}
use Rattle.std.proofs.lemmas.List.{drop_more}
use Rattle.chrono_text.specs.Lists.{is_blank}
use Rattle.calendar_text.specs.Folds.{column_behind, folded, folded_behind, folded_byte, may_fold, may_fold_behind, may_stand_behind, unfolded, unfolded_behind}

-- ---- the loop that folds

pub fold_step : (text : List ℕ) (at column : ℕ) → at < length text
    → folded_behind column (drop at text) ≡ folded_byte column (slice_index text at) ++ folded_behind (column_behind column (slice_index text at)) (drop (at + 1) text)
unfolding folded_behind
fold_step text at column inside = ap (folded_behind column) (drop_more text at 0 inside)

pub fold_end : (text front : List ℕ) (at column : ℕ) → length text ≤ at → front ++ folded_behind column (drop at text) ≡ front
unfolding folded_behind
fold_end text front at column end = ap (λ rest. front ++ folded_behind column rest) (drop_of_length-le text {i = at} end) ∙ append-nil front

-- ---- and what is unfolded of it

-- a byte that is no part of a line break or of a fold is kept
kept_byte : (before b : ℕ) (rest : List ℕ) → (b == 13) ≡ false → (b == 10) ≡ false → (is_blank b && (before == 10)) ≡ false
    → unfolded_behind before (b ∷ rest) ≡ b ∷ unfolded_behind b rest
unfolding unfolded_behind
kept_byte before b rest cr lf blank =
    let behind = slice_index rest 0 in
    let left = ap (λ (t : Bool). (t && (behind == 10)) || (((b == 10) && is_blank behind) || (is_blank b && (before == 10)))) cr
    ∙ ap (λ (t : Bool). (t && is_blank behind) || (is_blank b && (before == 10))) lf ∙ blank in
    ap (λ (t : Bool). if t then unfolded_behind b rest else b ∷ unfolded_behind b rest) left

-- the first byte of a folded line is no blank
no_blank_byte : (c : ℕ) (rest : List ℕ) (t : Bool) → is_blank c ≡ false → is_blank (slice_index ((if t then codes "\r\n" else c ∷ []) ++ rest) 0) ≡ false
no_blank_byte c rest true none = refl
no_blank_byte c rest false none = none

no_blank : (bs : List ℕ) → may_fold_behind 10 bs ≡ true → is_blank (slice_index (folded_behind 0 bs) 0) ≡ false
unfolding folded_behind
no_blank [] ok = refl
no_blank (c ∷ cs) ok =
    let parts = and_parts (may_stand_behind 10 c) (may_fold_behind c cs) ok in
    let follow = and_parts (not (c == 13)) (not (is_blank c && (10 == 10))) parts.0 in
    no_blank_byte c (folded_behind (column_behind 0 c) cs) (c == 10) (sym (and-true (is_blank c)) ∙ not-true (is_blank c && (10 == 10)) follow.1)

-- a byte with its line break, with its fold, and as it is
cases : (before column b : ℕ) (bs : List ℕ) (t : Bool) → (b == 10) ≡ t → (u : Bool) → (b == 13) ≡ false → (is_blank b && (before == 10)) ≡ false
    → may_fold_behind b bs ≡ true → ((k : ℕ) → unfolded_behind b (folded_behind k bs) ≡ bs)
    → unfolded_behind before ((if t then codes "\r\n" else if u then codes "\r\n " ++ b ∷ [] else b ∷ []) ++ folded_behind (if t then 0 else if u then 2 else column + 1) bs) ≡ b ∷ bs
unfolding unfolded_behind
cases before column b bs true line u cr blank ok rest =
    let is = eqb-true b 10 line in
    let tail = folded_behind 0 bs in
    let first = no_blank bs (ap (λ n. may_fold_behind n bs) (sym is) ∙ ok) in
    ap (λ (t : Bool). if (t || false) then unfolded_behind 10 tail else 10 ∷ unfolded_behind 10 tail) first
    ∙ ap (λ n. n ∷ unfolded_behind n tail) (sym is) ∙ ap (λ r. b ∷ r) (rest 0)
cases before column b bs false line true cr blank ok rest =
    kept_byte 32 b (folded_behind 2 bs) cr line (and-false (is_blank b)) ∙ ap (λ r. b ∷ r) (rest 2)
cases before column b bs false line false cr blank ok rest =
    kept_byte before b (folded_behind (column + 1) bs) cr line blank ∙ ap (λ r. b ∷ r) (rest (column + 1))

fold_back : (before column : ℕ) (text : List ℕ) → may_fold_behind before text ≡ true → unfolded_behind before (folded_behind column text) ≡ text
unfolding unfolded_behind folded_behind
fold_back before column [] ok = refl
fold_back before column (b ∷ bs) ok =
    let parts = and_parts (may_stand_behind before b) (may_fold_behind b bs) ok in
    let follow = and_parts (not (b == 13)) (not (is_blank b && (before == 10))) parts.0 in
    cases before column b bs (b == 10) refl (column == 75) (not-true (b == 13) follow.0) (not-true (is_blank b && (before == 10)) follow.1) parts.1
    (λ k. fold_back b k bs parts.1)

-- the beginning of a text is the beginning of a line
begins : (text : List ℕ) → may_fold_behind 10 text ≡ true → may_fold_behind 0 text ≡ true
begins [] ok = refl
begins (b ∷ bs) ok =
    let parts = and_parts (may_stand_behind 10 b) (may_fold_behind b bs) ok in
    let follow = and_parts (not (b == 13)) (not (is_blank b && (10 == 10))) parts.0 in
    and_from (may_stand_behind 0 b) (may_fold_behind b bs) (and_from (not (b == 13)) (not (is_blank b && (0 == 10))) follow.0 (ap not (and-false (is_blank b)))) parts.1

pub folded_back : (text : List ℕ) → may_fold text ≡ true → unfolded (folded text) ≡ text
unfolding may_fold
folded_back text ok = fold_back 0 0 text (begins text ok)
