-- Lines that come in pieces, and writers that hold a beginning of a text.
use Rattle.std.proofs.Common.{◌≡◌, ◌==◌, ℕ, zero, suc, ◌+◌, ◌-◌, ◌<◌, All, min, true, false, inl, inr, List, [], ◌∷◌, ◌++◌, length, take, refl, ap, sym, ◌∙◌, arith, subst, Option, codes, Result, Ok, Err, OnErr, IsErrOf}
use Rattle.std.specs.List.{onto_first}
use Rattle.std.specs.Option.{option_map_or}
use Rattle.std.proofs.lemmas.Bool.{cases_lt, cases_eq, eq-eqb, ne_eqb, lt-ltb, cond-true}
use Rattle.std.proofs.lemmas.List.{take_min, take_all, take-append-le, length-take}
use Rattle.std.proofs.lemmas.List.Splits.{slice_split_none, slice_split_at, slice_split-cons_yes, slice_split-cons_no, length-slice_split}
use Rattle.std.proofs.lemmas.Grind.{flat_map-append}
use Rattle.std.proofs.Math.Seq.{take-append-add}
use Rattle.std.proofs.KnownBytes.{Appends-trans}
use Rattle.std.specs.Io.KnownBytes.{Appends}
use Rattle.caltool_form.specs.Lines.{newline_parts, but_last, last_part, ended_lines, rest_of, last_line, IsPiece}
use Rattle.caltool_form.specs.Private.{onto_front, pieces_after}
use Rattle.caltool_form.specs.Answers.{answer_of, answer_to, answers_of}
use Rattle.caltool_command.specs.Commands.{is_long, command_of}

-- a front of two lists
pub take-append : (n : ℕ) (xs ys : List ℕ) → take n (xs ++ ys) ≡ take n xs ++ take (n - length xs) ys
take-append zero xs ys = let e : 0 - length xs ≡ 0 = omega arith in rw e refl
take-append (suc n) [] ys = let e : suc n - 0 ≡ suc n = omega arith in rw e refl
take-append (suc n) (x ∷ xs) ys = let e : suc n - suc (length xs) ≡ n - length xs = omega arith in rw e (ap (λ l. x ∷ l) (take-append n xs ys))

-- what stands behind the first part

cons-but_last : (part : List ℕ) (parts : List (List ℕ)) → 0 < length parts → but_last (part ∷ parts) ≡ part ∷ but_last parts
cons-but_last part [] some = absurd (omega arith)
cons-but_last part (next ∷ parts) some = refl

cons-last_part : (part : List ℕ) (parts : List (List ℕ)) → 0 < length parts → last_part (part ∷ parts) ≡ last_part parts
cons-last_part part [] some = absurd (omega arith)
cons-last_part part (next ∷ parts) some = refl

pub some_pieces : (bytes : List ℕ) → 0 < length (newline_parts bytes)
some_pieces bytes = omega (arith, length-slice_split (λ x. x == 10) bytes)

pub no_newline : (xs : List ℕ) → IsPiece xs → All (λ x. (x == 10) ≡ false) xs
no_newline xs plain k e m = ne_eqb _ 10 (plain k e m)

onto_nothing : (parts : List (List ℕ)) → 0 < length parts → onto_front [] parts ≡ parts
onto_nothing [] some = absurd (omega arith)
onto_nothing (part ∷ parts) some = refl

pub pieces_after-nothing : (bytes : List ℕ) → pieces_after [] bytes ≡ newline_parts bytes
pieces_after-nothing bytes = onto_nothing (newline_parts bytes) (some_pieces bytes)

-- bytes without a newline end no line
pub pieces_after-piece : (line xs : List ℕ) → IsPiece xs → pieces_after line xs ≡ (line ++ xs) ∷ []
pieces_after-piece line xs plain = ap (onto_front line) (slice_split_none (λ x. x == 10) xs (no_newline xs plain))

-- a line ends at the first newline
pieces_after-line : (line xs ys : List ℕ) → IsPiece xs → pieces_after line (xs ++ 10 ∷ ys) ≡ (line ++ xs) ∷ newline_parts ys
pieces_after-line line xs ys plain = ap (onto_front line) (slice_split_at (λ x. x == 10) xs 10 ys (no_newline xs plain) refl)

pub but_last-line : (line xs ys : List ℕ) → IsPiece xs → but_last (pieces_after line (xs ++ 10 ∷ ys)) ≡ (line ++ xs) ∷ but_last (pieces_after [] ys)
but_last-line line xs ys plain =
    ap but_last (pieces_after-line line xs ys plain) ∙ cons-but_last (line ++ xs) (newline_parts ys) (some_pieces ys) ∙ ap (λ l. (line ++ xs) ∷ but_last l) (sym (pieces_after-nothing ys))

pub last_part-line : (line xs ys : List ℕ) → IsPiece xs → last_part (pieces_after line (xs ++ 10 ∷ ys)) ≡ last_part (pieces_after [] ys)
last_part-line line xs ys plain =
    ap last_part (pieces_after-line line xs ys plain) ∙ cons-last_part (line ++ xs) (newline_parts ys) (some_pieces ys) ∙ ap last_part (sym (pieces_after-nothing ys))

-- the parts of two texts: those that end in the first, and those of the second behind what stands last

onto_first-onto_front : (x : ℕ) (line : List ℕ) (parts : List (List ℕ)) → onto_first x (onto_front line parts) ≡ onto_front (x ∷ line) parts
onto_first-onto_front x line [] = refl
onto_first-onto_front x line (part ∷ parts) = refl

first_byte : (x : ℕ) (parts behind : List (List ℕ)) → 0 < length parts
    → onto_first x (but_last parts ++ onto_front (last_part parts) behind) ≡ but_last (onto_first x parts) ++ onto_front (last_part (onto_first x parts)) behind
first_byte x [] behind some = absurd (omega arith)
first_byte x (part ∷ []) behind some = onto_first-onto_front x part behind
first_byte x (part ∷ next ∷ parts) behind some = refl

newline_parts-append : (xs ys : List ℕ) → newline_parts (xs ++ ys) ≡ ended_lines xs ++ pieces_after (rest_of xs) ys
newline_parts-append [] ys = sym (pieces_after-nothing ys)
newline_parts-append (x ∷ xs) ys =
    let is_newline = λ (y : ℕ). y == 10 in
    let behind = newline_parts ys in
    elim (cases_eq x 10) as (λ _. newline_parts (x ∷ xs ++ ys) ≡ ended_lines (x ∷ xs) ++ pieces_after (rest_of (x ∷ xs)) ys) [
      | inl is ↦
          let test = eq-eqb x 10 is in
          let here : newline_parts (x ∷ xs) ≡ [] ∷ newline_parts xs = slice_split-cons_yes is_newline x xs test in
          let ends : ended_lines (x ∷ xs) ≡ [] ∷ ended_lines xs = ap but_last here ∙ cons-but_last [] (newline_parts xs) (some_pieces xs) in
          let last : rest_of (x ∷ xs) ≡ rest_of xs = ap last_part here ∙ cons-last_part [] (newline_parts xs) (some_pieces xs) in
          slice_split-cons_yes is_newline x (xs ++ ys) test ∙ ap (λ l. [] ∷ l) (newline_parts-append xs ys)
          ∙ ap (λ l. l ++ onto_front (rest_of xs) behind) (sym ends) ∙ ap (λ l. ended_lines (x ∷ xs) ++ onto_front l behind) (sym last)
      | inr ne ↦
          let test = ne_eqb x 10 ne in
          let here : newline_parts (x ∷ xs) ≡ onto_first x (newline_parts xs) = slice_split-cons_no is_newline x xs test in
          slice_split-cons_no is_newline x (xs ++ ys) test ∙ ap (onto_first x) (newline_parts-append xs ys) ∙ first_byte x (newline_parts xs) behind (some_pieces xs)
          ∙ ap (λ parts. but_last parts ++ onto_front (last_part parts) behind) (sym here)
    ]

but_last-append : (cut : List (List ℕ)) (line : List ℕ) (parts : List (List ℕ)) → but_last (cut ++ onto_front line parts) ≡ cut ++ but_last (onto_front line parts)
but_last-append [] line parts = refl
but_last-append (part ∷ cut) line parts =
    cons-but_last part (cut ++ onto_front line parts) (some_behind cut line parts) ∙ ap (λ l. part ∷ l) (but_last-append cut line parts)
  where
    some_behind : (cut : List (List ℕ)) (line : List ℕ) (parts : List (List ℕ)) → 0 < length (cut ++ onto_front line parts)
    some_behind [] line [] = omega arith
    some_behind [] line (part ∷ parts) = omega arith
    some_behind (part ∷ cut) line parts = omega arith

last_part-append : (cut : List (List ℕ)) (line : List ℕ) (parts : List (List ℕ)) → last_part (cut ++ onto_front line parts) ≡ last_part (onto_front line parts)
last_part-append [] line parts = refl
last_part-append (part ∷ []) line [] = refl
last_part-append (part ∷ []) line (next ∷ parts) = refl
last_part-append (part ∷ next ∷ cut) line parts = last_part-append (next ∷ cut) line parts

-- a writer that holds a beginning of the bytes, and then some more of them
begun_more : (a b c : Option (List ℕ)) (bytes done rest : List ℕ) (n : ℕ) → bytes ≡ done ++ rest → Appends a b done → Appends b c (take n rest) → (m : ℕ) × Appends a c (take m bytes)
begun_more a b c bytes done rest n e h k =
    (length done + n, subst (Appends a c) (sym (ap (λ l. take (length done + n) l) e ∙ take-append-add done rest n)) (Appends-trans a b c done (take n rest) h k))

-- of a line that is too long the first 121 bytes have its answer
pub clipped : (line : List ℕ) → answer_of (take 121 line) ≡ answer_of line
unfolding answer_of command_of
clipped line = elim (cases_lt (length line) 121) as (λ _. answer_of (take 121 line) ≡ answer_of line) [
  | inl short ↦ ap answer_of (take_all 121 line (omega arith))
  | inr long ↦
      let e : length (take 121 line) ≡ 121 = omega (arith, length-take 121 line) in
      let a : is_long (take 121 line) ≡ true = lt-ltb _ _ (omega arith) in
      let b : is_long line ≡ true = lt-ltb _ _ (omega arith) in
      ap (λ c. option_map_or answer_to c (codes "error")) (cond-true _ _ _ a ∙ sym (cond-true _ _ _ b))
]

-- a writer that holds what was done, and then a beginning of the next part
pub begun_within : (a b c : Option (List ℕ)) (all done front more : List ℕ) → all ≡ done ++ (front ++ more) → Appends a b done
    → (n : ℕ) × Appends b c (take n front) → (m : ℕ) × Appends a c (take m all)
begun_within a b c all done front more e h (n, k) =
    let same : take (min n (length front)) (front ++ more) ≡ take n front = take-append-le (min n (length front)) front more (omega arith) ∙ take_min n front in
    begun_more a b c all done (front ++ more) (min n (length front)) e h (subst (Appends b c) (sym same) k)

-- a fact of any error
pub on_err_any : {E T : Type 0} (r : Result T E) (P : Type 0) → P → OnErr r P
on_err_any (Ok x) P p = tt
on_err_any (Err e) P p = p

pub from_err_of : {E T : Type 0} (r : Result T E) (e : E) (P : Type 0) → IsErrOf r e → OnErr r P → P
from_err_of (Ok x) e P h p = let no : ⊥ = cc in absurd no
from_err_of (Err x) e P h p = p

-- two lines that are kept alike answer alike, however they go on
pub same_more : (a b more : List ℕ) → take 121 a ≡ take 121 b → take 121 (a ++ more) ≡ take 121 (b ++ more)
same_more a b more h =
    let room : 121 - length a ≡ 121 - length b = omega (arith, ap length h, length-take 121 a, length-take 121 b) in
    take-append 121 a more ∙ ap (λ l. l ++ take (121 - length a) more) h ∙ ap (λ n. take 121 b ++ take n more) room ∙ sym (take-append 121 b more)

-- so what answers lines that are kept alike
same_answer : (a b : List ℕ) → take 121 a ≡ take 121 b → answer_of a ≡ answer_of b
same_answer a b h = sym (clipped a) ∙ ap answer_of h ∙ clipped b

same_ended : (a b : List ℕ) (parts : List (List ℕ)) → take 121 a ≡ take 121 b
    → answers_of answer_of (but_last (onto_front a parts)) ≡ answers_of answer_of (but_last (onto_front b parts))
same_ended a b [] h = refl
same_ended a b (part ∷ []) h = refl
same_ended a b (part ∷ next ∷ parts) h =
    ap (λ l. (l ++ 10 ∷ []) ++ answers_of answer_of (but_last (next ∷ parts))) (same_answer (a ++ part) (b ++ part) (same_more a b part h))

-- the answers of two texts, where the last line of the first is kept
pub ended_more : (kept bytes more : List ℕ) → take 121 kept ≡ take 121 (rest_of bytes)
    → answers_of answer_of (ended_lines (bytes ++ more))
    ≡ answers_of answer_of (ended_lines bytes) ++ answers_of answer_of (but_last (pieces_after kept more))
ended_more kept bytes more h =
    ap (λ parts. answers_of answer_of (but_last parts)) (newline_parts-append bytes more)
    ∙ ap (answers_of answer_of) (but_last-append (ended_lines bytes) (rest_of bytes) (newline_parts more))
    ∙ flat_map-append _ (ended_lines bytes) (but_last (pieces_after (rest_of bytes) more))
    ∙ ap (λ l. answers_of answer_of (ended_lines bytes) ++ l) (sym (same_ended kept (rest_of bytes) (newline_parts more) h))

pub same_last : (a b : List ℕ) → take 121 a ≡ take 121 b
    → answers_of answer_of (last_line a) ≡ answers_of answer_of (last_line b)
same_last [] [] h = refl
same_last [] (y ∷ b) h = let e : 0 ≡ length (take 121 (y ∷ b)) = ap length h in absurd (omega (arith, e, length-take 121 (y ∷ b)))
same_last (x ∷ a) [] h = let e : length (take 121 (x ∷ a)) ≡ 0 = ap length h in absurd (omega (arith, e, length-take 121 (x ∷ a)))
same_last (x ∷ a) (y ∷ b) h = ap (λ l. (l ++ 10 ∷ []) ++ []) (same_answer (x ∷ a) (y ∷ b) h)

same_left : (a b : List ℕ) (parts : List (List ℕ)) → take 121 a ≡ take 121 b → take 121 (last_part (onto_front a parts)) ≡ take 121 (last_part (onto_front b parts))
same_left a b [] h = h
same_left a b (part ∷ []) h = same_more a b part h
same_left a b (part ∷ next ∷ parts) h = refl

pub rest_more : (kept bytes more : List ℕ) → take 121 kept ≡ take 121 (rest_of bytes) → take 121 (last_part (pieces_after kept more)) ≡ take 121 (rest_of (bytes ++ more))
rest_more kept bytes more h =
    same_left kept (rest_of bytes) (newline_parts more) h
    ∙ ap (take 121) (sym (ap last_part (newline_parts-append bytes more) ∙ last_part-append (ended_lines bytes) (rest_of bytes) (newline_parts more)))
