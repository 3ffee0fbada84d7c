-- How far a piece is answered, and how far an input.
use Rattle.std.proofs.Common.{◌≡◌, ℕ, List, [], ◌∷◌, ◌++◌, take, refl, ap, sym, ◌∙◌, append_assoc, append-nil, arith, subst, Option}
use Rattle.std.proofs.lemmas.List.{take-take}
use Rattle.std.proofs.lemmas.Grind.{flat_map-append}
use Rattle.std.proofs.KnownBytes.{Appends-trans, Appends-nil, Consumes-trans}
use Rattle.std.specs.Io.KnownBytes.{Appends, Consumes, IsAtEnd}
use Rattle.caltool_form.specs.Lines.{but_last, last_part, ended_lines, rest_of, last_line, IsPiece}
use Rattle.caltool_form.specs.Private.{pieces_after}
use Rattle.caltool_form.specs.Answers.{answers_of, answer_of, output_of}
use Rattle.caltool_form.specs.Runs.{AnsweredAll, AnsweredPart}
use Rattle.caltool_form.proofs.Pieces.{pieces_after-piece, but_last-line, last_part-line, begun_within, ended_more, rest_more, same_last}

-- the piece up to `rest` is answered: `done` is written, `waiting` waits, and a line is carried
pub record Progress (held held' : Option (List ℕ)) (kept waiting start piece rest : List ℕ) : Type 0 where
  pub done : List ℕ
  pub wrote : Appends held held' done
  pub text : answers_of answer_of (but_last (pieces_after start piece)) ≡ done ++ (waiting ++ answers_of answer_of (but_last (pieces_after kept rest)))
  pub left : last_part (pieces_after start piece) ≡ last_part (pieces_after kept rest)

pub progress_start : (held : Option (List ℕ)) (kept waiting piece : List ℕ) → waiting ≡ [] → Progress held held kept waiting kept piece piece
progress_start held kept waiting piece none = record {
  done = [];
  wrote = Appends-nil held;
  text = ap (λ l. l ++ answers_of answer_of (but_last (pieces_after kept piece))) (sym none);
  left = refl;
}

-- one more line
pub progress_more : (a b c : Option (List ℕ)) (kept waiting start piece rest : List ℕ) (kept' waiting' xs after done sent : List ℕ)
    → Progress a b kept waiting start piece rest
    → rest ≡ xs ++ 10 ∷ after → IsPiece xs
    → Appends b c done → waiting ≡ done ++ sent
    → kept' ≡ [] → waiting' ≡ sent ++ answer_of (kept ++ xs) ++ 10 ∷ []
    → Progress a c kept' waiting' start piece after
progress_more a b c kept waiting start piece rest kept' waiting' xs after done sent p cut plain wrote parts none grown =
    let text = answer_of (kept ++ xs) in
    let tail = answers_of answer_of (but_last (pieces_after [] after)) in
    let one : answers_of answer_of (but_last (pieces_after kept rest)) ≡ (text ++ 10 ∷ []) ++ tail =
    ap (λ l. answers_of answer_of (but_last (pieces_after kept l))) cut ∙ ap (answers_of answer_of) (but_last-line kept xs after plain) in
    let regroup : p.done ++ ((done ++ sent) ++ ((text ++ 10 ∷ []) ++ tail)) ≡ (p.done ++ done) ++ ((sent ++ text ++ 10 ∷ []) ++ tail) = simp append_assoc in
    record {
      done = p.done ++ done;
      wrote = Appends-trans a b c p.done done p.wrote wrote;
      text = p.text ∙ ap (λ l. p.done ++ (waiting ++ l)) one ∙ ap (λ l. p.done ++ (l ++ ((text ++ 10 ∷ []) ++ tail))) parts
          ∙ regroup ∙ ap (λ l. (p.done ++ done) ++ (l ++ tail)) (sym grown) ∙ ap (λ l. (p.done ++ done) ++ (waiting' ++ answers_of answer_of (but_last (pieces_after l after)))) (sym none);
      left = p.left ∙ ap (λ l. last_part (pieces_after kept l)) cut ∙ last_part-line kept xs after plain ∙ ap (λ l. last_part (pieces_after l after)) (sym none);
    }

-- no newline is left, and all that waited is written
pub progress_end : (a b c : Option (List ℕ)) (kept waiting start piece rest : List ℕ) → Progress a b kept waiting start piece rest → IsPiece rest
    → Appends b c waiting → Appends a c (answers_of answer_of (but_last (pieces_after start piece)))
progress_end a b c kept waiting start piece rest p plain wrote =
    subst (Appends a c) (sym (p.text ∙ ap (λ l. p.done ++ (waiting ++ answers_of answer_of (but_last l))) (pieces_after-piece kept rest plain) ∙ ap (λ l. p.done ++ l) (append-nil waiting)))
    (Appends-trans a b c p.done waiting p.wrote wrote)

-- a write failed
pub progress_fault : (a b c : Option (List ℕ)) (kept waiting start piece rest : List ℕ) → Progress a b kept waiting start piece rest
    → (n : ℕ) × Appends b c (take n waiting) → (m : ℕ) × Appends a c (take m (answers_of answer_of (but_last (pieces_after start piece))))
progress_fault a b c kept waiting start piece rest p part =
    begun_within a b c _ p.done waiting (answers_of answer_of (but_last (pieces_after kept rest))) p.text p.wrote part

-- what is carried in the end
pub progress_left : (a b : Option (List ℕ)) (kept waiting start piece rest kept' : List ℕ) → Progress a b kept waiting start piece rest → IsPiece rest
    → kept' ≡ take 121 (kept ++ rest) → kept' ≡ take 121 (last_part (pieces_after start piece))
progress_left a b kept waiting start piece rest kept' p plain pushed =
    pushed ∙ ap (take 121) (sym (p.left ∙ ap last_part (pieces_after-piece kept rest plain)))

-- the input up to here is answered, and its last piece carried
pub record Ran (left left' held held' : Option (List ℕ)) (kept : List ℕ) : Type 0 where
  pub bytes : List ℕ
  pub read : Consumes left left' bytes
  pub wrote : Appends held held' (answers_of answer_of (ended_lines bytes))
  pub carries : kept ≡ take 121 (rest_of bytes)

-- what is kept answers as the whole line does
kept_same : (a b d e : Option (List ℕ)) (kept : List ℕ) (p : Ran a b d e kept) → take 121 kept ≡ take 121 (rest_of p.bytes)
kept_same a b d e kept p = ap (take 121) p.carries ∙ take-take 121 121 (rest_of p.bytes) (omega arith)

output_is : (bytes : List ℕ) → output_of answer_of bytes ≡ answers_of answer_of (ended_lines bytes) ++ answers_of answer_of (last_line (rest_of bytes))
output_is bytes = flat_map-append _ (ended_lines bytes) (last_line (rest_of bytes))

pub ran_more : (a b c d e f : Option (List ℕ)) (kept kept' more : List ℕ) (p : Ran a b d e kept) → Consumes b c more
    → Appends e f (answers_of answer_of (but_last (pieces_after kept more))) → kept' ≡ take 121 (last_part (pieces_after kept more))
    → Ran a c d f kept'
ran_more a b c d e f kept kept' more p read wrote carries = record {
  bytes = p.bytes ++ more;
  read = Consumes-trans a b c p.bytes more p.read read;
  wrote = subst (Appends d f) (sym (ended_more kept p.bytes more (kept_same a b d e kept p))) (Appends-trans d e f _ _ p.wrote wrote);
  carries = carries ∙ rest_more kept p.bytes more (kept_same a b d e kept p);
}

pub ran_all : (a b c d e f : Option (List ℕ)) (kept more : List ℕ) (p : Ran a b d e kept) → Consumes b c more → more ≡ [] → IsAtEnd c
    → Appends e f (answers_of answer_of (last_line kept)) → AnsweredAll answer_of a c d f
ran_all a b c d e f kept more p read none end wrote = (
  p.bytes,
  record {
    read = subst (Consumes a c) (ap (λ l. p.bytes ++ l) none ∙ append-nil p.bytes) (Consumes-trans a b c p.bytes more p.read read);
    written = subst (Appends d f) (sym (output_is p.bytes ∙ ap (λ l. answers_of answer_of (ended_lines p.bytes) ++ l) (sym (same_last kept _ (kept_same a b d e kept p))))) (Appends-trans d e f _ _ p.wrote wrote);
  },
  end,
)

-- a write failed in the midst of a piece
pub ran_part : (a b c d e f : Option (List ℕ)) (kept more : List ℕ) (p : Ran a b d e kept) → Consumes b c more
    → (n : ℕ) × Appends e f (take n (answers_of answer_of (but_last (pieces_after kept more)))) → AnsweredPart answer_of a c d f
ran_part a b c d e f kept more p read part =
    let all = p.bytes ++ more in
    let last = answers_of answer_of (last_line (rest_of all)) in
    let next = answers_of answer_of (but_last (pieces_after kept more)) in
    let is : output_of answer_of all ≡ answers_of answer_of (ended_lines p.bytes) ++ (next ++ last) =
    output_is all ∙ ap (λ l. l ++ last) (ended_more kept p.bytes more (kept_same a b d e kept p)) ∙ append_assoc (answers_of answer_of (ended_lines p.bytes)) next last in
    let (m, held) = begun_within d e f (output_of answer_of all) (answers_of answer_of (ended_lines p.bytes)) next last is p.wrote part in
    (all, m, record { read = Consumes-trans a b c p.bytes more p.read read; written = held })

-- a write failed after the end
pub ran_part_last : (a b c d e f : Option (List ℕ)) (kept more : List ℕ) (p : Ran a b d e kept) → Consumes b c more → more ≡ []
    → (n : ℕ) × Appends e f (take n (answers_of answer_of (last_line kept))) → AnsweredPart answer_of a c d f
ran_part_last a b c d e f kept more p read none part =
    let last = answers_of answer_of (last_line kept) in
    let is : output_of answer_of p.bytes ≡ answers_of answer_of (ended_lines p.bytes) ++ (last ++ []) =
    output_is p.bytes ∙ ap (λ l. answers_of answer_of (ended_lines p.bytes) ++ l) (sym (same_last kept _ (kept_same a b d e kept p)) ∙ sym (append-nil last)) in
    let (m, held) = begun_within d e f (output_of answer_of p.bytes) (answers_of answer_of (ended_lines p.bytes)) last [] is p.wrote part in
    (p.bytes, m, record { read = subst (Consumes a c) (ap (λ l. p.bytes ++ l) none ∙ append-nil p.bytes) (Consumes-trans a b c p.bytes more p.read read); written = held })
