-- The lines are the only cut.
use Rattle.std.proofs.Common.{◌≡◌, ◌==◌, ◌<◌, ℕ, List, [], ◌∷◌, ◌++◌, length, refl, ap, sym, ◌∙◌, append_assoc, arith}
use Rattle.std.specs.List.{flat_map, join_with_byte, AllByRecursion}
use Rattle.std.proofs.lemmas.List.Splits.{join_with_byte-slice_split, slice_split_none, slice_split_at}
use Rattle.caltool_form.specs.Lines.{newline_parts, but_last, last_part, ended_lines, rest_of, IsPiece, IsCut}
use Rattle.caltool_form.proofs.Pieces.{some_pieces, no_newline}
use Rattle.caltool_command.proofs.Parts.{plain_parts}

abbrev joined_of : List (List ℕ) → List ℕ → List ℕ
joined_of cut rest = flat_map (λ line. line ++ 10 ∷ []) cut ++ rest

-- parts, joined by newlines
joined_parts : (part : List ℕ) (parts : List (List ℕ)) → join_with_byte 10 (part ∷ parts) ≡ joined_of (but_last (part ∷ parts)) (last_part (part ∷ parts))
joined_parts part [] = refl
joined_parts part (next ∷ parts) =
    let cut = flat_map (λ line. line ++ 10 ∷ []) (but_last (next ∷ parts)) in
    ap (λ l. part ++ 10 ∷ l) (joined_parts next parts) ∙ sym (append_assoc part (10 ∷ []) _) ∙ sym (append_assoc (part ++ 10 ∷ []) cut (last_part (next ∷ parts)))

plain_ended : (part : List ℕ) (parts : List (List ℕ)) → AllByRecursion IsPiece (part ∷ parts) → AllByRecursion IsPiece (but_last (part ∷ parts))
plain_ended part [] plain = tt
plain_ended part (next ∷ parts) plain = (plain.0, plain_ended next parts plain.1)

plain_last : (part : List ℕ) (parts : List (List ℕ)) → AllByRecursion IsPiece (part ∷ parts) → IsPiece (last_part (part ∷ parts))
plain_last part [] plain = plain.0
plain_last part (next ∷ parts) plain = plain_last next parts plain.1

cut_into : (bytes : List ℕ) (parts : List (List ℕ)) → 0 < length parts → join_with_byte 10 parts ≡ bytes → AllByRecursion IsPiece parts → IsCut bytes (but_last parts) (last_part parts)
cut_into bytes [] some joined plain = absurd (omega arith)
cut_into bytes (part ∷ parts) some joined plain = record { joined = sym joined ∙ joined_parts part parts; lines = plain_ended part parts plain; last = plain_last part parts plain }

pub lines_are : (bytes : List ℕ) → IsCut bytes (ended_lines bytes) (rest_of bytes)
lines_are bytes = cut_into bytes (newline_parts bytes) (some_pieces bytes) (join_with_byte-slice_split 10 bytes) (plain_parts 10 bytes)

pieces_of : (cut : List (List ℕ)) (rest : List ℕ) → AllByRecursion IsPiece cut → IsPiece rest → newline_parts (joined_of cut rest) ≡ cut ++ rest ∷ []
pieces_of [] rest plain last = slice_split_none (λ x. x == 10) rest (no_newline rest last)
pieces_of (line ∷ cut) rest plain last =
    let step : joined_of (line ∷ cut) rest ≡ line ++ 10 ∷ joined_of cut rest = simp append_assoc in
    ap newline_parts step ∙ slice_split_at (λ x. x == 10) line 10 (joined_of cut rest) (no_newline line plain.0) refl ∙ ap (λ l. line ∷ l) (pieces_of cut rest plain.1 last)

before_end : (cut : List (List ℕ)) (rest : List ℕ) → but_last (cut ++ rest ∷ []) ≡ cut
before_end [] rest = refl
before_end (line ∷ []) rest = refl
before_end (line ∷ next ∷ cut) rest = ap (λ l. line ∷ l) (before_end (next ∷ cut) rest)

at_end : (cut : List (List ℕ)) (rest : List ℕ) → last_part (cut ++ rest ∷ []) ≡ rest
at_end [] rest = refl
at_end (line ∷ []) rest = refl
at_end (line ∷ next ∷ cut) rest = at_end (next ∷ cut) rest

pub only_lines : (bytes : List ℕ) (cut : List (List ℕ)) (rest : List ℕ) → IsCut bytes cut rest → cut ≡ ended_lines bytes
only_lines bytes cut rest p = sym (ap ended_lines p.joined ∙ ap but_last (pieces_of cut rest p.lines p.last) ∙ before_end cut rest)

pub only_rest : (bytes : List ℕ) (cut : List (List ℕ)) (rest : List ℕ) → IsCut bytes cut rest → rest ≡ rest_of bytes
only_rest bytes cut rest p = sym (ap rest_of p.joined ∙ ap last_part (pieces_of cut rest p.lines p.last) ∙ at_end cut rest)
