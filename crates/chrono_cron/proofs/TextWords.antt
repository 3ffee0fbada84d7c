-- The words of a text, one after another, with the places at which they begin.
use Rattle.std.proofs.Common.{◌≡◌, ◌≢◌, ◌+◌, ◌<◌, ◌≤◌, ℕ, Bool, true, false, cond, List, [], ◌∷◌, length, get_or, take, drop, refl, ap, sym, ◌∙◌, arith, length-take, inl, inr}
use Rattle.std.specs.Prelude.{map}
use Rattle.std.specs.List.{All, filter, slice_split, position_or_len}
use Rattle.std.proofs.lemmas.Bool.{both_ways, cases_lt}
use Rattle.std.proofs.lemmas.List.{at_drop_more, drop-drop, drop_all, drop_more, get_or-drop, length-drop, length-map, take_all}
use Rattle.std.proofs.lemmas.List.Sums.{fails_before_first, passes_at_first}
use Rattle.std.proofs.lemmas.List.Splits.{slice_split-cons_yes, slice_split_none, slice_split_first}
use Rattle.chrono_text.specs.Lists.{is_blank, is_some_text}
use Rattle.chrono_cron.specs.PlacedWords.{placed, placed_words}
use Rattle.chrono_cron.specs.ScheduleTexts.{IsScheduleText, fields_of, nickname_meaning, spelled_out, text_words}
use Rattle.chrono_cron.specs.declared.field_sets.FieldSets.{FieldSets}

abbrev some_piece : ℕ × List ℕ → Bool
some_piece word = is_some_text word.1

abbrev pub piece_of : ℕ × List ℕ → List ℕ
piece_of word = word.1

is_some_length : (text : List ℕ) → 0 < length text → is_some_text text ≡ true
is_some_length [] less = absurd (omega (arith, less))
is_some_length (x ∷ rest) less = refl

-- a blank in front
pub blank_first : (at x : ℕ) (rest : List ℕ) → is_blank x ≡ true → placed_words at (x ∷ rest) ≡ placed_words (at + 1) rest
unfolding placed_words
blank_first at x rest e =
    ap (λ pieces. filter some_piece (placed at pieces)) (slice_split-cons_yes is_blank x rest e)
    ∙ ap (λ p. filter some_piece (placed p (slice_split is_blank rest))) (omega arith)

pub blank_at : (place : ℕ) (text : List ℕ) → place < length text → is_blank (get_or text place 0) ≡ true
    → placed_words place (drop place text) ≡ placed_words (place + 1) (drop (place + 1) text)
blank_at place text less e =
    at_drop_more (placed_words place) text place 0 less ∙ blank_first place (get_or text place 0) (drop (place + 1) text) e

pub nothing_left : (at : ℕ) → placed_words at [] ≡ []
unfolding placed_words
nothing_left at = refl

-- the word in front
word_in_front : (at len : ℕ) (text : List ℕ) → position_or_len is_blank text ≡ len → 0 < len → len < length text
    → placed_words at text ≡ (at, take len text) ∷ placed_words (at + len + 1) (drop (len + 1) text)
unfolding placed_words
word_in_front at len text e some less =
    let rest = λ (n : ℕ). filter some_piece (placed (at + n + 1) (slice_split is_blank (drop (len + 1) text))) in
    ap (λ pieces. filter some_piece (placed at pieces)) (slice_split_first is_blank text 0 (omega (arith, e, less)))
    ∙ ap (λ p. filter some_piece (placed at (take p text ∷ slice_split is_blank (drop (p + 1) text)))) e
    ∙ ap (λ t. cond t ((at, take len text) ∷ rest (length (take len text))) (rest (length (take len text)))) (is_some_length (take len text) (omega (arith, length-take len text)))
    ∙ ap (λ n. (at, take len text) ∷ rest n) (omega (arith, length-take len text))

word_alone : (at len : ℕ) (text : List ℕ) → position_or_len is_blank text ≡ len → 0 < len → length text ≤ len → len ≤ length text
    → placed_words at text ≡ (at, text) ∷ []
unfolding placed_words
word_alone at len text e some end within =
    let lacks : All (λ x. is_blank x ≡ false) text = λ k x m. fails_before_first is_blank text k x (omega (arith, e, end, m)) in
    ap (λ pieces. filter some_piece (placed at pieces)) (slice_split_none is_blank text lacks)
    ∙ ap (λ t. cond t ((at, text) ∷ []) []) (is_some_length text (omega (arith, some, within)))

pub word_here : (at len : ℕ) (text : List ℕ) → position_or_len is_blank text ≡ len → 0 < len → len ≤ length text
    → placed_words at text ≡ (at, take len text) ∷ placed_words (at + len) (drop len text)
word_here at len text e some within =
    elim (cases_lt len (length text)) [
      | inl less ↦
          let blank = ap (λ n. is_blank (get_or text n 0)) (sym e) ∙ passes_at_first is_blank text 0 (omega (arith, e, less)) in
          word_in_front at len text e some less
          ∙ ap (λ words. (at, take len text) ∷ words) (sym (ap (placed_words (at + len)) (drop_more text len 0 less) ∙ blank_first (at + len) (get_or text len 0) (drop (len + 1) text) blank))
      | inr end ↦
          word_alone at len text e some end within
          ∙ ap (λ t. (at, t) ∷ []) (sym (take_all len text end))
          ∙ ap (λ words. (at, take len text) ∷ words) (sym (ap (placed_words (at + len)) (drop_all len text end) ∙ nothing_left (at + len)))
    ]

pub word_split : (place len : ℕ) (text : List ℕ) → position_or_len is_blank (drop place text) ≡ len → 0 < len → place ≤ length text → len ≤ length (drop place text)
    → placed_words place (drop place text)
    ≡ (place, take len (drop place text)) ∷ placed_words (place + length (take len (drop place text))) (drop (place + length (take len (drop place text))) text)
word_split place len text e some within end =
    let rest = drop place text in
    word_here place len rest e some end
    ∙ ap (λ t. (place, take len rest) ∷ placed_words (place + len) t) (drop-drop len place text)
    ∙ ap (λ n. (place, take len rest) ∷ placed_words (place + n) (drop (place + n) text)) (omega (arith, length-take len rest, end))

-- no word, where no byte is left that is no blank
pub no_word : (place : ℕ) (text : List ℕ) → place ≤ length text → (place < length text → is_blank (get_or text place 0) ≡ false)
    → position_or_len is_blank (drop place text) ≡ 0 → placed_words place (drop place text) ≡ []
no_word place text within end e =
    elim (cases_lt place (length text)) [
      | inl less ↦
          let first : get_or (drop place text) 0 0 ≡ get_or text place 0 = get_or-drop place text 0 0 ∙ ap (λ n. get_or text n 0) (omega arith) in
          let blank = ap is_blank (sym first) ∙ (ap (λ n. is_blank (get_or (drop place text) n 0)) (sym e) ∙ passes_at_first is_blank (drop place text) 0 (omega (arith, e, less, length-drop place text))) in
          absurd (both_ways (is_blank (get_or text place 0)) (end less) blank)
      | inr past ↦ ap (placed_words place) (drop_all place text past) ∙ nothing_left place
    ]

-- the words without their places
kept : (t : Bool) (at : ℕ) (piece : List ℕ) (words : List (ℕ × List ℕ)) (pieces : List (List ℕ)) → map piece_of words ≡ pieces
    → map piece_of (cond t ((at, piece) ∷ words) words) ≡ cond t (piece ∷ pieces) pieces
kept true at piece words pieces e = ap (λ rest. piece ∷ rest) e
kept false at piece words pieces e = e

without_places : (at : ℕ) (pieces : List (List ℕ)) → map piece_of (filter some_piece (placed at pieces)) ≡ filter is_some_text pieces
without_places at [] = refl
without_places at (piece ∷ pieces) =
    kept (is_some_text piece) at piece (filter some_piece (placed (at + length piece + 1) pieces)) (filter is_some_text pieces) (without_places (at + length piece + 1) pieces)

pub words_of : (at : ℕ) (text : List ℕ) (placed : List (ℕ × List ℕ)) → placed_words at text ≡ placed → text_words text ≡ map piece_of placed
unfolding placed_words text_words
words_of at text placed e = sym (without_places at (slice_split is_blank text)) ∙ ap (map piece_of) e

-- the fields of a text with no word, with one, and with five
pub fields_none : (text : List ℕ) (s : FieldSets) → placed_words 0 text ≡ [] → IsScheduleText text s → ⊥
unfolding fields_of
fields_none text s e is = absurd (omega (arith, ap length (sym is.written ∙ ap spelled_out (words_of 0 text [] e))))

fields_one : (text : List ℕ) (word : ℕ × List ℕ) → placed_words 0 text ≡ word ∷ [] → fields_of text ≡ text_words (nickname_meaning word.1)
unfolding fields_of
fields_one text word e = ap spelled_out (words_of 0 text (word ∷ []) e)

pub nickname_fields : (text meaning : List ℕ) (word : ℕ × List ℕ) (end : ℕ) → placed_words 0 text ≡ word ∷ placed_words (word.0 + length word.1) (drop (word.0 + length word.1) text)
    → end ≡ word.0 + length word.1 → placed_words end (drop end text) ≡ [] → meaning ≡ nickname_meaning word.1 → fields_of text ≡ text_words meaning
nickname_fields text meaning word end e is none meant =
    let nothing = ap (λ p. placed_words p (drop p text)) (sym is) ∙ none in
    fields_one text word (e ∙ ap (λ words. word ∷ words) nothing) ∙ ap text_words (sym meant)

pub fields_five : (text : List ℕ) (a b c d e : ℕ × List ℕ) → placed_words 0 text ≡ a ∷ b ∷ c ∷ d ∷ e ∷ [] → fields_of text ≡ a.1 ∷ b.1 ∷ c.1 ∷ d.1 ∷ e.1 ∷ []
unfolding fields_of
fields_five text a b c d e all = ap spelled_out (words_of 0 text (a ∷ b ∷ c ∷ d ∷ e ∷ []) all)

-- words that are not five
abbrev pub AreNotFive : List (ℕ × List ℕ) → Type 0
AreNotFive words = (a b c d e : ℕ × List ℕ) → words ≢ a ∷ b ∷ c ∷ d ∷ e ∷ []

not_five : (words : List (ℕ × List ℕ)) → AreNotFive words → length words ≡ 5 → ⊥
not_five [] others five = absurd (omega (arith, five))
not_five (a ∷ []) others five = absurd (omega (arith, five))
not_five (a ∷ b ∷ []) others five = absurd (omega (arith, five))
not_five (a ∷ b ∷ c ∷ []) others five = absurd (omega (arith, five))
not_five (a ∷ b ∷ c ∷ d ∷ []) others five = absurd (omega (arith, five))
not_five (a ∷ b ∷ c ∷ d ∷ e ∷ []) others five = others a b c d e refl
not_five (a ∷ b ∷ c ∷ d ∷ e ∷ f ∷ more) others five = absurd (omega (arith, five))

-- a text of more words than one, which are not five, and one of one word that does not stand for five
pub fields_more : (text : List ℕ) (s : FieldSets) (word next : ℕ × List ℕ) (more : List (ℕ × List ℕ)) → placed_words 0 text ≡ word ∷ next ∷ more
    → AreNotFive (placed_words 0 text) → IsScheduleText text s → ⊥
unfolding fields_of
fields_more text s word next more e others is =
    let five = ap length (sym is.written ∙ ap spelled_out (words_of 0 text (word ∷ next ∷ more) e)) in
    not_five (placed_words 0 text) others (ap length e ∙ omega (arith, five, length-map more piece_of))

pub fields_unmeant : (text meaning : List ℕ) (s : FieldSets) → fields_of text ≡ text_words meaning → AreNotFive (placed_words 0 meaning) → IsScheduleText text s → ⊥
fields_unmeant text meaning s e others is =
    let five = ap length (sym is.written ∙ e ∙ words_of 0 meaning (placed_words 0 meaning) refl) in
    not_five (placed_words 0 meaning) others (omega (arith, five, length-map (placed_words 0 meaning) piece_of))
