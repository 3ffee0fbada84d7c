-- The laws of words and lines.
use Rattle.std.proofs.Common.{◌≡◌, ◌==◌, ◌<◌, ℕ, List, [], ◌∷◌, ◌++◌, length, refl, ap, sym, ◌∙◌, subst, arith, append-nil, ℤ, Option, Some, None}
use Rattle.std.specs.List.{join_with_byte, AllByRecursion}
use Rattle.std.specs.Option.{option_map, option_and_then}
use Rattle.std.proofs.lemmas.List.Splits.{join_with_byte-slice_split, length-slice_split, slice_split_none, slice_split_at}
use Rattle.chrono_text.specs.Numbers.{i64_of}
use Rattle.chrono_text.proofs.NumberLemmas.{i64_of-read, i64_of-written, mapped}
use Rattle.caltool_command.specs.Words.{words, IsWord, AreWords}
use Rattle.caltool_command.specs.Grammar.{numbers_of, arguments_from, arguments_of, WritesNumbers, IsCommandLine}
use Rattle.caltool_command.proofs.Splits.{no_space, word_of_number}
use Rattle.caltool_command.proofs.Parts.{plain_parts}

-- words

pub words_are : (line : List ℕ) → AreWords line (words line)
words_are line = record { some = omega (arith, length-slice_split (λ x. x == 32) line); joined = join_with_byte-slice_split 32 line; plain = plain_parts 32 line }

words_of_joined : (parts : List (List ℕ)) → 0 < length parts → AllByRecursion IsWord parts → words (join_with_byte 32 parts) ≡ parts
words_of_joined [] some plain = absurd (omega arith)
words_of_joined (x ∷ []) some plain = slice_split_none (λ y. y == 32) x (no_space x plain.0)
words_of_joined (x ∷ y ∷ parts) some plain =
    slice_split_at (λ z. z == 32) x 32 (join_with_byte 32 (y ∷ parts)) (no_space x plain.0) refl ∙ ap (λ l. x ∷ l) (words_of_joined (y ∷ parts) (omega arith) plain.1)

pub only_words : (line : List ℕ) (parts : List (List ℕ)) → AreWords line parts → parts ≡ words line
only_words line parts h = sym (words_of_joined parts h.some h.plain) ∙ ap words h.joined

-- lines

-- the texts, with a space before each
abbrev spaced : List (List ℕ) → List ℕ
spaced [] = []
spaced (text ∷ texts) = 32 ∷ text ++ spaced texts

joined_is : (name : List ℕ) (texts : List (List ℕ)) → join_with_byte 32 (name ∷ texts) ≡ name ++ spaced texts
joined_is name [] = sym (append-nil name)
joined_is name (text ∷ texts) = ap (λ l. name ++ 32 ∷ l) (joined_is text texts)

one_more : (texts : List (List ℕ)) (o : Option ℤ) (numbers : List ℤ)
    → option_and_then (λ n. option_map (λ ns. n ∷ ns) (numbers_of texts)) o ≡ Some numbers → (n : ℤ) × (ns : List ℤ) × (o ≡ Some n) × (numbers_of texts ≡ Some ns) × (numbers ≡ n ∷ ns)
one_more texts None numbers h = let wrong : ⊥ = cc in absurd wrong
one_more texts (Some n) numbers h =
    let (ns, e, same) = mapped (λ ns. n ∷ ns) (numbers_of texts) numbers h in
    (n, ns, refl, e, same)

numbers_read : (texts : List (List ℕ)) (numbers : List ℤ) → numbers_of texts ≡ Some numbers → WritesNumbers (spaced texts) numbers
unfolding numbers_of
numbers_read [] [] h = refl
numbers_read [] (z ∷ zs) h = let wrong : ⊥ = cc in absurd wrong
numbers_read (text ∷ texts) numbers h =
    let (n, ns, one, others, same) = one_more texts (i64_of text) numbers h in
    let (writes, fits) = i64_of-read text n one in
    subst (WritesNumbers (spaced (text ∷ texts))) (sym same) (text, spaced texts, refl, writes, fits, numbers_read texts ns others)

pub line_read : (line name : List ℕ) (numbers : List ℤ) → arguments_of line ≡ Some (name, numbers) → IsCommandLine line name numbers
unfolding arguments_of
line_read line name numbers h = from (words line) (words_are line) h
  where
    from : (parts : List (List ℕ)) → AreWords line parts → arguments_from parts ≡ Some (name, numbers) → IsCommandLine line name numbers
    from [] w e = let wrong : ⊥ = cc in absurd wrong
    from (first ∷ texts) w e =
        let (ns, some, same) = mapped {B = List ℕ × List ℤ} (λ ns. (first, ns)) (numbers_of texts) (name, numbers) e in
        let is : first ≡ name = sym (ap (λ (p : List ℕ × List ℤ). p.0) same) in
        let are : ns ≡ numbers = sym (ap (λ (p : List ℕ × List ℤ). p.1) same) in
        record {
          rest = spaced texts;
          joined = sym w.joined ∙ joined_is first texts ∙ ap (λ l. l ++ spaced texts) is;
          plain = subst IsWord is w.plain.0;
          written = numbers_read texts numbers (some ∙ ap Some are);
        }

-- the texts of numbers
record Texts (rest : List ℕ) (numbers : List ℤ) : Type 0 where
  texts : List (List ℕ)
  cut : rest ≡ spaced texts
  read : numbers_of texts ≡ Some numbers
  plain : AllByRecursion IsWord texts

texts_of : (rest : List ℕ) (numbers : List ℤ) → WritesNumbers rest numbers → Texts rest numbers
unfolding numbers_of
texts_of rest [] h = record { texts = []; cut = h; read = refl; plain = tt }
texts_of rest (z ∷ zs) (text, others, cut, one, fits, more) =
    let t = texts_of others zs more in
    record {
      texts = text ∷ t.texts;
      cut = cut ∙ ap (λ l. 32 ∷ text ++ l) t.cut;
      read = ap (option_and_then (λ n. option_map (λ ns. n ∷ ns) (numbers_of t.texts))) (i64_of-written text z one fits) ∙ ap (option_map (λ ns. z ∷ ns)) t.read;
      plain = (word_of_number text z one, t.plain);
    }

pub line_written : (line name : List ℕ) (numbers : List ℤ) → IsCommandLine line name numbers → arguments_of line ≡ Some (name, numbers)
unfolding arguments_of
line_written line name numbers h =
    let t = texts_of h.rest numbers h.written in
    let joined : join_with_byte 32 (name ∷ t.texts) ≡ line = joined_is name t.texts ∙ ap (λ l. name ++ l) (sym t.cut) ∙ sym h.joined in
    let are : AreWords line (name ∷ t.texts) = record { some = omega arith; joined = joined; plain = (h.plain, t.plain) } in
    ap arguments_from (sym (only_words line (name ∷ t.texts) are)) ∙ ap (option_map {U = List ℕ × List ℤ} (λ ns. (name, ns))) t.read
