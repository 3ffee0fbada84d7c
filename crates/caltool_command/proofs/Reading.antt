-- Numbers at the front of the words.
use Rattle.std.proofs.Common.{◌≡◌, ◌==◌, ◌<◌, ◌+◌, ◌-◌, ◌*◌, ◌++◌, ℕ, true, inl, pos, List, [], ◌∷◌, length, get_or, take, drop, refl, ap, sym, ◌∙◌, arith, ℤ, Option, Some, None, append_assoc, append-nil}
use Rattle.std.specs.Int.{IsInRange}
use Rattle.std.specs.Option.{option_map, option_and_then}
use Rattle.std.proofs.lemmas.Bool.{eq-eqb}
use Rattle.chrono_text.specs.Numbers.{StandsBefore, i64_of}
use Rattle.chrono_text.proofs.NumberLemmas.{i64_of-read, i64_of-written}
use Rattle.caltool_command.specs.Words.{words, IsWord}
use Rattle.caltool_command.specs.Grammar.{numbers_of}
use Rattle.caltool_command.specs.Private.{EndsWord, numbers_behind}
use Rattle.caltool_command.proofs.Splits.{ends_at, first_word, word_of_number, words_at}

-- the numbers of words, by what the first of them writes
by_first : (text : List ℕ) (len : ℕ) (first : Option ℤ) → StandsBefore 32 text len → IsWord (take len text) → i64_of (take len text) ≡ first
    → numbers_of (words text) ≡ option_and_then (λ n. option_map (λ numbers. n ∷ numbers) (numbers_behind (drop len text))) first
unfolding numbers_of
by_first text len first stands plain is =
    ap numbers_of (words_at text len plain (ends_at text len stands.stops))
    ∙ ap (option_and_then (λ n. option_map (λ numbers. n ∷ numbers) (numbers_behind (drop len text)))) is

pub number_first : (text : List ℕ) (len : ℕ) (n : ℤ) → StandsBefore 32 text len → i64_of (take len text) ≡ Some n
    → numbers_of (words text) ≡ option_map (λ numbers. n ∷ numbers) (numbers_behind (drop len text))
number_first text len n stands is = by_first text len (Some n) stands (word_of_number (take len text) n (i64_of-read (take len text) n is).0) is

pub no_number_first : (text : List ℕ) → ((len : ℕ) → StandsBefore 32 text len → i64_of (take len text) ≡ None) → numbers_of (words text) ≡ None
no_number_first text none = let word = first_word text in by_first text word.len None word.stands word.plain (none word.len word.stands)

-- one digit in front
digit_first : (text : List ℕ) (n : ℕ) → 0 < length text → IsInRange 48 57 (get_or text 0 0) → n ≡ get_or text 0 0 - 48 → i64_of (take 1 text) ≡ Some (pos n)
digit_first [] n some range is = absurd (omega arith)
digit_first (x ∷ xs) n some range is =
    let value : n ≡ (x - 48) * 1 + 0 = omega (arith, is) in
    i64_of-written (x ∷ []) (pos n) (inl (record { some = omega arith; digits = (range, tt) }, ap pos value)) (omega (arith, is, range.1))

pub digit_read : (text : List ℕ) (n : ℕ) → StandsBefore 32 text 1 → IsInRange 48 57 (get_or text 0 0) → n ≡ get_or text 0 0 - 48
    → numbers_of (words text) ≡ option_map (λ numbers. pos n ∷ numbers) (numbers_behind (drop 1 text))
digit_read text n stands range is = number_first text 1 (pos n) stands (digit_first text n (omega (arith, stands.within)) range is)

-- numbers read before others
abbrev pub before : List ℤ → Option (List ℤ) → Option (List ℤ)
before done others = option_map (λ numbers. done ++ numbers) others

pub before-none_yet : (others : Option (List ℤ)) → others ≡ before [] others
before-none_yet None = refl
before-none_yet (Some numbers) = refl

one_more : (done : List ℤ) (n : ℤ) (others : Option (List ℤ)) → before done (option_map (λ numbers. n ∷ numbers) others) ≡ before (done ++ n ∷ []) others
one_more done n None = refl
one_more done n (Some numbers) = ap Some (sym (append_assoc done (n ∷ []) numbers))

-- behind a space stand words
behind_space : (rest : List ℕ) → 0 < length rest → get_or rest 0 0 ≡ 32 → numbers_behind rest ≡ numbers_of (words (drop 1 rest))
behind_space [] some space = absurd (omega arith)
behind_space (x ∷ xs) some space = rw (eq-eqb x 32 space) refl

pub before-more : (start rest after : List ℕ) (done : List ℤ) (n : ℤ) → numbers_behind start ≡ before done (numbers_behind rest) → 0 < length rest → EndsWord rest
    → numbers_of (words (drop 1 rest)) ≡ option_map (λ numbers. n ∷ numbers) (numbers_behind after) → numbers_behind start ≡ before (done ++ n ∷ []) (numbers_behind after)
before-more start rest after done n so_far some ends read =
    so_far ∙ ap (before done) (behind_space rest some (ends some) ∙ read) ∙ one_more done n (numbers_behind after)

pub before-fails : (start rest : List ℕ) (done : List ℤ) → numbers_behind start ≡ before done (numbers_behind rest) → 0 < length rest → EndsWord rest
    → numbers_of (words (drop 1 rest)) ≡ None → numbers_behind start ≡ None
before-fails start rest done so_far some ends read = so_far ∙ ap (before done) (behind_space rest some (ends some) ∙ read)

pub before-ends : (start rest : List ℕ) (done : List ℤ) → numbers_behind start ≡ before done (numbers_behind rest) → (length rest == 0) ≡ true → numbers_behind start ≡ Some done
unfolding numbers_of
before-ends start [] done so_far none = so_far ∙ ap Some (append-nil done)
before-ends start (x ∷ xs) done so_far none = let wrong : ⊥ = grind arith in absurd wrong
