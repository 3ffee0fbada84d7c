-- The words of a text, by the places at which they begin and end.
use Rattle.std.proofs.Common.{◌≡◌, ℕ, zero, suc, ◌+◌, ◌-◌, ◌≤◌, List, [], ◌∷◌, length, get_or, take, drop, ap, sym, ◌∙◌, arith, length-take}
use Rattle.std.specs.List.{position_or_len}
use Rattle.std.proofs.lemmas.List.{drop-drop, drop-take, drop_all, get_or-drop, get_or-take, length-drop, take-take}
use Rattle.std.proofs.lemmas.List.Sums.{position_or_len_is}
use Rattle.chrono_text.specs.Lists.{is_blank}
use Rattle.chrono_cron.specs.PlacedWords.{placed_words}
use Rattle.chrono_cron.specs.ScheduleErrors.{front_fault, front_or, told_or}
use Rattle.chrono_cron.specs.declared.text.schedule_error.ScheduleFault.{ScheduleFault}
use Rattle.chrono_cron.proofs.TextWords.{blank_at, nothing_left, word_here}
use Rattle.timed_cron.specs.Private.{AreBlank, HasFourWords, IsWordAt, IsWordOf, bytes_of}
use Rattle.timed_cron.specs.declared.words.Ends.{Ends}

-- ---- blanks in front

blanks_before : (n from place : ℕ) (text : List ℕ) → from + n ≡ place → place ≤ length text → AreBlank text from place
    → placed_words from (drop from text) ≡ placed_words place (drop place text)
blanks_before zero from place text e within blanks = ap (λ k. placed_words k (drop k text)) (omega (arith, e))
blanks_before (suc n) from place text e within blanks =
    blank_at from text (omega (arith, e, within)) (blanks from (omega arith) (omega (arith, e)))
    ∙ blanks_before n (from + 1) place text (omega (arith, e)) within (λ k low high. blanks k (omega (arith, low)) high)

-- no word, where blanks are all that is left
pub none_at : (text : List ℕ) (from : ℕ) → from ≤ length text → AreBlank text from (length text) → placed_words from (drop from text) ≡ []
none_at text from within blanks =
    blanks_before (length text - from) from (length text) text (omega (arith, within)) (omega arith) blanks
    ∙ ap (placed_words (length text)) (drop_all (length text) text (omega arith)) ∙ nothing_left (length text)

-- ---- a word by its two ends

word_length : (text : List ℕ) (from place end : ℕ) → IsWordAt text from place end → position_or_len is_blank (drop place text) ≡ end - place
word_length text from place end is =
    let some = is.some in
    let within = is.within in
    position_or_len_is is_blank (drop place text) (end - place) 0 (omega (arith, within, length-drop place text))
    (λ k less. ap is_blank (get_or-drop place text k 0) ∙ is.word (place + k) (omega arith) (omega (arith, less)))
    (λ less. ap is_blank (get_or-drop place text (end - place) 0) ∙ ap (λ n. is_blank (get_or text n 0)) (omega (arith, some)) ∙ is.behind (omega (arith, some, less, length-drop place text)))

pub word_at : (text : List ℕ) (from place end : ℕ) → IsWordAt text from place end
    → placed_words from (drop from text) ≡ (place, bytes_of text place end) ∷ placed_words end (drop end text)
word_at text from place end is =
    let some = is.some in
    let within = is.within in
    let here = place + (end - place) in
    let same : here ≡ end = omega (arith, some) in
    blanks_before (place - from) from place text (omega (arith, is.order)) (omega (arith, some, within)) is.blanks
    ∙ word_here place (end - place) (drop place text) (word_length text from place end is) (omega (arith, some)) (omega (arith, within, length-drop place text))
    ∙ ap (λ t. (place, bytes_of text place end) ∷ placed_words here t) (drop-drop (end - place) place text)
    ∙ ap (λ n. (place, bytes_of text place end) ∷ placed_words n (drop n text)) same

-- ---- the same words in a text that ends behind them

cut_word : (text : List ℕ) (from place end n : ℕ) → end ≤ n → n ≤ length text → IsWordAt text from place end → IsWordAt (take n text) from place end
cut_word text from place end n before within is =
    let some = is.some in
    let len = length-take n text in
    record {
      order = is.order;
      blanks = λ k low high. ap is_blank (get_or-take n text k 0 (omega (arith, before, some, high))) ∙ is.blanks k low high;
      some = some;
      word = λ k low high. ap is_blank (get_or-take n text k 0 (omega (arith, before, high))) ∙ is.word k low high;
      within = omega (arith, before, within, len);
      behind = λ less. ap is_blank (get_or-take n text end 0 (omega (arith, less, len))) ∙ is.behind (omega (arith, before, within, less, len));
    }

cut_bytes : (text : List ℕ) (place end n : ℕ) → place ≤ end → end ≤ n → bytes_of (take n text) place end ≡ bytes_of text place end
cut_bytes text place end n order before =
    ap (λ k. take (end - place) (drop place (take k text))) (omega (arith, order, before))
    ∙ ap (take (end - place)) (drop-take place (n - place) text)
    ∙ take-take (end - place) (n - place) (drop place text) (omega (arith, before))

pub cut_at : (text : List ℕ) (from place end n : ℕ) → end ≤ n → n ≤ length text → IsWordAt text from place end
    → placed_words from (drop from (take n text)) ≡ (place, bytes_of text place end) ∷ placed_words end (drop end (take n text))
cut_at text from place end n before within is =
    word_at (take n text) from place end (cut_word text from place end n before within is)
    ∙ ap (λ bytes. (place, bytes) ∷ placed_words end (drop end (take n text))) (cut_bytes text place end n (omega (arith, is.some)) before)

pub cut_end : (text : List ℕ) (n : ℕ) → placed_words n (drop n (take n text)) ≡ []
cut_end text n = ap (placed_words n) (drop_all n (take n text) (omega (arith, length-take n text))) ∙ nothing_left n

-- a word lies in the text
pub within : (text : List ℕ) (from : ℕ) (e : Ends) → IsWordAt text from e.place e.end → IsWordOf text e
within text from e is = (omega (arith, is.some), is.within)

-- ---- words in a row

-- one word more in front
pub in_front : {words rest more : List (ℕ × List ℕ)} (a : ℕ × List ℕ) → words ≡ a ∷ rest → rest ≡ more → words ≡ a ∷ more
in_front a e f = e ∙ ap (λ l. a ∷ l) f

-- the words from a place on, if the first of them is the word at the place, and the rest are others
pub front : (text : List ℕ) (from place end : ℕ) (rest : List (ℕ × List ℕ)) → IsWordAt text from place end → placed_words end (drop end text) ≡ rest
    → placed_words from (drop from text) ≡ (place, bytes_of text place end) ∷ rest
front text from place end rest is e = in_front (place, bytes_of text place end) (word_at text from place end is) e

pub four_at : (text : List ℕ) (from p q r s first second third fourth : ℕ) → IsWordAt text from p first → IsWordAt text first q second → IsWordAt text second r third → IsWordAt text third s fourth
    → fourth ≤ length text → AreBlank text fourth (length text) → HasFourWords text from third
four_at text from p q r s first second third fourth a b c d within blanks =
    let third_within = c.within in
    let word : ℕ → ℕ → ℕ × List ℕ = λ place end. (place, bytes_of text place end) in
    let second_end : second ≤ third = omega (arith, c.order, c.some) in
    let first_end : first ≤ third = omega (arith, b.order, b.some, second_end) in
    record {
      c = word p first;
      d = word q second;
      e = word r third;
      f = word s fourth;
      all = in_front (word p first) (word_at text from p first a)
          (in_front (word q second) (word_at text first q second b)
          (in_front (word r third) (word_at text second r third c)
          (in_front (word s fourth) (word_at text third s fourth d) (none_at text fourth within blanks))));
      front = in_front (word p first) (cut_at text from p first third first_end third_within a)
          (in_front (word q second) (cut_at text first q second third second_end third_within b)
          (in_front (word r third) (cut_at text second r third third (omega arith) third_within c) (cut_end text third)));
      order = omega (arith, a.order, a.some, first_end);
      within = third_within;
    }

-- words of another number are not four
pub no_four : (words others : List (ℕ × List ℕ)) → words ≡ others → (length others ≡ 4 → ⊥) → (c d e f : ℕ × List ℕ) → words ≡ c ∷ d ∷ e ∷ f ∷ [] → ⊥
no_four words others same other c d e f four = other (ap length (sym same ∙ four))

-- ---- what stands in front of words, by the first of them

pub told_first : (word : ℕ × List ℕ) (words more : List (ℕ × List ℕ)) (count : ℕ × ScheduleFault) → words ≡ word ∷ more → front_or words count ≡ told_or word.0 (front_fault word.1) count
unfolding front_or
told_first word words more count e = ap (λ l. front_or l count) e

pub told_none : (words : List (ℕ × List ℕ)) (count : ℕ × ScheduleFault) → words ≡ [] → front_or words count ≡ count
unfolding front_or
told_none words count e = ap (λ l. front_or l count) e
