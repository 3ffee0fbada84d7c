-- Pieces of a text, each with the place at which it begins.
use Rattle.std.specs.Prelude.{◌≡◌, ℕ, ◌+◌, List, [], ◌∷◌, length, codes, refl}
use Rattle.std.specs.List.{filter, slice_split}
use Rattle.chrono_text.specs.Lists.{is_blank, is_some_text}
use Rattle.chrono_cron.specs.ScheduleTexts.{items_of}

-- pieces with one byte between each two, of which the first begins at a place
abbrev pub placed : ℕ → List (List ℕ) → List (ℕ × List ℕ)
placed at [] = []
placed at (piece ∷ pieces) = (at, piece) ∷ placed (at + length piece + 1) pieces

-- the words of a text that begins at a place
unfoldable pub placed_words : ℕ → List ℕ → List (ℕ × List ℕ)
placed_words at text = filter (λ word. is_some_text word.1) (placed at (slice_split is_blank text))

-- the items of a field
unfoldable pub placed_items : ℕ → List ℕ → List (ℕ × List ℕ)
placed_items at text = placed at (items_of text)

-- the first of such pieces
abbrev pub first_word : List (ℕ × List ℕ) → ℕ × List ℕ
first_word [] = (0, [])
first_word (word ∷ words) = word

-- known values: two words with blanks about them, and three items, of which one is empty
placed_words-two : placed_words 0 (codes " 5  *1 ") ≡ (1, codes "5") ∷ (4, codes "*1") ∷ []
unfolding placed_words
placed_words-two = refl

placed_items-three : placed_items 0 (codes "10,,2") ≡ (0, codes "10") ∷ (3, []) ∷ (4, codes "2") ∷ []
unfolding placed_items
placed_items-three = refl
