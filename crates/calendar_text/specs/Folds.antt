-- Folded lines (RFC 5545, section 3.1). "Content lines are delimited by a line break, which is a CRLF sequence", and a long line is split "by
-- inserting a CRLF immediately followed by a single linear white-space character". A line feed alone is a line break here too.
use Rattle.std.specs.Prelude.{◌≡◌, ℕ, ◌+◌, ◌-◌, ◌==◌, nat_le, Bool, true, false, not, ◌&&◌, ◌||◌, if◌then◌else◌, List, [], ◌∷◌, ◌++◌, slice_index, replicate, codes, refl}
use Rattle.std.specs.Str.{byte}
use Rattle.chrono_text.specs.Lists.{is_blank}

-- a byte that is no part of the unfolded text, by the byte before it and the byte behind it: the carriage return of a line break, the line feed
-- of a fold, and the blank behind that
abbrev pub is_left_out : ℕ → ℕ → ℕ → Bool
is_left_out before b behind =
    ((b == byte "\r") && (behind == byte "\n")) || (((b == byte "\n") && is_blank behind) || (is_blank b && (before == byte "\n")))

-- the bytes of a text that are left behind a byte
unfoldable pub unfolded_behind : ℕ → List ℕ → List ℕ
unfolded_behind before [] = []
unfolded_behind before (b ∷ bs) =
    if is_left_out before b (slice_index bs 0) then unfolded_behind b bs else b ∷ unfolded_behind b bs

-- the text without its folds, and with a line feed for each line break
abbrev pub unfolded : List ℕ → List ℕ
unfolded text = unfolded_behind 0 text

-- where in the text the k-th byte that is left stands, from 0; at its end if fewer are left
unfoldable pub place_behind : ℕ → List ℕ → ℕ → ℕ
place_behind before [] k = 0
place_behind before (b ∷ bs) k =
    if is_left_out before b (slice_index bs 0) then place_behind b bs k + 1 else (if k == 0 then 0 else place_behind b bs (k - 1) + 1)

-- where the byte at a place of the unfolded text stands in the folded one
abbrev pub folded_place : List ℕ → ℕ → ℕ
folded_place text k = place_behind 0 text k

-- ---- folding: "Lines of text SHOULD NOT be longer than 75 octets, excluding the line break"

-- a byte behind so many bytes of its line: a line feed makes a line break, and behind 75 bytes comes a fold
abbrev pub folded_byte : ℕ → ℕ → List ℕ
folded_byte column b =
    if b == byte "\n" then codes "\r\n" else if column == 75 then codes "\r\n " ++ b ∷ [] else b ∷ []

-- how many bytes of its line stand before the next byte
abbrev pub column_behind : ℕ → ℕ → ℕ
column_behind column b = if b == byte "\n" then 0 else if column == 75 then 2 else column + 1

-- lines with a line feed behind each, folded, the first of which has so many bytes already
unfoldable pub folded_behind : ℕ → List ℕ → List ℕ
folded_behind column [] = []
folded_behind column (b ∷ bs) = folded_byte column b ++ folded_behind (column_behind column b) bs

-- the text with its lines folded
abbrev pub folded : List ℕ → List ℕ
folded text = folded_behind 0 text

-- No line has more than 75 bytes, where the first has so many already. The carriage return in front of a line feed counts for the line here,
-- so the line break may make it 76
abbrev pub are_short : ℕ → List ℕ → Bool
are_short column [] = nat_le column 75
are_short column (b ∷ bs) = if b == byte "\n" then nat_le column 76 && are_short 0 bs else are_short (column + 1) bs

-- a byte may stand behind another in a text that can be folded: it is no carriage return, and no blank at the beginning of a line
abbrev pub may_stand_behind : ℕ → ℕ → Bool
may_stand_behind before b = not (b == byte "\r") && not (is_blank b && (before == byte "\n"))

abbrev pub may_fold_behind : ℕ → List ℕ → Bool
may_fold_behind before [] = true
may_fold_behind before (b ∷ bs) = may_stand_behind before b && may_fold_behind b bs

-- no line begins with a blank, and no byte is a carriage return
unfoldable pub may_fold : List ℕ → Bool
may_fold text = may_fold_behind (byte "\n") text

-- known values: a fold within a word, one with a tab and no carriage return, and two lines
unfolded-word : unfolded (codes "DTS\r\n TART:1\r\n") ≡ codes "DTSTART:1\n"
unfolding unfolded_behind
unfolded-word = refl

unfolded-tab : unfolded (codes "A\n\tB\nC") ≡ codes "AB\nC"
unfolding unfolded_behind
unfolded-tab = refl

-- a fold takes one blank, and a blank at the beginning of the text is none
unfolded-blanks : unfolded (codes " A\r\n  B\rC") ≡ codes " A B\rC"
unfolding unfolded_behind
unfolded-blanks = refl

folded_place-behind : folded_place (codes "DTS\r\n TART:1\r\n") 3 ≡ 6
unfolding place_behind
folded_place-behind = refl

folded_place-end : folded_place (codes "DTS\r\n TART:1\r\n") 10 ≡ 14
unfolding place_behind
folded_place-end = refl

-- a line of 76 bytes is folded behind 75, and a fold's blank counts for the next line
folded-long : folded (replicate 76 65 ++ codes "\n") ≡ replicate 75 65 ++ codes "\r\n A\r\n"
unfolding folded_behind
folded-long = refl

folded-longer : folded (replicate 150 65) ≡ replicate 75 65 ++ (codes "\r\n " ++ (replicate 74 65 ++ codes "\r\n A"))
unfolding folded_behind
folded-longer = refl

-- the longest line, and one byte more
are_short-longest : are_short 0 (replicate 75 65 ++ codes "\r\n") ≡ true
are_short-longest = refl

are_short-longer : are_short 0 (replicate 76 65 ++ codes "\r\n") ≡ false
are_short-longer = refl

are_short-without_end : are_short 0 (replicate 76 65) ≡ false
are_short-without_end = refl
