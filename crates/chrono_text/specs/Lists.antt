-- Texts that list items between separators.
use Rattle.std.specs.Prelude.{◌≡◌, ℕ, ◌-◌, ◌==◌, nat_lt, Bool, ◌||◌, true, false, List, [], ◌∷◌, ◌++◌, length, Option, Some, codes, refl, take}
use Rattle.std.specs.Char.{is_ascii_alphanumeric}
use Rattle.std.specs.List.{join_with_byte, position_or_len, slice_split, list_any}
use Rattle.std.specs.Option.{option_and_then}
use Rattle.std.specs.Str.{byte, str_eq_ignore_ascii_case}

-- a byte `sign` stands in the text
abbrev pub stands_in : ℕ → List ℕ → Bool
stands_in sign text = nat_lt (position_or_len (λ x. x == sign) text) (length text)

-- where in a text the byte stands that is so many bytes behind the beginning of a part, which ends the text
abbrev pub part_place : List ℕ → List ℕ → ℕ → ℕ
part_place text part bytes = length text - (length part - bytes)

-- a byte of a word: a letter, a digit or a sign
abbrev pub is_of_word : ℕ → Bool
is_of_word c = is_ascii_alphanumeric c || ((c == byte "+") || (c == byte "-"))

-- a space or a tab
abbrev pub is_blank : ℕ → Bool
is_blank b = b == byte " " || b == byte "\t"

-- a space or a tab stands in the text
abbrev pub has_blank : List ℕ → Bool
has_blank text = list_any is_blank text

-- the text begins with the bytes of `front`, in letters of either case
abbrev pub begins_alike : List ℕ → List ℕ → Bool
begins_alike front text = str_eq_ignore_ascii_case (take (length front) text) front

-- the pieces of a text between separators, one more than there are separators
abbrev pub pieces : ℕ → List ℕ → List (List ℕ)
pieces separator text = slice_split (λ x. x == separator) text

-- the pieces behind a separator, if one stands in front
abbrev pub pieces_behind : ℕ → List ℕ → List (List ℕ)
pieces_behind separator [] = []
pieces_behind separator (b ∷ bs) = pieces separator bs

-- a text has a byte
abbrev pub is_some_text : List ℕ → Bool
is_some_text [] = false
is_some_text (b ∷ bs) = true

-- items with a comma between each two
abbrev pub list_text : List (List ℕ) → List ℕ
list_text items = join_with_byte (byte ",") items

-- items with a separator in front of each
abbrev pub each_behind : ℕ → List (List ℕ) → List ℕ
each_behind separator [] = []
each_behind separator (item ∷ items) = (separator ∷ item) ++ each_behind separator items

-- what a step makes of each piece in turn, from a value on; None if it makes nothing of one
abbrev pub through : {S : Type 0} → (S → List ℕ → Option S) → S → List (List ℕ) → Option S
through step s [] = Some s
through step s (p ∷ ps) = option_and_then (λ t. through step t ps) (step s p)

-- known values
part_place-first : part_place (codes "ab;cd") (codes "cd") 0 ≡ 3
part_place-first = refl

part_place-second : part_place (codes "ab;cd") (codes "cd") 1 ≡ 4
part_place-second = refl

pieces-two : pieces (byte ",") (codes "MO,TU") ≡ codes "MO" ∷ codes "TU" ∷ []
pieces-two = refl

pieces-empty : pieces (byte ",") (codes "1,,") ≡ codes "1" ∷ [] ∷ [] ∷ []
pieces-empty = refl

list_text-two : list_text (codes "MO" ∷ codes "TU" ∷ []) ≡ codes "MO,TU"
list_text-two = refl

each_behind-two : each_behind (byte ";") (codes "A" ∷ codes "B" ∷ []) ≡ codes ";A;B"
each_behind-two = refl

begins_alike-small : begins_alike (codes "TZ=") (codes "tz=UTC") ≡ true
begins_alike-small = refl

begins_alike-short : begins_alike (codes "TZ=") (codes "T") ≡ false
begins_alike-short = refl
