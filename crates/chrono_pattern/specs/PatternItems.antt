-- The items of a pattern, one after another.
use Rattle.std.specs.Prelude.{◌≡◌, ◌<◌, ℕ, Bool, true, false, List, [], ◌∷◌, ◌++◌, Some, None, ⊤}
use Rattle.std.specs.Str.{IsAscii}
use Rattle.chrono_pattern.specs.PatternSteps.{pattern_step}
use Rattle.chrono_pattern.specs.declared.item.Item.{Item}
use Rattle.chrono_pattern.specs.declared.item.Item.TheVariants.{Empty, Byte, Number, Word, Group, Subsecond, Zoned}
use Rattle.chrono_pattern.specs.declared.item.State.{State}
use Rattle.chrono_pattern.specs.declared.item.State.TheVariants.{Outside, Opened, Digits, Marked}

-- an item in front of others; a byte of a specifier that goes on is none
abbrev pub item_before : Item → List Item → List Item
item_before Empty items = items
item_before (Byte c) items = Byte c ∷ items
item_before (Number field padding) items = Number field padding ∷ items
item_before (Word word) items = Word word ∷ items
item_before (Group group) items = Group group ∷ items
item_before (Subsecond point count) items = Subsecond point count ∷ items
item_before (Zoned field) items = Zoned field ∷ items

-- the items of the bytes of a pattern
unfoldable pub items_from : State → List ℕ → List Item
items_from s [] = []
items_from s (c ∷ bytes) = elim (pattern_step s c) [ None ↦ [] | Some next ↦ item_before next.1 (items_from next.0 bytes) ]

-- the items of a pattern
abbrev pub pattern_items : List ℕ → List Item
pattern_items bytes = items_from Outside bytes

-- a reader of a pattern stands within a specifier
abbrev pub is_within : State → Bool
is_within Outside = false
is_within (Opened p) = true
is_within (Digits point count) = true
is_within (Marked form) = true

-- a byte that the item stands for is ASCII
abbrev pub IsAsciiItem : Item → Type 0
IsAsciiItem Empty = ⊤
IsAsciiItem (Byte c) = c < 128
IsAsciiItem (Number field padding) = ⊤
IsAsciiItem (Word word) = ⊤
IsAsciiItem (Group group) = ⊤
IsAsciiItem (Subsecond point count) = ⊤
IsAsciiItem (Zoned field) = ⊤

-- a specifier is in front of behind, and all its bytes are ASCII
pub record IsSpecifier (bytes : List ℕ) (item : Item) (behind : List ℕ) : Type 0 where
  pub front : List ℕ
  pub whole : bytes ≡ front ++ behind
  pub ascii : IsAscii front
  pub writes : IsAsciiItem item
