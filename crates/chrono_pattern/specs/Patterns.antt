-- Which bytes are a pattern, what is wrong with others, and the text of a pattern.
use Rattle.std.specs.Prelude.{◌≡◌, ℕ, ◌+◌, List, [], ◌∷◌, ◌++◌, ℤ, pos, Option, Some, None}
use Rattle.chrono_datetime.specs.Moment.{Moment}
use Rattle.chrono_pattern.specs.Groups.{group_text}
use Rattle.chrono_pattern.specs.Numbers.{field_text}
use Rattle.chrono_pattern.specs.PatternSteps.{pattern_step}
use Rattle.chrono_pattern.specs.Subseconds.{subsecond_of}
use Rattle.chrono_pattern.specs.Words.{word_text}
use Rattle.chrono_pattern.specs.ZonedPieces.{zoned_piece}
use Rattle.chrono_pattern.specs.declared.error.PatternError.{PatternError}
use Rattle.chrono_pattern.specs.declared.error.PatternFault.TheVariants.{Unknown, Cut}
use Rattle.chrono_pattern.specs.declared.item.Item.{Item}
use Rattle.chrono_pattern.specs.declared.item.Item.TheVariants.{Empty, Byte, Number, Word, Group, Subsecond, Zoned}
use Rattle.chrono_pattern.specs.declared.item.State.{State}
use Rattle.chrono_pattern.specs.declared.item.State.TheVariants.{Outside, Opened, Digits, Marked}

-- where the specifier of a byte begins, or the byte itself
abbrev pub begun_at : State → ℕ → ℕ → ℕ
begun_at Outside begun place = place
begun_at (Opened p) begun place = begun
begun_at (Digits point count) begun place = begun
begun_at (Marked form) begun place = begun

-- the bytes may end outside a specifier alone
abbrev pub cut_error : State → ℕ → Option PatternError
cut_error Outside begun = None
cut_error (Opened p) begun = Some (record { byte = begun; cause = Cut })
cut_error (Digits point count) begun = Some (record { byte = begun; cause = Cut })
cut_error (Marked form) begun = Some (record { byte = begun; cause = Cut })

-- the first error of bytes from a place on, where a specifier begun before
unfoldable pub error_from : State → ℕ → ℕ → List ℕ → Option PatternError
error_from s begun place [] = cut_error s begun
error_from s begun place (c ∷ bytes) = elim (pattern_step s c) [ None ↦ Some (record { byte = begun_at s begun place; cause = Unknown }) | Some next ↦ error_from next.0 (begun_at s begun place) (place + 1) bytes ]

-- what is wrong with the bytes
abbrev pub pattern_error : List ℕ → Option PatternError
pattern_error bytes = error_from Outside 0 0 bytes

-- the bytes are a pattern: nothing is wrong
abbrev pub IsPattern : List ℕ → Type 0
IsPattern bytes = pattern_error bytes ≡ None

-- the text of an item of a local date-time, where the clock is x seconds ahead of UTC
abbrev pub text_of_item : Item → Moment → ℤ → List ℕ
text_of_item Empty m x = []
text_of_item (Byte c) m x = c ∷ []
text_of_item (Number field p) m x = field_text field p m
text_of_item (Word word) m x = word_text word m
text_of_item (Group group) m x = group_text group m
text_of_item (Subsecond point count) m x = subsecond_of point count m.time
text_of_item (Zoned field) m x = zoned_piece field m x

-- the texts of the bytes of a pattern, one after another
unfoldable pub text_from : State → List ℕ → Moment → ℤ → List ℕ
text_from s [] m x = []
text_from s (c ∷ bytes) m x = elim (pattern_step s c) [ None ↦ [] | Some next ↦ text_of_item next.1 m x ++ text_from next.0 bytes m x ]

-- the text that a pattern writes of a local date-time, where the clock is x seconds ahead of UTC
abbrev pub text_at_offset : List ℕ → Moment → ℤ → List ℕ
text_at_offset bytes m x = text_from Outside bytes m x

-- the text that a pattern writes of a date-time with no offset: that of UTC
abbrev pub pattern_text : List ℕ → Moment → List ℕ
pattern_text bytes m = text_at_offset bytes m (pos 0)
