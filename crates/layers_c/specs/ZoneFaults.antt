-- Why bytes hold no zone, and the numbers that say so.
use Rattle.std.specs.Prelude.{◌≡◌, ◌+◌, ◌-◌, ◌≤◌, ◌==◌, nat_le, if◌then◌else◌, ℕ, ℤ, Bool, true, false, List, [], ◌∷◌, length, codes, Option, Some}
use Rattle.zone_file.specs.Kinds.{IsKind}
use Rattle.zone_file.specs.Tables.{IsRowsError}
use Rattle.zone_file.specs.ZoneFiles.{IsZoneFile}
use Rattle.zone_file.specs.declared.error.ZoneFileFault.{ZoneFileFault}
use Rattle.zone_file.specs.declared.error.ZoneFileFault.TheVariants.{NoHeader, UnknownVersion, CutOff, WrongCounts, LeapSeconds, WrongFooter, OtherVersion}
use Rattle.zone_file.specs.declared.rows.ZoneRowsError.{ZoneRowsError}
use Rattle.zone_file.specs.declared.rows.ZoneRowsError.TheVariants.{NoRoom, NoRow}
use Rattle.zone_rule.specs.declared.rule.ZoneRule.{ZoneRule}
use Rattle.zone_text.specs.declared.error.ZoneTextFault.{ZoneTextFault}
use Rattle.zone_text.specs.declared.error.ZoneTextFault.TheVariants.{NoName, NoOffset, OffsetOfDay, NoDays, NoChange}
use Rattle.zone.specs.Parts.{IsFault, ZoneParts}
use Rattle.zone.specs.declared.fault.ZoneFault.TheVariants.{NotJoined, Unordered}
use Rattle.zone_database.specs.OwnedZones.{IsFaultyFile, IsFileWith, IsFooterOf, IsZoneRuleText}
use Rattle.layers_c.specs.Faults.{IsPartEnd, numbered}
use Rattle.layers_c.specs.Zones.{is_of_file}
use Rattle.layers_c.specs.declared.zone_bytes.NoZone.{NoZone}
use Rattle.layers_c.specs.declared.zone_bytes.NoZone.TheVariants.{File, FirstKind, Rows, Rule, Parts}

-- the parts have the fault that is the reason
abbrev pub IsPartsReason : ZoneParts → NoZone → Type 0
IsPartsReason z (Parts fault) = IsFault z fault
IsPartsReason z (File _) = ⊥
IsPartsReason z FirstKind = ⊥
IsPartsReason z (Rows _) = ⊥
IsPartsReason z (Rule _ _) = ⊥

-- a kind of local time holds at first
pub record HasFirstKind (kinds names : List ℕ) : Type 0 where
  pub offset : ℤ
  pub is_dst : Bool
  pub name : List ℕ
  pub kind : IsKind kinds names 0 offset is_dst name

-- the footer is empty, or writes a rule
pub record HasRule (footer : List ℕ) : Type 0 where
  pub rule : Option ZoneRule
  pub written : IsFooterOf footer rule

-- the footer begins at a byte of the file, and a newline ends it
abbrev pub footer_start : List ℕ → List ℕ → ℕ
footer_start bytes footer = length bytes - (length footer + 1)

-- what stands in the footer is no rule, and the fault lies within it
pub record IsFooterReason (bytes kinds names footer : List ℕ) (start byte : ℕ) : Type 0 where
  pub kind : HasFirstKind kinds names
  pub none : ¬ HasRule footer
  pub begins : start ≡ footer_start bytes footer
  pub within : byte ≤ length footer

-- the rows are none of a zone, in a file with a first kind and a rule, or no footer
pub record AreNoRows (version : ℕ) (times places kinds names footer : List ℕ) (error : ZoneRowsError) : Type 0 where
  pub kind : HasFirstKind kinds names
  pub rule : HasRule footer
  pub error_is : IsRowsError version times places kinds 512 error

-- Why a file holds no zone of at most 512 rows. Of several reasons it is the first in this order: no file, no first kind, no rule, no rows,
-- and parts that make up no zone.
abbrev pub IsFileReason : List ℕ → NoZone → Type 0
IsFileReason bytes (File error) =
    ((version : ℕ) (times places kinds names footer : List ℕ) → ¬ IsZoneFile bytes version times places kinds names footer) × (error.byte ≤ length bytes)
IsFileReason bytes FirstKind = IsFileWith bytes (λ version times places kinds names footer. ¬ HasFirstKind kinds names)
IsFileReason bytes (Rule start error) = IsFileWith bytes (λ version times places kinds names footer. IsFooterReason bytes kinds names footer start error.byte)
IsFileReason bytes (Rows error) = IsFileWith bytes (λ version times places kinds names footer. AreNoRows version times places kinds names footer error)
IsFileReason bytes (Parts fault) = IsFaultyFile bytes fault

-- why a text holds none: it writes no rule
abbrev pub IsTextReason : List ℕ → NoZone → Type 0
IsTextReason text (Rule start error) = ((rule : ZoneRule) → ¬ IsZoneRuleText text rule) × ((start ≡ 0) × (error.byte ≤ length text))
IsTextReason text (File _) = ⊥
IsTextReason text FirstKind = ⊥
IsTextReason text (Rows _) = ⊥
IsTextReason text (Parts _) = ⊥

-- why bytes hold none
pub record IsReason (bytes : List ℕ) (why : NoZone) : Type 0 where
  pub file : is_of_file bytes ≡ true → IsFileReason bytes why
  pub text : is_of_file bytes ≡ false → IsTextReason bytes why

-- what can be wrong with a file, numbered from 1 but for one at the end, and with the text of a rule, numbered from 10
abbrev pub file_faults : List ZoneFileFault
file_faults = NoHeader ∷ UnknownVersion ∷ CutOff ∷ WrongCounts ∷ LeapSeconds ∷ WrongFooter ∷ []

abbrev pub file_fault_from_c : ℕ → Option ZoneFileFault
file_fault_from_c code = if code == 17 then Some OtherVersion else numbered file_faults code

abbrev pub text_faults : List ZoneTextFault
text_faults = NoName ∷ NoOffset ∷ OffsetOfDay ∷ NoDays ∷ NoChange ∷ []

-- the number of a row at a place from 0; no more than 512 are looked at
abbrev pub row_number : ℕ → ℕ
row_number place = (if nat_le place 512 then place else 512) + 1

-- a reason by its number and by that of a row
abbrev pub IsNumberedReason : ℕ → ℕ → NoZone → Type 0
IsNumberedReason code row (File error) = (file_fault_from_c code ≡ Some error.fault) × (row ≡ 0)
IsNumberedReason code row FirstKind = (code ≡ 7) × (row ≡ 0)
IsNumberedReason code row (Rows (NoRow place)) = (code ≡ 8) × (row ≡ row_number place)
IsNumberedReason code row (Rows (NoRoom _)) = (code ≡ 9) × (row ≡ 0)
IsNumberedReason code row (Rule _ error) = (numbered text_faults (code - 9) ≡ Some error.fault) × (row ≡ 0)
IsNumberedReason code row (Parts (Unordered place)) = (code ≡ 15) × (row ≡ row_number place)
IsNumberedReason code row (Parts NotJoined) = (code ≡ 16) × (row ≡ 0)

-- the byte of a reason is none behind the bytes
abbrev pub HasByteWithin : ℕ → NoZone → Type 0
HasByteWithin room (File error) = error.byte ≤ room
HasByteWithin room (Rule start error) = start + error.byte ≤ room
HasByteWithin room FirstKind = Unit {0}
HasByteWithin room (Rows _) = Unit {0}
HasByteWithin room (Parts _) = Unit {0}

-- where a reason lies: a fault of a rule in its part, one of a file from its byte on, and any other in the whole file
abbrev pub IsPlacedReason : List ℕ → ℕ → ℕ → NoZone → Type 0
IsPlacedReason bytes byte end (File error) = (byte ≡ error.byte) × (end ≡ length bytes)
IsPlacedReason bytes byte end (Rule start error) = (byte ≡ start + error.byte) × IsPartEnd bytes byte end
IsPlacedReason bytes byte end FirstKind = (byte ≡ 0) × (end ≡ length bytes)
IsPlacedReason bytes byte end (Rows _) = (byte ≡ 0) × (end ≡ length bytes)
IsPlacedReason bytes byte end (Parts _) = (byte ≡ 0) × (end ≡ length bytes)

-- what a fault of a zone says
abbrev pub zone_fault_texts : List (List ℕ)
zone_fault_texts =
    codes "no header of a TZif file stands there" ∷ codes "an unknown version of TZif" ∷ codes "the file is cut off" ∷ codes "the counts of the header are wrong"
    ∷ codes "the file counts leap seconds" ∷ codes "the footer is wrong" ∷ codes "no local time is named to begin with" ∷ codes "a row names no local time"
    ∷ codes "more than 512 rows" ∷ codes "a name of three letters or more is missing" ∷ codes "an offset is missing" ∷ codes "the offset is a day or more"
    ∷ codes "the days of daylight time are missing" ∷ codes "no day stands there on which the clock is set" ∷ codes "a row does not follow the one before it"
    ∷ codes "the rule does not go on from the last row" ∷ codes "the two headers name different versions" ∷ []
