-- The zones that files and texts hold, and why they hold none.
use Rattle.std.specs.Prelude.{◌≡◌, ◌<◌, ℕ, ℤ, Bool, List, [], length, Option, Some, None}
use Rattle.zone_file.specs.Kinds.{IsFileRow, IsKind}
use Rattle.zone_file.specs.Tables.{AreFileRows}
use Rattle.zone_file.specs.ZoneFiles.{IsZoneFile}
use Rattle.zone_rule.specs.declared.rule.ZoneRule.{ZoneRule}
use Rattle.zone_table.specs.declared.row.Row.{Row}
use Rattle.zone_text.specs.ZoneTexts.{IsZoneText}
use Rattle.zone.specs.Parts.{IsFault, ZoneParts}
use Rattle.zone.specs.declared.fault.ZoneFault.{ZoneFault}
use Rattle.zone_database.specs.declared.error.ZoneError.{ZoneError}
use Rattle.zone_database.specs.declared.error.ZoneError.TheVariants.{NoName, NoSuchZone, Unread, LongFile, File, NoFirstKind, NoRow, Rule, Zone, OutOfMemory}

-- the text writes the rule
pub record IsZoneRuleText (text : List ℕ) (rule : ZoneRule) : Type 0 where
  pub standard : List ℕ
  pub daylight : List ℕ
  pub written : IsZoneText text standard daylight rule

-- the footer of a file writes the rule, or is empty where there is none
abbrev pub IsFooterOf : List ℕ → Option ZoneRule → Type 0
IsFooterOf footer None = footer ≡ []
IsFooterOf footer (Some rule) = IsZoneRuleText footer rule

-- The bytes are those of a TZif file. The zone has the offset of its kind 0 at first, its rows, and the rule of its footer.
pub record IsZoneOfFile (bytes : List ℕ) (zone : ZoneParts) : Type 0 where
  pub version : ℕ
  pub times : List ℕ
  pub places : List ℕ
  pub kinds : List ℕ
  pub names : List ℕ
  pub footer : List ℕ
  pub file : IsZoneFile bytes version times places kinds names footer
  pub is_dst : Bool
  pub first_name : List ℕ
  pub first : IsKind kinds names 0 zone.first is_dst first_name
  pub count : length zone.rows ≡ length places
  pub rows : AreFileRows version times places kinds (length places) zone.rows
  pub rule : IsFooterOf footer zone.rule

-- The bytes are those of a TZif file. The zone has the offset of its kind 0 at first, and its rows, and no rule.
pub record IsRowsOfFile (bytes : List ℕ) (zone : ZoneParts) : Type 0 where
  pub version : ℕ
  pub times : List ℕ
  pub places : List ℕ
  pub kinds : List ℕ
  pub names : List ℕ
  pub footer : List ℕ
  pub file : IsZoneFile bytes version times places kinds names footer
  pub is_dst : Bool
  pub first_name : List ℕ
  pub first : IsKind kinds names 0 zone.first is_dst first_name
  pub count : length zone.rows ≡ length places
  pub rows : AreFileRows version times places kinds (length places) zone.rows
  pub no_rule : zone.rule ≡ None

-- the zone is the rule that the text writes, with no row
pub record IsZoneOfText (text : List ℕ) (zone : ZoneParts) : Type 0 where
  pub rule : ZoneRule
  pub written : IsZoneRuleText text rule
  pub has_rule : zone.rule ≡ Some rule
  pub no_rows : zone.rows ≡ []

-- the bytes are those of a TZif file, and of its parts P is true
pub record IsFileWith (bytes : List ℕ) (P : ℕ → List ℕ → List ℕ → List ℕ → List ℕ → List ℕ → Type 0) : Type 0 where
  pub version : ℕ
  pub times : List ℕ
  pub places : List ℕ
  pub kinds : List ℕ
  pub names : List ℕ
  pub footer : List ℕ
  pub file : IsZoneFile bytes version times places kinds names footer
  pub is : P version times places kinds names footer

-- what the bytes hold has the fault
pub record IsFaultyFile (bytes : List ℕ) (fault : ZoneFault) : Type 0 where
  pub zone : ZoneParts
  pub held : IsZoneOfFile bytes zone
  pub faulty : IsFault zone fault

-- the rows that the bytes hold have the fault
pub record AreFaultyRows (bytes : List ℕ) (fault : ZoneFault) : Type 0 where
  pub zone : ZoneParts
  pub held : IsRowsOfFile bytes zone
  pub faulty : IsFault zone fault

-- the row k is none
abbrev pub IsNoRow : ℕ → List ℕ → List ℕ → List ℕ → ℕ → Type 0
IsNoRow version times places kinds k = (k < length places) × ((row : Row) → ¬ IsFileRow version times places kinds k row)

-- why a file has no rows, where memory may be short
abbrev pub IsOwnedRowsError : ℕ → List ℕ → List ℕ → List ℕ → ZoneError → Type 0
IsOwnedRowsError version times places kinds (NoRow k) = IsNoRow version times places kinds k
IsOwnedRowsError version times places kinds OutOfMemory = Unit {0}
IsOwnedRowsError version times places kinds NoName = ⊥
IsOwnedRowsError version times places kinds NoSuchZone = ⊥
IsOwnedRowsError version times places kinds (Unread _) = ⊥
IsOwnedRowsError version times places kinds LongFile = ⊥
IsOwnedRowsError version times places kinds (File _) = ⊥
IsOwnedRowsError version times places kinds NoFirstKind = ⊥
IsOwnedRowsError version times places kinds (Rule _) = ⊥
IsOwnedRowsError version times places kinds (Zone _) = ⊥

-- why bytes hold no zone, where memory may be short
abbrev pub IsFileError : List ℕ → ZoneError → Type 0
IsFileError bytes (File _) = (version : ℕ) (times places kinds names footer : List ℕ) → ¬ IsZoneFile bytes version times places kinds names footer
IsFileError bytes NoFirstKind =
    IsFileWith bytes (λ version times places kinds names footer. (first : ℤ) (is_dst : Bool) (name : List ℕ) → ¬ IsKind kinds names 0 first is_dst name)
IsFileError bytes (NoRow k) = IsFileWith bytes (λ version times places kinds names footer. IsNoRow version times places kinds k)
IsFileError bytes (Rule _) = IsFileWith bytes (λ version times places kinds names footer. (rule : Option ZoneRule) → ¬ IsFooterOf footer rule)
IsFileError bytes (Zone fault) = IsFaultyFile bytes fault
IsFileError bytes OutOfMemory = Unit {0}
IsFileError bytes NoName = ⊥
IsFileError bytes NoSuchZone = ⊥
IsFileError bytes (Unread _) = ⊥
IsFileError bytes LongFile = ⊥

-- why bytes hold no rows, where memory may be short
abbrev pub IsRowsFileError : List ℕ → ZoneError → Type 0
IsRowsFileError bytes (File _) = (version : ℕ) (times places kinds names footer : List ℕ) → ¬ IsZoneFile bytes version times places kinds names footer
IsRowsFileError bytes NoFirstKind =
    IsFileWith bytes (λ version times places kinds names footer. (first : ℤ) (is_dst : Bool) (name : List ℕ) → ¬ IsKind kinds names 0 first is_dst name)
IsRowsFileError bytes (NoRow k) = IsFileWith bytes (λ version times places kinds names footer. IsNoRow version times places kinds k)
IsRowsFileError bytes (Rule _) = ⊥
IsRowsFileError bytes (Zone fault) = AreFaultyRows bytes fault
IsRowsFileError bytes OutOfMemory = Unit {0}
IsRowsFileError bytes NoName = ⊥
IsRowsFileError bytes NoSuchZone = ⊥
IsRowsFileError bytes (Unread _) = ⊥
IsRowsFileError bytes LongFile = ⊥

-- why a text holds no zone, where memory may be short
abbrev pub IsTextError : List ℕ → ZoneError → Type 0
IsTextError text (Rule _) = (rule : ZoneRule) → ¬ IsZoneRuleText text rule
IsTextError text OutOfMemory = Unit {0}
IsTextError text NoName = ⊥
IsTextError text NoSuchZone = ⊥
IsTextError text (Unread _) = ⊥
IsTextError text LongFile = ⊥
IsTextError text (File _) = ⊥
IsTextError text NoFirstKind = ⊥
IsTextError text (NoRow _) = ⊥
IsTextError text (Zone _) = ⊥
