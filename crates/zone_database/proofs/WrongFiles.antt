-- Files that hold no zone.
use Rattle.std.proofs.Common.{◌≡◌, ℕ, List, [], Option, Some, None}
use Rattle.zone_file.specs.ZoneFiles.{IsZoneFile}
use Rattle.zone_rule.specs.declared.rule.ZoneRule.{ZoneRule}
use Rattle.zone_text.specs.ZoneTexts.{IsZoneText}
use Rattle.zone_database.specs.OwnedZones.{IsFileError, IsFooterOf, IsOwnedRowsError, IsRowsFileError}
use Rattle.zone_database.specs.declared.error.ZoneError.{ZoneError}
use Rattle.zone_database.specs.declared.error.ZoneError.TheVariants.{NoName, NoSuchZone, Unread, LongFile, File, NoFirstKind, NoRow, Rule, Zone, OutOfMemory}

pub no_rule : (footer : List ℕ) → (footer ≡ [] → ⊥) → ((standard daylight : List ℕ) (rule : ZoneRule) → IsZoneText footer standard daylight rule → ⊥) → (rule : Option ZoneRule) → IsFooterOf footer rule → ⊥
no_rule footer some none None is = some is
no_rule footer some none (Some rule) is = none is.standard is.daylight rule is.written

pub no_rows : (bytes : List ℕ) (version : ℕ) (times places kinds names footer : List ℕ) → IsZoneFile bytes version times places kinds names footer
    → (e : ZoneError) → IsOwnedRowsError version times places kinds e → IsFileError bytes e
no_rows bytes version times places kinds names footer file (NoRow k) is =
    record { version = version; times = times; places = places; kinds = kinds; names = names; footer = footer; file = file; is = is }
no_rows bytes version times places kinds names footer file OutOfMemory is = tt
no_rows bytes version times places kinds names footer file NoName is = absurd is
no_rows bytes version times places kinds names footer file NoSuchZone is = absurd is
no_rows bytes version times places kinds names footer file (Unread _) is = absurd is
no_rows bytes version times places kinds names footer file LongFile is = absurd is
no_rows bytes version times places kinds names footer file (File _) is = absurd is
no_rows bytes version times places kinds names footer file NoFirstKind is = absurd is
no_rows bytes version times places kinds names footer file (Rule _) is = absurd is
no_rows bytes version times places kinds names footer file (Zone _) is = absurd is

pub no_rows_alone : (bytes : List ℕ) (version : ℕ) (times places kinds names footer : List ℕ) → IsZoneFile bytes version times places kinds names footer
    → (e : ZoneError) → IsOwnedRowsError version times places kinds e → IsRowsFileError bytes e
no_rows_alone bytes version times places kinds names footer file (NoRow k) is =
    record { version = version; times = times; places = places; kinds = kinds; names = names; footer = footer; file = file; is = is }
no_rows_alone bytes version times places kinds names footer file OutOfMemory is = tt
no_rows_alone bytes version times places kinds names footer file NoName is = absurd is
no_rows_alone bytes version times places kinds names footer file NoSuchZone is = absurd is
no_rows_alone bytes version times places kinds names footer file (Unread _) is = absurd is
no_rows_alone bytes version times places kinds names footer file LongFile is = absurd is
no_rows_alone bytes version times places kinds names footer file (File _) is = absurd is
no_rows_alone bytes version times places kinds names footer file NoFirstKind is = absurd is
no_rows_alone bytes version times places kinds names footer file (Rule _) is = absurd is
no_rows_alone bytes version times places kinds names footer file (Zone _) is = absurd is
