-- Why there is no zone, in one line.
use Rattle.std.specs.Prelude.{ℕ, List, ◌++◌, codes, Option, Some, None}
use Rattle.std.specs.Fmt.{decimal}
use Rattle.zone.specs.FaultTexts.{zone_fault_text}
use Rattle.zone_file.specs.declared.error.ZoneFileFault.{ZoneFileFault}
use Rattle.zone_file.specs.declared.error.ZoneFileFault.TheVariants.{NoHeader, UnknownVersion, CutOff, WrongCounts, LeapSeconds, WrongFooter, OtherVersion}
use Rattle.zone_text.specs.declared.error.ZoneTextFault.{ZoneTextFault}
use Rattle.zone_text.specs.declared.error.ZoneTextFault.TheVariants.{NoName as MissingName, NoOffset, OffsetOfDay, NoDays, NoChange}
use Rattle.zone_database.specs.declared.error.ZoneError.{ZoneError}
use Rattle.zone_database.specs.declared.error.ZoneError.TheVariants.{NoName, NoSuchZone, Unread, LongFile, File, NoFirstKind, NoRow, Rule, Zone, OutOfMemory}

-- what is wrong with a file
unfoldable pub file_fault_text : ZoneFileFault → List ℕ
file_fault_text NoHeader = codes "no header of a TZif file stands there"
file_fault_text UnknownVersion = codes "an unknown version"
file_fault_text CutOff = codes "the file is cut off"
file_fault_text WrongCounts = codes "the header's counts are wrong"
file_fault_text LeapSeconds = codes "it counts leap seconds"
file_fault_text WrongFooter = codes "the footer is wrong"
file_fault_text OtherVersion = codes "the two headers name different versions"

-- what is wrong with the text of a rule
unfoldable pub text_fault_text : ZoneTextFault → List ℕ
text_fault_text MissingName = codes "a name is missing"
text_fault_text NoOffset = codes "an offset is missing"
text_fault_text OffsetOfDay = codes "the offset is a day or more"
text_fault_text NoDays = codes "the days of daylight time are missing"
text_fault_text NoChange = codes "no day stands there on which the clock is set"

-- the line of an error; that of a file which cannot be read ends with what the host says
unfoldable pub zone_error_text : ZoneError → Option (List ℕ)
zone_error_text NoName = Some (codes "no time zone has such a name")
zone_error_text NoSuchZone = Some (codes "there is no such time zone")
zone_error_text (Unread _) = None
zone_error_text LongFile = Some (codes "its file has more than 1 MiB")
zone_error_text (File e) = Some (codes "its file at byte " ++ (decimal e.byte ++ (codes ": " ++ file_fault_text e.fault)))
zone_error_text NoFirstKind = Some (codes "its file names no local time to begin with")
zone_error_text (NoRow place) = Some (codes "its file names no local time in row " ++ decimal place)
zone_error_text (Rule e) = Some (codes "its rule at byte " ++ (decimal e.byte ++ (codes ": " ++ text_fault_text e.fault)))
zone_error_text (Zone fault) = Some (zone_fault_text fault)
zone_error_text OutOfMemory = Some (codes "memory is short")
