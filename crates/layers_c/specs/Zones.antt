-- Zones by the bytes that hold them: those of a TZif file, or the text of a rule.
use Rattle.std.specs.Prelude.{◌≡◌, ◌≤◌, ℕ, ℤ, pos, Bool, true, false, List, [], length, codes, eqb, Some}
use Rattle.std.specs.List.{starts_with}
use Rattle.chrono_zoned.specs.declared.mapped_local_time.MappedLocalTime.{MappedLocalTime}
use Rattle.chrono_zoned.specs.declared.mapped_local_time.MappedLocalTime.TheVariants.{None, Single, Ambiguous}
use Rattle.zone.specs.Parts.{IsZone, ZoneParts}
use Rattle.zone_rule.specs.declared.rule.ZoneRule.{ZoneRule}
use Rattle.zone_database.specs.OwnedZones.{IsZoneOfFile, IsZoneRuleText}
use Rattle.layers_c.specs.declared.zones.CalendarOffsets.{CalendarOffsets}

-- the bytes begin as those of a TZif file do
unfoldable pub is_of_file : List ℕ → Bool
is_of_file bytes = starts_with eqb bytes (codes "TZif")

-- the zone of a rule alone
abbrev pub zone_of_rule : ZoneRule → ZoneParts
zone_of_rule rule = record { first = rule.standard; rows = []; rule = Some rule }

-- the text writes the rule that the zone is
pub record IsZoneOfRule (text : List ℕ) (zone : ZoneParts) : Type 0 where
  pub rule : ZoneRule
  pub written : IsZoneRuleText text rule
  pub is : zone ≡ zone_of_rule rule

-- the bytes are those of a TZif file that holds the zone, which has at most 512 rows
pub record IsZoneOfShortFile (bytes : List ℕ) (zone : ZoneParts) : Type 0 where
  pub file : IsZoneOfFile bytes zone
  pub zone_is : IsZone zone
  pub few : length zone.rows ≤ 512

-- the bytes hold the zone: as a file if they begin as one, and else as a text
pub record HoldsZone (bytes : List ℕ) (zone : ZoneParts) : Type 0 where
  pub file : is_of_file bytes ≡ true → IsZoneOfShortFile bytes zone
  pub text : is_of_file bytes ≡ false → IsZoneOfRule bytes zone

-- the offsets of a local time as numbers: how many there are, and the earlier and the later, which are zero without one
abbrev pub offset_numbers : MappedLocalTime ℤ → CalendarOffsets
offset_numbers None = record { count = 0; earlier = pos 0; later = pos 0 }
offset_numbers (Single x) = record { count = 1; earlier = x; later = x }
offset_numbers (Ambiguous x y) = record { count = 2; earlier = x; later = y }

-- the numbers of no zone
abbrev pub no_offsets : CalendarOffsets
no_offsets = record { count = 4_294_967_295; earlier = pos 0; later = pos 0 }

-- a part from a byte up to another lies within a length
pub record IsPartOf (byte end length : ℕ) : Type 0 where
  pub order : byte ≤ end
  pub within : end ≤ length
