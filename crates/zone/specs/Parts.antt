-- A zone: rows that each set the offset of a clock, and the rule that goes on behind them (RFC 9636, section 3.3).
use Rattle.std.specs.Prelude.{◌≡◌, ◌⊎◌, ◌-◌, ◌<◌, ◌==◌, Bool, true, if◌then◌else◌, ℤ, pos, ◌+ℤ◌, ◌≤ℤ◌, List, length, Option, Some, None}
use Rattle.zone_rule.specs.Rules.{IsSetAt, rule_offset}
use Rattle.zone_rule.specs.declared.rule.ZoneRule.{ZoneRule}
use Rattle.zone_table.specs.Sequence.{come_by}
use Rattle.zone_table.specs.Table.{BeginsAt, IsFirstUnordered, IsTable, row_at, row_second, table_offset}
use Rattle.zone_table.specs.declared.row.Row.{Row}
use Rattle.zone.specs.declared.fault.ZoneFault.{ZoneFault}
use Rattle.zone.specs.declared.fault.ZoneFault.TheVariants.{Unordered, NotJoined}

-- the offset before all rows, the rows, and the rule if there is one
pub record ZoneParts : Type 0 where
  pub first : ℤ
  pub rows : List Row
  pub rule : Option ZoneRule

-- the last row
abbrev pub last_row : List Row → Row
last_row rows = row_at rows (length rows - 1)

-- all rows have begun by the second u
abbrev pub is_behind : List Row → ℤ → Bool
is_behind rows u = come_by (row_second rows) (length rows) u == length rows

-- how far the clock is ahead of UTC at the second u: the rule is one "for computing local time changes after the last transition time"
abbrev pub offset_with : ℤ → List Row → Option ZoneRule → ℤ → ℤ
offset_with first rows None u = table_offset first rows u
offset_with first rows (Some r) u = if is_behind rows u then rule_offset r u else table_offset first rows u

-- the same of a zone in its parts
abbrev pub zone_offset : ZoneParts → ℤ → ℤ
zone_offset z u = offset_with z.first z.rows z.rule u

-- the rule, if there is one, sets the clock at the second t, where all rows have begun
abbrev pub IsSetBehind : List Row → Option ZoneRule → ℤ → Type 0
IsSetBehind rows None t = ⊥
IsSetBehind rows (Some r) t = (is_behind rows t ≡ true) × IsSetAt r t

-- the zone sets its clock at the second t: a row begins there, or the rule sets it behind all rows. The offset may stay as it was
abbrev pub SetsAt : ZoneParts → ℤ → Type 0
SetsAt z t = BeginsAt z.rows t ⊎ IsSetBehind z.rows z.rule t

-- the second comes in the two days from a row on
pub record IsSoonAfter (row : Row) (u : ℤ) : Type 0 where
  pub from : row.second ≤ℤ u
  pub to : u ≤ℤ (row.second +ℤ pos 172_800)

-- from the row on, and for two days, the rule shows the row's offset
abbrev pub KeepsOffset : Row → ZoneRule → Type 0
KeepsOffset row r = (u : ℤ) → IsSoonAfter row u → rule_offset r u ≡ row.offset

-- the rule goes on from a row: "evaluating the TZ string at the time of the last transition should yield the same time type as was
-- specified in the last transition". A type is an offset here. The rule keeps it for two days, and may set the clock to it again there, at
-- a second of 64 bits: one that lasts all year ends as the next begins
pub record GoesOn (row : Row) (r : ZoneRule) : Type 0 where
  pub keeps : KeepsOffset row r
  pub counted : (v : ℤ) → IsSoonAfter row v → IsSetAt r v → v ≤ℤ pos 9_223_372_036_854_775_807

-- the rule, if there is one, goes on from the last row, if there is one
abbrev pub IsJoined : List Row → Option ZoneRule → Type 0
IsJoined rows None = Unit {0}
IsJoined rows (Some r) = 0 < length rows → GoesOn (last_row rows) r

-- the parts make up a zone
pub record IsZone (z : ZoneParts) : Type 0 where
  pub table : IsTable z.first z.rows
  pub joined : IsJoined z.rows z.rule

-- why the parts make up none
abbrev pub IsFault : ZoneParts → ZoneFault → Type 0
IsFault z (Unordered k) = IsFirstUnordered z.first z.rows k
IsFault z NotJoined = IsTable z.first z.rows × ¬ IsJoined z.rows z.rule
