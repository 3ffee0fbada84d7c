-- What the contracts of private functions say.
use Rattle.std.specs.Prelude.{◌↔◌, ℕ, ◌≤◌, ℤ, length}
use Rattle.chrono_zoned.specs.Offsets.{IsOffset}
use Rattle.chrono_zoned.specs.Zones.{Shows}
use Rattle.zone_table.specs.Table.{offset_after}
use Rattle.zone.specs.Parts.{IsZone, ZoneParts}

-- what is true of the fields of a zone
pub record IsWhole (z : ZoneParts) : Type 0 where
  pub zone : IsZone z
  pub near : (k : ℕ) → k ≤ length z.rows → IsOffset (offset_after z.first z.rows k)

-- two clocks show the local second l at the same instants
abbrev pub ShowAlike : (ℤ → ℤ) → (ℤ → ℤ) → ℤ → Type 0
ShowAlike ahead other l = (u : ℤ) → Shows ahead l u ↔ Shows other l u
