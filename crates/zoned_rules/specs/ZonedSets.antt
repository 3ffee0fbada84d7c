-- Recurrence sets in a zone (RFC 5545, section 3.8.5): the instances of a rule and instants beside them (RDATE), without exceptions (EXDATE).
-- What stands in quotation marks is from section 3.8.5.1.
--
-- COUNT is a part of the rule. So it counts the instances that are excluded too, and an instant beside the rule uses up none of it.
--
-- An instant before the start can be listed. The start itself is in the set only if the rule has it or the list does.
use Rattle.std.specs.Prelude.{◌≡◌, ◌⊎◌, Bool, true, false, List, ℤ}
use Rattle.std.specs.List.{list_any}
use Rattle.std.specs.Ordering.{int_eq}
use Rattle.chrono_instant.specs.Instants.{epoch_second}
use Rattle.chrono_zoned.specs.Zoned.{Zoned}
use Rattle.zoned_rules.specs.LocalInstants.{HasDates}
use Rattle.zoned_rules.specs.LocalTimes.{LocalParts}
use Rattle.zoned_rules.specs.Recurs.{RecursWithin}
use Rattle.zoned_rules.specs.declared.bound.Bound.{Bound}

-- one of the instants lies in the second u
abbrev pub lists_second : {Z : Type 0} → List (Zoned Z) → ℤ → Bool
lists_second instants u = list_any (λ d. int_eq (epoch_second d.utc) u) instants

-- u is an instance of the rule, or listed beside it: "Duplicate instances are ignored". UTC and the clock have a date there
pub record IsIncluded {Z : Type 0} (r : LocalParts) (ahead : ℤ → ℤ) (bound : Bound) (dates : List (Zoned Z)) (u : ℤ) : Type 0 where
  pub has_dates : HasDates ahead u
  pub included : RecursWithin r ahead bound u ⊎ (lists_second dates u ≡ true)

-- u is in the set: included, and no exception. Exceptions "take precedence over those specified by inclusion properties"
pub record IsInZonedSet {Z : Type 0} (r : LocalParts) (ahead : ℤ → ℤ) (bound : Bound) (dates exceptions : List (Zoned Z)) (u : ℤ) : Type 0 where
  pub included : IsIncluded r ahead bound dates u
  pub kept : lists_second exceptions u ≡ false
