-- Words of functions that are not public.
use Rattle.std.specs.Prelude.{Bool, ◌≡◌, ◌⊎◌, true, false, ℤ, pos, ◌+ℤ◌, ◌≤ℤ◌, ◌<ℤ◌}
use Rattle.chrono_zoned.specs.Offsets.{IsOffset}
use Rattle.zone_rule.specs.Changes.{IsChange, last_by}
use Rattle.zone_rule.specs.declared.rule.Daylight.{Daylight}
use Rattle.zone_rule.specs.declared.mean_year.Past.{Past}
use Rattle.zone_rule.specs.declared.turn.Turn.{Turn}

-- the changes of daylight time are in range, and so are the two offsets
pub record AreKnown (offset : ℤ) (d : Daylight) : Type 0 where
  pub begins : IsChange d.begins
  pub ends : IsChange d.ends
  pub near : IsOffset offset
  pub far : IsOffset d.offset

-- the seconds of a yearly change lie at least 333 days apart
abbrev pub IsYearly : (ℤ → ℤ) → Type 0
IsYearly f = (y : ℤ) → (f y +ℤ pos 28_771_200) ≤ℤ f (y +ℤ pos 1)

-- where the one change lies more than 64 days before the other in a year, it comes before it in each year
abbrev pub AreInOrder : (ℤ → ℤ) → (ℤ → ℤ) → Type 0
AreInOrder f g = (y z : ℤ) → (f y +ℤ pos 5_529_600) <ℤ g y → f z <ℤ g z

-- of two changes, with y the year of the second s, it is told whether the first one came last by s, and the next second at which one comes
pub record IsTurn (f g : ℤ → ℤ) (y s : ℤ) (t : Turn) : Type 0 where
  pub first : t.is_first ≡ true → last_by g y s <ℤ last_by f y s
  pub last : t.is_first ≡ false → last_by f y s <ℤ last_by g y s
  pub later : s <ℤ t.next
  pub comes : (z : ℤ) × ((f z ≡ t.next) ⊎ (g z ≡ t.next))
  pub soonest : (z : ℤ) → (s <ℤ f z → t.next ≤ℤ f z) × (s <ℤ g z → t.next ≤ℤ g z)

-- Mean years are those of `Changes`.

-- in the year of p the change came within its seconds from another one on, and it comes again a mean year later, and then again
pub record ComesWithin (f : ℤ → ℤ) (begin : ℤ) (p : Past) : Type 0 where
  pub not_before : (begin +ℤ p.low) ≤ℤ f p.year
  pub not_behind : f p.year ≤ℤ (begin +ℤ p.high)
  pub next : (begin +ℤ p.low +ℤ pos 31_556_952) ≤ℤ f (p.year +ℤ pos 1)
  pub next_behind : f (p.year +ℤ pos 1) ≤ℤ (begin +ℤ p.high +ℤ pos 31_556_952)
  pub again : (begin +ℤ p.low +ℤ pos 63_113_904) ≤ℤ f (p.year +ℤ pos 1 +ℤ pos 1)

-- of two changes, the first one came last by the second u, or the other one
pub record IsLastOfTwo (f g : ℤ → ℤ) (u : ℤ) (is_first : Bool) : Type 0 where
  pub y : ℤ
  pub z : ℤ
  pub first : (f y ≤ℤ u) × (u <ℤ f (y +ℤ pos 1))
  pub other : (g z ≤ℤ u) × (u <ℤ g (z +ℤ pos 1))
  pub behind : is_first ≡ true → g z <ℤ f y
  pub before : is_first ≡ false → f y <ℤ g z
