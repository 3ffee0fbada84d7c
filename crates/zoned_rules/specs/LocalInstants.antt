-- Which instant a local time stands for. `IsInstantOf` says it, at the end.
-- What stands in quotation marks is from RFC 5545, section 3.3.5.
--
-- In what follows a clock is `ahead u` seconds ahead of UTC at the second u, and l is a second of local time. Seconds count from
-- 1 January 1970.
use Rattle.std.specs.Prelude.{◌≡◌, ◌⊎◌, ℤ, pos, ◌+ℤ◌, ◌-ℤ◌, ◌≤ℤ◌, ◌<ℤ◌}
use Rattle.chrono_instant.specs.Instants.{IsEpochSecond}
use Rattle.chrono_zoned.specs.Zones.{Shows}

-- u is the first instant at which the clock shows l.
-- If "the local time described occurs more than one time", the value "refers to the first occurrence of the referenced time"
pub record IsFirstOccurrence (ahead : ℤ → ℤ) (l u : ℤ) : Type 0 where
  pub shown : Shows ahead l u
  pub first : (v : ℤ) → Shows ahead l v → u ≤ℤ v

-- at the second t the clock is set past l: it showed earlier times up to then, and it shows a later one at t
pub record IsSetPast (ahead : ℤ → ℤ) (l t : ℤ) : Type 0 where
  pub earlier : (v : ℤ) → v <ℤ t → (v +ℤ ahead v) <ℤ l
  pub later : l <ℤ (t +ℤ ahead t)

-- The clock never shows l. By its offset before it was set past l it would show l at u.
-- "If the local time described does not occur", the value "is interpreted using the UTC offset before the gap in local times"
pub record IsByOffsetBefore (ahead : ℤ → ℤ) (l u : ℤ) : Type 0 where
  pub skipped : (v : ℤ) → ¬ Shows ahead l v
  pub change : ℤ
  pub past : IsSetPast ahead l change
  pub by : (u +ℤ ahead (change -ℤ pos 1)) ≡ l

-- the local time l stands for the instant u
abbrev pub IsInstantOf : (ℤ → ℤ) → ℤ → ℤ → Type 0
IsInstantOf ahead l u = IsFirstOccurrence ahead l u ⊎ IsByOffsetBefore ahead l u

-- a date-time of the zone can be at u: UTC and the clock show a date there
pub record HasDates (ahead : ℤ → ℤ) (u : ℤ) : Type 0 where
  pub utc : IsEpochSecond u
  pub local : IsEpochSecond (u +ℤ ahead u)
