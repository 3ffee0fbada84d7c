-- Date-times in a zone Z, whose clock is `ahead z u` seconds ahead of UTC at the second u.
use Rattle.std.specs.Prelude.{◌≡◌, ℤ, ◌+ℤ◌, Option, Some, None}
use Rattle.chrono_datetime.specs.Moment.{Moment, IsMoment}
use Rattle.chrono_instant.specs.Instants.{IsEpochSecond, epoch_second}
use Rattle.chrono_instant.specs.Offsets.{moment_ahead}
use Rattle.chrono_zoned.specs.declared.mapped_local_time.MappedLocalTime.{MappedLocalTime}
use Rattle.chrono_zoned.specs.declared.mapped_local_time.MappedLocalTime.TheVariants.{None as NoInstant}
use Rattle.chrono_zoned.specs.Zones.{AreAll, Each, IsOnly, Shows}

-- an instant, as the date-time that UTC shows there, and a zone
pub record Zoned (Z : Type 0) : Type 0 where
  pub utc : Moment
  pub zone : Z

-- how far the zone's clock is ahead at the instant of UTC's m
abbrev pub offset_at : (ℤ → ℤ) → Moment → ℤ
offset_at ahead m = ahead (epoch_second m)

-- what the zone's clock shows there
abbrev pub local_at : (ℤ → ℤ) → Moment → Moment
local_at ahead m = moment_ahead m (offset_at ahead m)

-- and it shows a date
abbrev pub ShowsDate : (ℤ → ℤ) → Moment → Type 0
ShowsDate ahead m = IsEpochSecond (epoch_second m +ℤ offset_at ahead m)

-- the instants that UTC's dates have, at which the clock shows the second of the date-time m
abbrev pub ShowsSecondOf : (ℤ → ℤ) → Moment → ℤ → Type 0
ShowsSecondOf ahead m u = IsEpochSecond u × Shows ahead (epoch_second m) u

-- d is an instant at which the clock of the zone z shows the date-time m
pub record IsLocal {Z : Type 0} (ahead : Z → ℤ → ℤ) (z : Z) (m : Moment) (d : Zoned Z) : Type 0 where
  pub zone : d.zone ≡ z
  pub shown : local_at (ahead z) d.utc ≡ m
  pub exists : IsMoment d.utc

-- the date-times are the instants at which the clock of the zone z shows the date-time m: all of them, and no others
abbrev pub AreLocal : {Z : Type 0} → (Z → ℤ → ℤ) → Z → Moment → MappedLocalTime (Zoned Z) → Type 0
AreLocal ahead z m found =
    AreAll (ShowsSecondOf (ahead z) m) (λ d. epoch_second d.utc) found × Each (IsLocal ahead z m) found

-- the same of a date-time if there is one; if there is none, no date-time is found
abbrev pub AreLocalIf : {Z : Type 0} → (Z → ℤ → ℤ) → Z → Option Moment → MappedLocalTime (Zoned Z) → Type 0
AreLocalIf ahead z None found = found ≡ NoInstant
AreLocalIf ahead z (Some m) found = AreLocal ahead z m found

-- what is found is the only instant at which the clock of the zone z shows the date-time, if there is a date-time and one such instant alone
abbrev pub IsOnlyLocalIf : {Z : Type 0} → (Z → ℤ → ℤ) → Z → Option Moment → Option (Zoned Z) → Type 0
IsOnlyLocalIf ahead z None found = found ≡ None
IsOnlyLocalIf ahead z (Some m) None = (u : ℤ) → ¬ IsOnly (ShowsSecondOf (ahead z) m) u
IsOnlyLocalIf ahead z (Some m) (Some d) = IsOnly (ShowsSecondOf (ahead z) m) (epoch_second d.utc) × IsLocal ahead z m d
