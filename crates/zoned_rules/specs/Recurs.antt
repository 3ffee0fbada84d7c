-- At which instants a rule in a zone recurs. `IsInstanceAt` says it, near the end.
-- What stands in quotation marks is from RFC 5545, section 3.3.10.
use Rattle.std.specs.Prelude.{◌≡◌, ◌<◌, ℕ, zero, suc, true, ℤ, ◌≤ℤ◌, ◌<ℤ◌}
use Rattle.chrono_datetime.specs.Moment.{IsMoment, Moment}
use Rattle.chrono_instant.specs.Instants.{epoch_second}
use Rattle.chrono_zoned.specs.HeldSeconds.{HoldsAt, HoldsNotAfter, HoldsNotBefore, HoldsNotBetween}
use Rattle.zoned_rules.specs.LocalInstants.{HasDates, IsInstantOf}
use Rattle.zoned_rules.specs.LocalTimes.{LocalParts, is_planned}
use Rattle.zoned_rules.specs.declared.bound.Bound.{Bound}
use Rattle.zoned_rules.specs.declared.bound.Bound.TheVariants.{Never, Count, Until}

-- In what follows a clock is `ahead u` seconds ahead of UTC at the second u. Seconds count from 1 January 1970.

-- The local time `planned` is one of the rule's, and it stands for the instant u. An instance whose local time "does not exist, or occurs more
-- than once" is "interpreted in the same manner as an explicit DATE-TIME value", which is what `IsInstantOf` says. The same section asks that
-- instances of a "nonexistent local time" be ignored, and so contradicts itself. Here they count. DTSTART is "the start" of the recurrence set: the
-- local time is no earlier by the clock. So a time that a gap skips before the start is none, though the gap moves it behind the start's instant
pub record RecursFor (r : LocalParts) (ahead : ℤ → ℤ) (planned : Moment) (u : ℤ) : Type 0 where
  pub dates : HasDates ahead u
  pub exists : IsMoment planned
  pub listed : is_planned r planned ≡ true
  pub since : epoch_second r.start ≤ℤ epoch_second planned
  pub stands : IsInstantOf ahead (epoch_second planned) u

-- the rule recurs at u, if COUNT and UNTIL are left out: one of its local times from the start on stands for u, and u is not before the start's
-- instant. The second matters where the clock skips the start: a later local time, behind the gap, may stand for an earlier instant than the start.
-- Two local times may stand for one instant, since a gap moves one onto another. It is one instant all the same.
-- DTSTART "always counts as the first occurrence". Here that holds of a start that is one of the rule's local times
pub record Recurs (r : LocalParts) (ahead : ℤ → ℤ) (u : ℤ) : Type 0 where
  pub planned : Moment
  pub recurs : RecursFor r ahead planned u
  pub begun : (s : ℤ) → IsInstantOf ahead (epoch_second r.start) s → s ≤ℤ u

-- P holds of u, and of no second before it
pub record IsLeastOf (P : ℤ → Type 0) (u : ℤ) : Type 0 where
  pub member : P u
  pub least : (w : ℤ) → P w → u ≤ℤ w

-- u is the first second of which P holds after one of which Q holds
pub record IsNextAfter (Q P : ℤ → Type 0) (u : ℤ) : Type 0 where
  pub last : ℤ
  pub previous : Q last
  pub next : IsLeastOf (λ w. (last <ℤ w) × P w) u

-- of the seconds of which P holds, in their order, u is the one after k others
abbrev pub IsNumbered : (ℤ → Type 0) → ℕ → ℤ → Type 0
IsNumbered P zero u = IsLeastOf P u
IsNumbered P (suc k) u = IsNextAfter (IsNumbered P k) P u

-- of the seconds of which P holds, u is one of the first c
pub record IsOneOf (P : ℤ → Type 0) (c : ℕ) (u : ℤ) : Type 0 where
  pub number : ℕ
  pub fewer : number < c
  pub numbered : IsNumbered P number u

-- "The UNTIL rule part defines a DATE or DATE-TIME value that bounds the recurrence rule in an inclusive manner"; here it is a date-time of UTC.
-- "The COUNT rule part defines the number of occurrences at which to range-bound the recurrence"
abbrev pub IsWithin : Bound → (ℤ → Type 0) → ℤ → Type 0
IsWithin Never P u = Unit {0}
IsWithin (Until m) P u = u ≤ℤ epoch_second m
IsWithin (Count c) P u = IsOneOf P c u

-- the rule recurs at u within its bound
pub record RecursWithin (r : LocalParts) (ahead : ℤ → ℤ) (bound : Bound) (u : ℤ) : Type 0 where
  pub recurs : Recurs r ahead u
  pub within : IsWithin bound (Recurs r ahead) u

-- the instant at which UTC shows m is an instance
abbrev pub IsInstanceAt : LocalParts → (ℤ → ℤ) → Bound → Moment → Type 0
IsInstanceAt r ahead bound m = HoldsAt (RecursWithin r ahead bound) m

-- there is no instance between two instants
abbrev pub NoInstanceBetween : LocalParts → (ℤ → ℤ) → Bound → Moment → Moment → Type 0
NoInstanceBetween r ahead bound start end = HoldsNotBetween (RecursWithin r ahead bound) start end

-- there is none after one
abbrev pub NoInstanceAfter : LocalParts → (ℤ → ℤ) → Bound → Moment → Type 0
NoInstanceAfter r ahead bound start = HoldsNotAfter (RecursWithin r ahead bound) start

-- there is none before one
abbrev pub NoInstanceBefore : LocalParts → (ℤ → ℤ) → Bound → Moment → Type 0
NoInstanceBefore r ahead bound end = HoldsNotBefore (RecursWithin r ahead bound) end
