-- Words of functions that are not public.
use Rattle.std.specs.Prelude.{◌≡◌, ◌⊎◌, true, ℤ, ◌+ℤ◌, ◌-ℤ◌, ◌≤ℤ◌, ◌<ℤ◌, pos, neg_ℤ, Option, Some, None}
use Rattle.chrono_datetime.specs.Moment.{IsBefore, IsMoment, Moment}
use Rattle.chrono_instant.specs.Instants.{IsEpochSecond, epoch_second}
use Rattle.chrono_instant.specs.Offsets.{IsOffset}
use Rattle.chrono_zoned.specs.declared.mapped_local_time.MappedLocalTime.{MappedLocalTime}
use Rattle.chrono_zoned.specs.declared.mapped_local_time.MappedLocalTime.TheVariants.{None as NoInstant, Single, Ambiguous}
use Rattle.chrono_zoned.specs.Zoned.{IsLocal, Zoned}
use Rattle.chrono_zoned.specs.Zones.{HoldsUntil, Shows}
use Rattle.chrono_cron.specs.declared.field_sets.FieldSets.{FieldSets}
use Rattle.chrono_cron.specs.Due.{NotDueBetween, is_due}
use Rattle.zoned_cron.specs.declared.policy.Policy.{Policy}
use Rattle.zoned_cron.specs.declared.schedule.ZonedSchedule.{ZonedSchedule}
use Rattle.zoned_cron.specs.declared.search.held.Held.{Held}
use Rattle.zoned_cron.specs.FiringLists.{IsNextFiring}
use Rattle.zoned_cron.specs.Fires.{FiresAt, IsBehindGap, IsInstant, IsShortStep, NotFiringBetween, Takes}

-- the clock shows a date at u, and is ahead by less than a day
abbrev pub IsDated : (ℤ → ℤ) → ℤ → Type 0
IsDated ahead u = IsEpochSecond (u +ℤ ahead u) × IsOffset (ahead u)

-- there, what is planned for l fires at u
abbrev pub TakesDated : Policy → (ℤ → ℤ) → ℤ → ℤ → Type 0
TakesDated p ahead l u = IsDated ahead u × Takes p ahead l u

-- there, u is the first instant behind the gap in which l lies
abbrev pub EndsGap : (ℤ → ℤ) → ℤ → ℤ → Type 0
EndsGap ahead l u = IsDated ahead u × IsBehindGap ahead l u

-- there, it is so where the clock is set ahead by less than three hours
abbrev pub EndsShortGap : (ℤ → ℤ) → ℤ → ℤ → Type 0
EndsShortGap ahead l u = EndsGap ahead l u × IsShortStep ahead u

-- of two instants x and y, u is the first, or the other one if that is more than three hours later
abbrev pub IsFirstOrLate : ℤ → ℤ → ℤ → Type 0
IsFirstOrLate x y u = (u ≡ x) ⊎ ((u ≡ y) × ((x +ℤ pos 10_800) <ℤ y))

-- the schedule is due at the local time m, and what is planned for m fires at u
pub record FiresFor (s : FieldSets) (ahead : ℤ → ℤ) (p : Policy) (m : Moment) (u : ℤ) : Type 0 where
  pub instant : IsInstant ahead u
  pub exists : IsMoment m
  pub due : is_due s m ≡ true
  pub takes : Takes p ahead (epoch_second m) u

-- the schedule is due at the beginning of the local second l
pub record IsPlanned (s : FieldSets) (l : ℤ) : Type 0 where
  pub moment : Moment
  pub exists : IsMoment moment
  pub due : is_due s moment ≡ true
  pub second : epoch_second moment ≡ l

-- for two days before the second u, and for two days from then on, the clock keeps its offset, which is less than a day, as all its offsets are
pub record IsSettled (ahead : ℤ → ℤ) (u : ℤ) : Type 0 where
  pub holds : (v : ℤ) → (u -ℤ pos 172_800) ≤ℤ v → v <ℤ (u +ℤ pos 172_800) → ahead v ≡ ahead u
  pub near : (v : ℤ) → IsOffset (ahead v)

-- d is the instant at which the clock of the zone z shows the date-time m, and no change is near it
pub record IsSettledAt {Z : Type 0} (ahead : Z → ℤ → ℤ) (z : Z) (m : Moment) (d : Zoned Z) : Type 0 where
  pub local : IsLocal ahead z m d
  pub shows : Shows (ahead z) (epoch_second m) (epoch_second d.utc)
  pub fraction : d.utc.time.fraction ≡ m.time.fraction
  pub settled : IsSettled (ahead z) (epoch_second d.utc)

-- the clock keeps the offset of a stretch from its beginning until its end, and each of its offsets is less than a day
pub record IsHeld (ahead : ℤ → ℤ) (h : Held) : Type 0 where
  pub offset : h.offset ≡ ahead h.from
  pub holds : HoldsUntil ahead h.from h.until
  pub near : (v : ℤ) → IsOffset (ahead v)

-- u is a second of the calendar, or one within a day of its ends
abbrev pub IsNearADate : ℤ → Type 0
IsNearADate u = (neg_ℤ (pos 8_334_601_315_200) ≤ℤ u) × (u ≤ℤ pos 8_210_266_963_199)

-- a stretch begins two days before the second u or earlier
abbrev pub Precedes : Held → ℤ → Type 0
Precedes h u = (h.from +ℤ pos 172_800) ≤ℤ u

-- and it holds for two days from u on
abbrev pub Outlasts : Held → ℤ → Type 0
Outlasts h u = (u +ℤ pos 172_800) ≤ℤ h.until

-- if no change is near the instant of the local time m, it is the first instant after UTC's `start` at which z fires
abbrev pub IsNextIfSettled : {Z : Type 0} → (Z → ℤ → ℤ) → ZonedSchedule Z → Moment → Moment → Type 0
IsNextIfSettled {Z} ahead z start m = (d : Zoned Z) → IsSettledAt ahead z.zone m d → IsNextFiring ahead z start (Some d)

-- m is the first local time that is planned after what a clock so far ahead of UTC shows where UTC shows `start`
pub record IsNextAtOffset {Z : Type 0} (z : ZonedSchedule Z) (offset : ℤ) (start m : Moment) : Type 0 where
  pub begin : IsMoment start
  pub local : Moment
  pub local_exists : IsMoment local
  pub second : epoch_second local ≡ (epoch_second start +ℤ offset)
  pub exists : IsMoment m
  pub due : is_due z.schedule.sets m ≡ true
  pub later : IsBefore local m
  pub least : NotDueBetween z.schedule.sets local m

-- a stretch begins a day before the local second l or earlier, as if that were one of UTC: where the clock shows l, it has begun
abbrev pub BeginsBefore : Held → ℤ → Type 0
BeginsBefore h l = (h.from +ℤ pos 86_400) ≤ℤ l

-- and it ends no sooner than a day behind l
abbrev pub EndsBehind : Held → ℤ → Type 0
EndsBehind h l = (l +ℤ pos 86_400) ≤ℤ h.until

-- d is the instant at which the clock of the zone z shows m by the offset of a stretch that ends behind m
pub record IsOnceIn {Z : Type 0} (ahead : Z → ℤ → ℤ) (z : Z) (h : Held) (m : Moment) (d : Zoned Z) : Type 0 where
  pub local : IsLocal ahead z m d
  pub fraction : d.utc.time.fraction ≡ m.time.fraction
  pub second : epoch_second d.utc ≡ (epoch_second m -ℤ h.offset)
  pub high : EndsBehind h (epoch_second m)

-- of two stretches that follow each other the clock shows the local second l at c alone, by the offset of the stretch in which c lies; no change
-- but the one between them is near
pub record IsInTwo (h k : Held) (l c : ℤ) : Type 0 where
  pub begun : BeginsBefore h l
  pub high : EndsBehind k l
  pub only : ((c ≡ (l -ℤ h.offset)) × (c <ℤ k.from) × ((l -ℤ k.offset) <ℤ k.from)) ⊎ ((c ≡ (l -ℤ k.offset)) × (k.from ≤ℤ c) × (k.from ≤ℤ (l -ℤ h.offset)))

-- and d is the instant c in the zone z
pub record IsOnceInTwo {Z : Type 0} (ahead : Z → ℤ → ℤ) (z : Z) (h k : Held) (m : Moment) (d : Zoned Z) : Type 0 where
  pub local : IsLocal ahead z m d
  pub fraction : d.utc.time.fraction ≡ m.time.fraction
  pub two : IsInTwo h k (epoch_second m) (epoch_second d.utc)

-- d is the last instant before UTC's `end` at which z fires
abbrev pub IsPreviousFiring : {Z : Type 0} → (Z → ℤ → ℤ) → ZonedSchedule Z → Moment → Zoned Z → Type 0
IsPreviousFiring ahead z end d =
    FiresAt z.schedule.sets (ahead z.zone) z.policy d.utc × (d.zone ≡ z.zone) × IsBefore d.utc end
    × NotFiringBetween z.schedule.sets (ahead z.zone) z.policy d.utc end

-- R holds of two values, if there are two
abbrev pub IfTwo : (ℤ → ℤ → Type 0) → MappedLocalTime ℤ → Type 0
IfTwo R NoInstant = Unit {0}
IfTwo R (Single x) = Unit {0}
IfTwo R (Ambiguous x y) = R x y

-- u is no earlier than what was found, and if nothing was found there is no such u
abbrev pub IsAtLeast : Option ℤ → ℤ → Type 0
IsAtLeast None u = ⊥
IsAtLeast (Some x) u = x ≤ℤ u

-- and no later
abbrev pub IsAtMost : Option ℤ → ℤ → Type 0
IsAtMost None u = ⊥
IsAtMost (Some x) u = u ≤ℤ x

-- what was found is the second x; none was found if x lies behind UTC's dates
abbrev pub IsInDates : ℤ → Option ℤ → Type 0
IsInDates x None = pos 8_210_266_876_799 <ℤ x
IsInDates x (Some c) = (c ≡ x) × (x ≤ℤ pos 8_210_266_876_799)

-- of the seconds before an end of which P holds, what was found is the last; seconds before UTC's dates are left out
abbrev pub IsLastIn : (ℤ → Type 0) → ℤ → Option ℤ → Type 0
IsLastIn P end None = (u : ℤ) → P u → u <ℤ end → u <ℤ neg_ℤ (pos 8_334_601_228_800)
IsLastIn P end (Some x) = P x × (x <ℤ end) × (neg_ℤ (pos 8_334_601_228_800) ≤ℤ x) × ((u : ℤ) → P u → u <ℤ end → u ≤ℤ x)

-- what was found is no earlier than each instant before `end` at which a local time after l fires
abbrev pub CoversBehind : FieldSets → (ℤ → ℤ) → Policy → ℤ → ℤ → Option ℤ → Type 0
CoversBehind s ahead p end l found = (m : Moment) (u : ℤ) → FiresFor s ahead p m u → l <ℤ epoch_second m → u <ℤ end → IsAtMost found u
