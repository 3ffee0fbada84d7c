-- At which instants a schedule in a zone fires. `Fires` says it, near the end.
--
-- The rule is that of the cron of Paul Vixie, and of cronie after it, told in our words: its manual, cron(8), has it where it speaks of daylight
-- saving time. A job at a fixed time that the clock skips is run when the clock has been set ahead. One whose time comes twice is not run again.
-- A job with `*` in the minute or the hour goes by what the clock shows: the programs look at the first letter of each of the two fields. The
-- manual takes a change of more than three hours for a correction of a wrong clock, which no job catches up. The program wakes up a minute behind
-- a gap, so that to it a gap of just three hours is one, and a fold of just three hours is none. It starts a job once for each minute that was
-- skipped. Here an instant is one firing, however many minutes it stands for.
use Rattle.std.specs.Prelude.{◌≡◌, ◌⊎◌, true, ℤ, pos, ◌+ℤ◌, ◌-ℤ◌, ◌≤ℤ◌, ◌<ℤ◌}
use Rattle.chrono_datetime.specs.Moment.{IsMoment, Moment}
use Rattle.chrono_instant.specs.Instants.{IsEpochSecond, epoch_second}
use Rattle.chrono_instant.specs.Offsets.{IsOffset}
use Rattle.chrono_zoned.specs.Zones.{Shows}
use Rattle.chrono_zoned.specs.HeldSeconds.{HoldsAt, HoldsNotAfter, HoldsNotBefore, HoldsNotBetween}
use Rattle.chrono_cron.specs.declared.field_sets.FieldSets.{FieldSets}
use Rattle.chrono_cron.specs.Due.{is_due}
use Rattle.zoned_cron.specs.declared.policy.Fold.{Fold}
use Rattle.zoned_cron.specs.declared.policy.Fold.TheVariants.{Both, Earlier, EarlierOfShort, Later}
use Rattle.zoned_cron.specs.declared.policy.Gap.{Gap}
use Rattle.zoned_cron.specs.declared.policy.Gap.TheVariants.{FirstAfter, FirstAfterShort, Skip}
use Rattle.zoned_cron.specs.declared.policy.Policy.{Policy}

-- In what follows a clock is `ahead u` seconds ahead of UTC at the second u, and l is a second of local time. Seconds count from
-- 1 January 1970.

-- the clock shows l at no instant: it is set ahead past l
abbrev pub IsGap : (ℤ → ℤ) → ℤ → Type 0
IsGap ahead l = (u : ℤ) → ¬ Shows ahead l u

-- u is the first instant at which the clock shows l
abbrev pub IsFirst : (ℤ → ℤ) → ℤ → ℤ → Type 0
IsFirst ahead l u = Shows ahead l u × ((v : ℤ) → Shows ahead l v → u ≤ℤ v)

-- and the last
abbrev pub IsLast : (ℤ → ℤ) → ℤ → ℤ → Type 0
IsLast ahead l u = Shows ahead l u × ((v : ℤ) → Shows ahead l v → v ≤ℤ u)

-- u is the first instant behind the gap in which l lies: the clock skips l and the seconds that follow it, up to the one that it first shows at u
pub record IsBehindGap (ahead : ℤ → ℤ) (l u : ℤ) : Type 0 where
  pub later : l <ℤ (u +ℤ ahead u)
  pub skipped : (j : ℤ) → l ≤ℤ j → j <ℤ (u +ℤ ahead u) → IsGap ahead j
  pub first : IsFirst ahead (u +ℤ ahead u) u

-- at u the clock is set ahead by less than three hours, or not at all
abbrev pub IsShortStep : (ℤ → ℤ) → ℤ → Type 0
IsShortStep ahead u = ahead u <ℤ (ahead (u -ℤ pos 1) +ℤ pos 10_800)

-- the clock shows l at u, and at no instant of the three hours before
abbrev pub IsFirstOfShort : (ℤ → ℤ) → ℤ → ℤ → Type 0
IsFirstOfShort ahead l u = Shows ahead l u × ((v : ℤ) → Shows ahead l v → (u ≤ℤ v) ⊎ ((v +ℤ pos 10_800) <ℤ u))

-- of the instants at which the clock shows l, the policy of folds takes u
abbrev pub TakesShown : Fold → (ℤ → ℤ) → ℤ → ℤ → Type 0
TakesShown Earlier ahead l u = IsFirst ahead l u
TakesShown Later ahead l u = IsLast ahead l u
TakesShown Both ahead l u = Shows ahead l u
TakesShown EarlierOfShort ahead l u = IsFirstOfShort ahead l u

-- where the clock skips l, the policy of gaps takes u
abbrev pub TakesSkipped : Gap → (ℤ → ℤ) → ℤ → ℤ → Type 0
TakesSkipped Skip ahead l u = ⊥
TakesSkipped FirstAfter ahead l u = IsBehindGap ahead l u
TakesSkipped FirstAfterShort ahead l u = IsBehindGap ahead l u × IsShortStep ahead u

-- what is planned for l fires at u
abbrev pub Takes : Policy → (ℤ → ℤ) → ℤ → ℤ → Type 0
Takes p ahead l u = TakesShown p.fold ahead l u ⊎ TakesSkipped p.gap ahead l u

-- a date-time of the zone can be at u: UTC and the clock show a date there, and the clock is ahead by less than a day
pub record IsInstant (ahead : ℤ → ℤ) (u : ℤ) : Type 0 where
  pub utc : IsEpochSecond u
  pub local : IsEpochSecond (u +ℤ ahead u)
  pub near : IsOffset (ahead u)

-- the schedule fires at the second u: at some local time it is due, and what is planned for that time fires at u
pub record Fires (s : FieldSets) (ahead : ℤ → ℤ) (p : Policy) (u : ℤ) : Type 0 where
  pub instant : IsInstant ahead u
  pub planned : Moment
  pub exists : IsMoment planned
  pub due : is_due s planned ≡ true
  pub takes : Takes p ahead (epoch_second planned) u

-- the schedule fires where UTC shows m, at the beginning of a second
abbrev pub FiresAt : FieldSets → (ℤ → ℤ) → Policy → Moment → Type 0
FiresAt s ahead p m = HoldsAt (Fires s ahead p) m

-- it fires at no instant between two
abbrev pub NotFiringBetween : FieldSets → (ℤ → ℤ) → Policy → Moment → Moment → Type 0
NotFiringBetween s ahead p start end = HoldsNotBetween (Fires s ahead p) start end

-- it fires at none after one
abbrev pub NotFiringAfter : FieldSets → (ℤ → ℤ) → Policy → Moment → Type 0
NotFiringAfter s ahead p start = HoldsNotAfter (Fires s ahead p) start

-- and at none before one
abbrev pub NotFiringBefore : FieldSets → (ℤ → ℤ) → Policy → Moment → Type 0
NotFiringBefore s ahead p end = HoldsNotBefore (Fires s ahead p) end

-- ---- policies

-- the text of the minutes or of the hours begins with `*`, as those of `*/5 2 * * *` and of `@hourly` do
abbrev pub FollowsClock : FieldSets → Type 0
FollowsClock s = s.follows_clock ≡ true

-- the schedule goes by what the clock shows: in Vixie's cron one that follows the clock, and in robfig/cron each
abbrev pub as_shown : Policy
as_shown = record { gap = Skip; fold = Both }

-- the same, but what the clock shows twice counts as it shows it last: in Quartz
abbrev pub as_shown_last : Policy
as_shown_last = record { gap = Skip; fold = Later }

-- once for each planned local time, however far the clock is set
abbrev pub once_each : Policy
once_each = record { gap = FirstAfter; fold = Earlier }

-- in Vixie's cron a schedule with fixed times: so too, but where the clock is set by more it goes by what that shows
abbrev pub as_planned : Policy
as_planned = record { gap = FirstAfterShort; fold = EarlierOfShort }

-- no change of the clock is a correction: it is set ahead by less than three hours, and shows nothing again more than three hours later
pub record ChangesAreShort (ahead : ℤ → ℤ) : Type 0 where
  pub steps : (u : ℤ) → IsShortStep ahead u
  pub folds : (l u v : ℤ) → Shows ahead l u → Shows ahead l v → v ≤ℤ (u +ℤ pos 10_800)
