-- Words of functions that are not public.
use Rattle.std.specs.Prelude.{◌≡◌, ◌↔◌, ◌⊎◌, ◌==◌, ◌+◌, ◌<◌, if◌then◌else◌, ℕ, zero, suc, Bool, true, ℤ, pos, ◌+ℤ◌, ◌-ℤ◌, ◌*ℤ◌, ◌≤ℤ◌, ◌<ℤ◌, Option, Some, None}
use Rattle.chrono_datetime.specs.Days.{IsDate}
use Rattle.chrono_datetime.specs.Fields.{unix_epoch_day}
use Rattle.chrono_datetime.specs.Moment.{IsMoment, Moment}
use Rattle.chrono_datetime.specs.PassedOver.{PassedNumbers}
use Rattle.chrono_datetime.specs.Weekday.{days_from_monday}
use Rattle.chrono_datetime.specs.Weeks.{weekday_of}
use Rattle.chrono_sets.specs.FiniteSets.{has}
use Rattle.chrono_instant.specs.Instants.{epoch_second}
use Rattle.zoned_rules.specs.LocalInstants.{IsSetPast}
use Rattle.zoned_rules.specs.Recurs.{IsLeastOf, Recurs, RecursFor}
use Rattle.zoned_rules.specs.declared.clock_steps.ClockSteps.{ClockSteps}
use Rattle.zoned_rules.specs.declared.clock_steps.ClockUnit.{ClockUnit}
use Rattle.zoned_rules.specs.declared.clock_steps.ClockUnit.TheVariants.{Day, Hour, Minute, Second}
use Rattle.zoned_rules.specs.LocalTimes.{LocalParts, is_counted_time, is_planned, is_planned_on}
use Rattle.zoned_rules.specs.declared.search.near_changes.Candidate.{Candidate}

-- the second k of the day n, counted from 1 January 1970
abbrev pub second_on : ℤ → ℕ → ℤ
second_on n k = (n -ℤ unix_epoch_day) *ℤ pos 86_400 +ℤ pos k

-- how many units lie from one that counts to the next
abbrev pub interval_units : ClockSteps → ℕ
interval_units steps = if steps.interval == 0 then 1 else steps.interval

-- how many units a day has
unfoldable pub units_of_day : ClockUnit → ℕ
units_of_day Day = 1
units_of_day Hour = 24
units_of_day Minute = 1_440
units_of_day Second = 86_400

-- the weekday of the day j is one that BYDAY lists, but none of the times lies there in a unit that counts
abbrev pub MissesWeekday : LocalParts → ℕ → Type 0
MissesWeekday r j =
    has r.days.weekdays.every (days_from_monday (weekday_of (pos j))) ≡ true → PassedNumbers (is_counted_time r (pos j)) 0 86_400

-- what was found is a local time of the rule
pub record IsListed (r : LocalParts) (m : Moment) : Type 0 where
  pub exists : IsMoment m
  pub listed : is_planned r m ≡ true

-- the same, and it is no earlier than the start by the clock
pub record IsListedSince (r : LocalParts) (m : Moment) : Type 0 where
  pub exists : IsMoment m
  pub listed : is_planned r m ≡ true
  pub since : epoch_second r.start ≤ℤ epoch_second m

-- a local time of the rule stands for u
abbrev pub IsStoodFor : LocalParts → (ℤ → ℤ) → ℤ → Type 0
IsStoodFor r ahead u = (m : Moment) × RecursFor r ahead m u

-- o is the clock's offset before it is set past l
pub record IsOffsetBefore (ahead : ℤ → ℤ) (l o : ℤ) : Type 0 where
  pub change : ℤ
  pub past : IsSetPast ahead l change
  pub offset : o ≡ ahead (change -ℤ pos 1)

-- u is no earlier than what was found, and if nothing was found there is no such u
abbrev pub IsReached : Option ℤ → ℤ → Type 0
IsReached None u = ⊥
IsReached (Some x) u = x ≤ℤ u

-- and no later
abbrev pub IsReachedBack : Option ℤ → ℤ → Type 0
IsReachedBack None u = ⊥
IsReachedBack (Some x) u = u ≤ℤ x

-- u lies behind a candidate, or it is the candidate and a local time stands for it
abbrev pub ComesAfter : Option Candidate → ℤ → Type 0
ComesAfter None u = ⊥
ComesAfter (Some c) u = (c.second <ℤ u) ⊎ ((c.second ≡ u) × (c.stands ≡ true))

-- u lies before a candidate, or it is the candidate and a local time stands for it
abbrev pub ComesBefore : Option Candidate → ℤ → Type 0
ComesBefore None u = ⊥
ComesBefore (Some c) u = (u <ℤ c.second) ⊎ ((c.second ≡ u) × (c.stands ≡ true))

-- what was found is no later than each instant after a second that a local time of the rule before l stands for
abbrev pub ReachesAhead : LocalParts → (ℤ → ℤ) → ℤ → ℤ → Option ℤ → Type 0
ReachesAhead r ahead start l found = (m : Moment) (u : ℤ) → RecursFor r ahead m u → epoch_second m <ℤ l → start <ℤ u → IsReached found u

-- what was found is no earlier than each instant before a second that a local time of the rule after l stands for
abbrev pub ReachesBehind : LocalParts → (ℤ → ℤ) → ℤ → ℤ → Option ℤ → Type 0
ReachesBehind r ahead end l found = (m : Moment) (u : ℤ) → RecursFor r ahead m u → l <ℤ epoch_second m → u <ℤ end → IsReachedBack found u

-- how many of the numbers below n pass the test
unfoldable pub count_below : (ℕ → Bool) → ℕ → ℕ
count_below test zero = 0
count_below test (suc n) = count_below test n + (if test n then 1 else 0)

-- of the seconds of which P holds, n lie behind a and up to b: none, or the first, and the others behind that one
abbrev pub AreBehind : (ℤ → Type 0) → ℕ → ℤ → ℤ → Type 0
AreBehind P zero a b = (a ≤ℤ b) × ((u : ℤ) → a <ℤ u → u ≤ℤ b → ¬ P u)
AreBehind P (suc n) a b = (v : ℤ) × (IsLeastOf (λ u. (a <ℤ u) × P u) v × AreBehind P n v b)

-- by a clock that is so far ahead, whole days lie behind the day `before` and up to the day `last`. They begin behind the second `second`, but
-- not behind the second `next`, and the rule recurs there exactly at its local times
pub record AreWholeDays (r : LocalParts) (ahead : ℤ → ℤ) (second next offset before last : ℤ) : Type 0 where
  pub begin_date : IsDate before
  pub end_date : IsDate last
  pub order : before ≤ℤ last
  pub behind : second ≤ℤ (second_on before 86_399 -ℤ offset)
  pub in_front : (second_on before 86_399 -ℤ offset) <ℤ next
  pub end : (second_on last 86_399 -ℤ offset) ≤ℤ pos 8_210_266_876_799
  pub recurs : (d : ℤ) (k : ℕ) → before <ℤ d → d ≤ℤ last → k < 86_400 → Recurs r ahead (second_on d k -ℤ offset) ↔ (is_planned_on r d k ≡ true)
