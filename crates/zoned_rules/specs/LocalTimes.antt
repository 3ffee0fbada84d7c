-- At which local times a rule recurs. `is_planned` says it, at the end.
-- What stands in quotation marks is from RFC 5545, section 3.3.10.
use Rattle.std.specs.Prelude.{◌≡◌, ◌⊎◌, ℕ, ◌/◌, ◌%◌, ◌==◌, Bool, true, false, not, ◌&&◌, ◌||◌, if◌then◌else◌, ◌∷◌, [], refl, ℤ, pos, ◌+ℤ◌, ◌-ℤ◌, ◌*ℤ◌, unsigned_abs}
use Rattle.std.specs.Int.{int_rem_euclid}
use Rattle.chrono_datetime.specs.Moment.{IsMoment, Moment}
use Rattle.chrono_instant.specs.Instants.{epoch_second}
use Rattle.chrono_sets.specs.FiniteSets.{FiniteSet, has, is_empty, no_numbers, numbers}
use Rattle.chrono_rules.specs.Instances.{is_instance}
use Rattle.chrono_rules.specs.RuleParts.{lacks_positions}
use Rattle.chrono_rules.specs.declared.rule.End.TheVariants.{Never}
use Rattle.chrono_rules.specs.declared.rule.Rule.{Rule}
use Rattle.zoned_rules.specs.declared.clock_steps.ClockSteps.{ClockSteps}
use Rattle.zoned_rules.specs.declared.clock_steps.ClockUnit.{ClockUnit}
use Rattle.zoned_rules.specs.declared.clock_steps.ClockUnit.TheVariants.{Day, Hour, Minute, Second}
use Rattle.zoned_rules.specs.declared.day_times.DayTimes.{DayTimes}

-- a rule of days, the times of day that it lists, its local start, and the units of the clock that it counts
pub record LocalParts : Type 0 where
  pub days : Rule
  pub times : DayTimes
  pub start : Moment
  pub steps : ClockSteps

-- a rule that counts days, weeks, months or years: its days alone say which
abbrev pub each_day : ClockSteps
each_day = record { unit = Day; interval = 1 }

-- the rule has no COUNT and no UNTIL
abbrev pub without_end : Rule → Rule
without_end r = record r { end = Never }

-- no part of times
abbrev pub times_of_start : DayTimes
times_of_start = record { hours = no_numbers; minutes = no_numbers; seconds = no_numbers }

-- the times of day have no part that lists a number
abbrev pub lacks_times : DayTimes → Bool
lacks_times t = is_empty t.hours && (is_empty t.minutes && is_empty t.seconds)

-- FREQ is longer than an hour, than a minute, or than a second
unfoldable pub is_above_hours : ClockUnit → Bool
is_above_hours Day = true
is_above_hours Hour = false
is_above_hours Minute = false
is_above_hours Second = false

unfoldable pub is_above_minutes : ClockUnit → Bool
is_above_minutes Day = true
is_above_minutes Hour = true
is_above_minutes Minute = false
is_above_minutes Second = false

unfoldable pub is_above_seconds : ClockUnit → Bool
is_above_seconds Day = true
is_above_seconds Hour = true
is_above_seconds Minute = true
is_above_seconds Second = false

-- Where a part lists no number and FREQ is longer than the part's unit, the start's own number stands: what is "not contained in the rule" is
-- "derived from the Start Time (DTSTART)". Where FREQ is no longer, each number stands: the part would limit the instances, and it lacks
abbrev pub names_number : Bool → FiniteSet → ℕ → ℕ → Bool
names_number above set own k = if is_empty set then (not above || (k == own)) else has set k

-- The second k of a day is one of the times, where the start lies in the second `start` of its day. BYHOUR is a list of "hours of the day".
-- BYMINUTE is one of "minutes within an hour". BYSECOND is one of "seconds within a minute". It may list 60 there, which is for a leap second. No
-- second of a day has that number, so here it names none. Section 3.3.12 advises calendars without leap seconds to read it as 59.
unfoldable pub is_time : ClockUnit → DayTimes → ℕ → ℕ → Bool
is_time unit times start k =
    names_number (is_above_hours unit) times.hours (start / 3_600) (k / 3_600)
    && (names_number (is_above_minutes unit) times.minutes (start / 60 % 60) (k / 60 % 60)
    && names_number (is_above_seconds unit) times.seconds (start % 60) (k % 60))

-- the number of the day, hour, minute or second of local time in which the second k of the day n lies. Units in a row have numbers in a row
unfoldable pub unit_number : ClockUnit → ℤ → ℕ → ℤ
unit_number Day n k = n
unit_number Hour n k = n *ℤ pos 24 +ℤ pos (k / 3_600)
unit_number Minute n k = n *ℤ pos 1_440 +ℤ pos (k / 60)
unit_number Second n k = n *ℤ pos 86_400 +ℤ pos k

-- how many units the second k of the day n lies behind one that INTERVAL counts: 0 if its own unit counts. INTERVAL says "at which intervals the
-- recurrence rule repeats", so a unit counts that lies a whole number of intervals from the start's. An interval of 0, which no text has, means 1
unfoldable pub units_behind : LocalParts → ℤ → ℕ → ℕ
units_behind r n k =
    let apart = unit_number r.steps.unit n k -ℤ unit_number r.steps.unit r.start.date r.start.time.second in
    unsigned_abs (int_rem_euclid apart (pos (if r.steps.interval == 0 then 1 else r.steps.interval)))

-- the second k of the day n is one of the times, in a unit that counts
unfoldable pub is_counted_time : LocalParts → ℤ → ℕ → Bool
is_counted_time r n k = (units_behind r n k == 0) && is_time r.steps.unit r.times r.start.time.second k

-- the second k of the day n is a local time of the rule: it is one of the times, on an instance of the rule of days
unfoldable pub is_planned_on : LocalParts → ℤ → ℕ → Bool
is_planned_on r n k = is_instance r.days r.start.date n && is_counted_time r n k

-- the rule recurs at the local time m, which begins a second. A DATE-TIME has whole seconds
abbrev pub is_planned : LocalParts → Moment → Bool
is_planned r m = is_planned_on r m.date m.time.second && m.time.fraction == 0

-- the local second l, counted from 1 January 1970, is the beginning of a local time of the rule
pub record IsLocalSecond (r : LocalParts) (l : ℤ) : Type 0 where
  pub planned : Moment
  pub exists : IsMoment planned
  pub listed : is_planned r planned ≡ true
  pub second : epoch_second planned ≡ l

-- the start alone says the time of day
abbrev pub has_one_time : ClockUnit → DayTimes → Bool
has_one_time unit times = is_above_hours unit && lacks_times times

-- a rule that this crate evaluates has no BYSETPOS if a day may have several of its times. There "BYSETPOS" would count date-times of a period.
-- COUNT and UNTIL are not those of days
pub record IsLocalRule (r : LocalParts) : Type 0 where
  pub endless : r.days.end ≡ Never
  pub positions : (lacks_positions r.days ≡ true) ⊎ (has_one_time r.steps.unit r.times ≡ true)

-- known values: from 09:30:00, with the hours 9 and 17
abbrev at_two_hours : DayTimes
at_two_hours = record times_of_start { hours = numbers (9 ∷ 17 ∷ []) }

is_time-second_hour : is_time Day at_two_hours 34_200 63_000 ≡ true
unfolding is_time is_above_hours is_above_minutes is_above_seconds has
is_time-second_hour = refl

is_time-other_minute : is_time Day at_two_hours 34_200 63_060 ≡ false
unfolding is_time is_above_hours is_above_minutes is_above_seconds has
is_time-other_minute = refl

-- by hours the hours limit, and the start says the minute and the second. By minutes it says the second alone
is_time-other_hour : is_time Hour times_of_start 34_200 37_800 ≡ true
unfolding is_time is_above_hours is_above_minutes is_above_seconds has
is_time-other_hour = refl

is_time-other_minute_by_hours : is_time Hour times_of_start 34_200 37_860 ≡ false
unfolding is_time is_above_hours is_above_minutes is_above_seconds has
is_time-other_minute_by_hours = refl

is_time-other_minute_by_minutes : is_time Minute times_of_start 34_200 37_860 ≡ true
unfolding is_time is_above_hours is_above_minutes is_above_seconds has
is_time-other_minute_by_minutes = refl

is_time-other_second_by_minutes : is_time Minute times_of_start 34_200 37_861 ≡ false
unfolding is_time is_above_hours is_above_minutes is_above_seconds has
is_time-other_second_by_minutes = refl

-- at midnight of the day 2, 24 hours have begun since that of the day 1, and 1,440 minutes
unit_number-hours : unit_number Hour (pos 2) 3_600 ≡ unit_number Hour (pos 1) 0 +ℤ pos 25
unfolding unit_number
unit_number-hours = refl

unit_number-minutes : unit_number Minute (pos 2) 60 ≡ unit_number Minute (pos 1) 0 +ℤ pos 1_441
unfolding unit_number
unit_number-minutes = refl

unit_number-seconds : unit_number Second (pos 2) 1 ≡ unit_number Second (pos 1) 0 +ℤ pos 86_401
unfolding unit_number
unit_number-seconds = refl
