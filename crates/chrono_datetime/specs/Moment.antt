-- Date-times: a date and a time of day, where a duration leads from one, and how far two are apart.
use Rattle.std.specs.Prelude.{◌≡◌, ℤ, ◌+ℤ◌, ◌<ℤ◌, ◌⊎◌, Option}
use Rattle.std.specs.Ordering.{int_cmp, nat_cmp, on, then_cmp}
use Rattle.std.specs.declared.cmp.Ordering.{Ordering}
use Rattle.chrono_clock.specs.Duration.{IsDuration}
use Rattle.chrono_clock.specs.Time.{IsTime, IsPlain, IsLeap, IsEarlier, SameWay}
use Rattle.chrono_clock.specs.Moment.{reach_by}
use Rattle.chrono_naive.specs.Days.{IsDate, date_of_day}
pub use Rattle.chrono_clock.specs.Moment.{Moment, moment, moment_on, moved}
unfoldable pub use Rattle.chrono_clock.specs.Moment.{moment_distance}

-- a date-time that the library has: its date is one of the dates, and its time is a time of day
pub record IsMoment (m : Moment) : Type 0 where
  pub date : IsDate m.date
  pub time : IsTime m.time

-- the date-time x nanoseconds on, on the line of the start's time, if its day is a date
unfoldable pub reach : Moment → ℤ → Option Moment
reach m x = reach_by date_of_day m x

-- a comes before b: on an earlier date, or earlier on the same date
abbrev pub IsBefore : Moment → Moment → Type 0
IsBefore a b = (a.date <ℤ b.date) ⊎ ((a.date ≡ b.date) × IsEarlier a.time b.time)

-- date-times compared: by date, then by second of the day, and then by fraction
abbrev pub moment_cmp : Moment → Moment → Ordering
moment_cmp =
    then_cmp (on (λ m. m.date) int_cmp)
    (then_cmp (on (λ m. m.time.second) nat_cmp) (on (λ m. m.time.fraction) nat_cmp))

-- e was reached from m by x. A second move by y ends where the one move by the sum ends, or neither ends at a date. This
-- holds if m is in no leap second, or if the moves go the same way
abbrev pub MovesAddUp : Moment → ℤ → Moment → Type 0
MovesAddUp m x e = (y : ℤ) → IsDuration (x +ℤ y) → IsPlain m.time ⊎ SameWay x y → reach e y ≡ reach m (x +ℤ y)

-- a move by the distance of a from b leads back to a. This holds if neither is in a leap second, or if both are in the
-- same one. It also holds if both have one date and a is in no leap second
abbrev pub LeadsBack : Moment → Moment → Type 0
LeadsBack a b =
    (IsPlain a.time × IsPlain b.time)
    ⊎ ((a.date ≡ b.date) × (IsPlain a.time ⊎ (IsLeap a.time × IsLeap b.time × (a.time.second ≡ b.time.second))))

-- the distance's sign tells the order: if both have one date, or neither is in a leap second
abbrev pub SignTellsOrder : Moment → Moment → Type 0
SignTellsOrder a b = (a.date ≡ b.date) ⊎ (IsPlain a.time × IsPlain b.time)
