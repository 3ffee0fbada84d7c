-- A day with a time of day: where a duration leads from there, and how far two are apart. Any whole number is a day here.
use Rattle.std.specs.Prelude.{◌≡◌, ℤ, pos, neg_ℤ, ◌+ℤ◌, ◌-ℤ◌, ◌*ℤ◌, Option, refl}
use Rattle.std.specs.Option.{option_map}
use Rattle.chrono_clock.specs.Duration.{nanos_per_day}
use Rattle.chrono_clock.specs.Time.{TimeOfDay, land, distance, time_at}

-- a day's number, and a time of day
pub record Moment : Type 0 where
  pub date : ℤ
  pub time : TimeOfDay

-- the day n at the time t
abbrev pub moment : ℤ → TimeOfDay → Moment
moment n t = record { date = n; time = t }

-- the moment at the time t of a day, if there is such a day
abbrev pub moment_on : Option ℤ → TimeOfDay → Option Moment
moment_on date t = option_map (λ n. moment n t) date

-- the moment x nanoseconds on, on the line of the start's time
abbrev pub moved : Moment → ℤ → Moment
moved m x = moment (m.date +ℤ (land m.time x).day) (land m.time x).time

-- the moment x nanoseconds on, if `date_of` has a date for its day
abbrev pub reach_by : (ℤ → Option ℤ) → Moment → ℤ → Option Moment
reach_by date_of m x = moment_on (date_of (moved m x).date) (moved m x).time

-- how far a is from b: the days between their dates, and how far their times are apart
unfoldable pub moment_distance : Moment → Moment → ℤ
moment_distance a b = (a.date -ℤ b.date) *ℤ pos nanos_per_day +ℤ distance a.time b.time

-- known values: half a second on from the middle of a leap second is midnight of the next day, and midnight is that far from there
-- the other way
moved-leap_500_ms : moved (moment (pos 7) (time_at 23 59 59 1_500_000_000)) (pos 500_000_000) ≡ moment (pos 8) (time_at 0 0 0 0)
unfolding land
moved-leap_500_ms = refl

moment_distance-leap : moment_distance (moment (pos 8) (time_at 0 0 0 0)) (moment (pos 7) (time_at 23 59 59 1_500_000_000)) ≡ neg_ℤ (pos 500_000_000)
unfolding moment_distance distance
moment_distance-leap = refl
