-- Clocks that are ahead of UTC by a fixed time, or behind it.
use Rattle.std.specs.Prelude.{◌≡◌, ◌<◌, ℤ, pos, neg_ℤ, ◌+ℤ◌, unsigned_abs, refl}
use Rattle.chrono_clock.specs.Time.{clock_ahead, seconds_per_day, time_at}
use Rattle.chrono_datetime.specs.Moment.{Moment, IsMoment, moment}
use Rattle.chrono_instant.specs.Instants.{epoch_second}

-- the seconds by which a clock may be ahead, or behind as a negative number: less than a day
abbrev pub IsOffset : ℤ → Type 0
IsOffset x = unsigned_abs x < seconds_per_day

-- a clock x seconds ahead of one that shows m shows e, a date-time whose fraction is the same
pub record IsShifted (m : Moment) (x : ℤ) (e : Moment) : Type 0 where
  pub second : epoch_second e ≡ epoch_second m +ℤ x
  pub fraction : e.time.fraction ≡ m.time.fraction
  pub exists : IsMoment e

-- what a clock shows that is x seconds ahead of one that shows m
abbrev pub moment_ahead : Moment → ℤ → Moment
moment_ahead m x =
    let shown = clock_ahead m.time x in
    moment (m.date +ℤ shown.day) shown.time

-- known values: five and a half hours ahead it is the next day, and five hours behind the day before
moment_ahead-next_day : moment_ahead (moment (pos 7) (time_at 20 0 0 5)) (pos 19_800) ≡ moment (pos 8) (time_at 1 30 0 5)
moment_ahead-next_day = refl

moment_ahead-day_before : moment_ahead (moment (pos 7) (time_at 4 0 0 0)) (neg_ℤ (pos 18_000)) ≡ moment (pos 6) (time_at 23 0 0 0)
moment_ahead-day_before = refl
