-- The texts of times of day.
use Rattle.std.specs.Prelude.{◌≡◌, ◌==◌, ◌<◌, ◌≤◌, ◌+◌, ℕ, List, ◌++◌, codes, take, drop, if◌then◌else◌}
use Rattle.chrono_datetime.specs.Duration.{nanos_per_second}
use Rattle.chrono_text.specs.Fractions.{IsFractionText, SameFraction}
use Rattle.chrono_text.specs.Text.{two_digits}
use Rattle.chrono_datetime.specs.Time.{TimeOfDay, time_at}

-- the texts show the same hour, minute and second in their first eight bytes, and behind those the same fraction
abbrev pub SameClock : List ℕ → List ℕ → Type 0
SameClock text other = (take 8 text ≡ take 8 other) × SameFraction (drop 8 text) (drop 8 other)

-- the time at which a clock shows these numbers; the second 60 is the leap second that follows 59
abbrev pub time_shown : ℕ → ℕ → ℕ → ℕ → TimeOfDay
time_shown hour minute second nanos =
    if second == 60 then time_at hour minute 59 (nanos_per_second + nanos) else time_at hour minute second nanos

-- a text of the time: the hour, the minute, the second and its fraction that a clock shows (ISO 8601 time of day)
pub record IsTimeText (text : List ℕ) (t : TimeOfDay) : Type 0 where
  pub hour : ℕ
  pub minute : ℕ
  pub second : ℕ
  pub nanos : ℕ
  pub fraction : List ℕ
  pub hour_in_day : hour < 24
  pub minute_in_hour : minute < 60
  pub second_in_minute : second ≤ 60
  pub names : time_shown hour minute second nanos ≡ t
  pub fraction_written : IsFractionText fraction nanos
  pub written : two_digits hour ++ codes ":" ++ two_digits minute ++ codes ":" ++ two_digits second ++ fraction ≡ text
