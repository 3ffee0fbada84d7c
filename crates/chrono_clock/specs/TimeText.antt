-- The texts of times of day, as lists of ASCII codes.
use Rattle.std.specs.Prelude.{◌≡◌, ℕ, List, codes, refl}
use Rattle.chrono_text.specs.Text.{clock_text}
use Rattle.chrono_clock.specs.Time.{TimeOfDay, hour_of, minute_of, second_of, time_at}

-- what `{}` and `{:?}` write for a time of day (ISO 8601 time of day)
abbrev pub time_text : TimeOfDay → List ℕ
time_text t = clock_text (hour_of t) (minute_of t) (second_of t) t.fraction

-- a leap second at 59 shows as 60, and elsewhere as a later second
time_text-sixty : time_text (time_at 23 59 59 1_500_000_000) ≡ codes "23:59:60.500"
time_text-sixty = refl

time_text-later_second : time_text (time_at 0 0 5 1_999_999_999) ≡ codes "00:00:06.999999999"
time_text-later_second = refl
