-- Day counts by their numbers.
use Rattle.std.specs.Prelude.{ℕ, ◌==◌, if◌then◌else◌, ℤ, pos, ◌-ℤ◌}
use Rattle.chrono_business.specs.DayCounts.{days_30_360, days_30e_360, days_actual_actual}
use Rattle.layers_c.specs.declared.day_counts.CalendarFraction.{CalendarFraction}

-- a fraction by its numbers
abbrev pub fraction : ℤ → ℤ → CalendarFraction
fraction numerator denominator = record { numerator = numerator; denominator = denominator }

-- no fraction
abbrev pub no_fraction : CalendarFraction
no_fraction = fraction (pos 0) (pos 0)

-- Actual/Actual (ISDA), Actual/360, Actual/365 (Fixed), 30/360 and 30E/360, numbered from 0
abbrev pub day_count : ℕ → ℤ → ℤ → CalendarFraction
day_count kind from to =
    if kind == 0 then fraction (days_actual_actual from to) (pos 133_590)
    else if kind == 1 then fraction (to -ℤ from) (pos 360)
    else if kind == 2 then fraction (to -ℤ from) (pos 365)
    else if kind == 3 then fraction (days_30_360 from to) (pos 360)
    else if kind == 4 then fraction (days_30e_360 from to) (pos 360)
    else no_fraction
