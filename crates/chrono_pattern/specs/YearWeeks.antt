-- The weeks of a year that begin on a given weekday. The days before the first such day are of week 0.
use Rattle.std.specs.Prelude.{ℕ, ◌==◌, ℤ, pos, ◌+ℤ◌, ◌-ℤ◌}
use Rattle.chrono_datetime.specs.Days.{ordinal_of}
use Rattle.chrono_datetime.specs.Recurrence.{count_where}
use Rattle.chrono_datetime.specs.Weeks.{days_from_sunday_of}

-- how many days of its year lie so many days after a Sunday, up to the day n
unfoldable pub weeks_begun : ℕ → ℤ → ℕ
weeks_begun start n = count_where (λ d. days_from_sunday_of d == start) (ordinal_of n) (n +ℤ pos 1 -ℤ pos (ordinal_of n))

-- the week of the year that begins on Sunday
abbrev pub week_from_sunday : ℤ → ℕ
week_from_sunday n = weeks_begun 0 n

-- the week of the year that begins on Monday
abbrev pub week_from_monday : ℤ → ℕ
week_from_monday n = weeks_begun 1 n
