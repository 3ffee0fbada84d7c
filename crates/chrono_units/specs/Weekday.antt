-- The days of the week, in a cycle of seven, and their numbers (ISO 8601 counts from Monday).
use Rattle.std.specs.Prelude.{ℕ, ◌+◌, ◌-◌, ◌%◌, ◌==◌, if◌then◌else◌}
use Rattle.chrono_units.specs.declared.weekday.Weekday.{Weekday}
use Rattle.chrono_units.specs.declared.weekday.Weekday.TheVariants.{Mon, Tue, Wed, Thu, Fri, Sat, Sun}

-- the days from Monday on to d, 0 to 6
abbrev pub days_from_monday : Weekday → ℕ
days_from_monday Mon = 0
days_from_monday Tue = 1
days_from_monday Wed = 2
days_from_monday Thu = 3
days_from_monday Fri = 4
days_from_monday Sat = 5
days_from_monday Sun = 6

-- the days from Sunday on to d, 0 to 6
abbrev pub days_from_sunday : Weekday → ℕ
days_from_sunday d = (days_from_monday d + 1) % 7

-- Monday is 1 and Sunday 7, as ISO 8601 numbers the days
abbrev pub number_from_monday : Weekday → ℕ
number_from_monday d = days_from_monday d + 1

-- Sunday is 1 and Saturday 7
abbrev pub number_from_sunday : Weekday → ℕ
number_from_sunday d = days_from_sunday d + 1

-- the day that many days after a Monday, for 0 to 6
abbrev pub weekday_from_monday : ℕ → Weekday
weekday_from_monday n =
    if n == 0 then Mon
    else (if n == 1 then Tue
    else (if n == 2 then Wed
    else (if n == 3 then Thu
    else (if n == 4 then Fri
    else (if n == 5 then Sat else Sun)))))

-- the day that many days after a Sunday, for 0 to 6
abbrev pub weekday_from_sunday : ℕ → Weekday
weekday_from_sunday n =
    if n == 0 then Sun
    else (if n == 1 then Mon
    else (if n == 2 then Tue
    else (if n == 3 then Wed
    else (if n == 4 then Thu
    else (if n == 5 then Fri else Sat)))))

-- the day after d, Monday after Sunday
abbrev pub next_weekday : Weekday → Weekday
next_weekday d = weekday_from_monday ((days_from_monday d + 1) % 7)

-- the day before d, Sunday before Monday
abbrev pub previous_weekday : Weekday → Weekday
previous_weekday d = weekday_from_monday ((days_from_monday d + 6) % 7)

-- the days from the day e on to the next d, 0 if they are one day
abbrev pub days_since : Weekday → Weekday → ℕ
days_since d e = (days_from_monday d + 7 - days_from_monday e) % 7
