-- Weekdays and the weeks of ISO 8601.
use Rattle.std.specs.Prelude.{ℕ, ◌+◌, ◌-◌, ◌*◌, ◌/◌, Bool, ◌&&◌, ◌==◌, nat_le, if◌then◌else◌, slice_get, ℤ, pos, neg_ℤ, ◌+ℤ◌, ◌-ℤ◌, ◌≤ℤ◌, unsigned_abs, List, Option, Some, None}
use Rattle.std.specs.Int.{int_rem_euclid}
use Rattle.std.specs.List.{filter, range_with_len}
use Rattle.std.specs.Option.{option_map, option_or}
use Rattle.std.specs.Ordering.{int_eq}
use Rattle.chrono_units.specs.Years.{month_length, is_year}
use Rattle.chrono_units.specs.declared.weekday.Weekday.{Weekday}
use Rattle.chrono_units.specs.Weekday.{days_from_sunday, days_since, number_from_monday, weekday_from_sunday}
use Rattle.chrono_calendar.specs.Days.{days_before_year, day_number_of_ymd, year_of, ordinal_of, is_date}

-- the weekday of the day n: the days since the Sunday on or before it
abbrev pub days_from_sunday_of : ℤ → ℕ
days_from_sunday_of n = unsigned_abs (int_rem_euclid n (pos 7))

-- the weekday of the day n, from 1 for Monday to 7 for Sunday (ISO 8601)
abbrev pub iso_weekday_of : ℤ → ℕ
iso_weekday_of n = if days_from_sunday_of n == 0 then 7 else days_from_sunday_of n

-- the Thursday of the week of the day n, which begins on Monday
abbrev pub thursday_of_week : ℤ → ℤ
thursday_of_week n = n +ℤ pos 4 -ℤ pos (iso_weekday_of n)

-- the ISO year of the day n: the year of its week's Thursday (ISO 8601 week date)
abbrev pub iso_year_of : ℤ → ℤ
iso_year_of n = year_of (thursday_of_week n)

-- the ISO week of the day n: the Thursdays of its ISO year up to its own
abbrev pub iso_week_of : ℤ → ℕ
iso_week_of n = 1 + (ordinal_of (thursday_of_week n) - 1) / 7

-- the weekday of the day n
abbrev pub weekday_of : ℤ → Weekday
weekday_of n = weekday_from_sunday (days_from_sunday_of n)

-- the Monday of the week that holds 4 January, the first of the year's weeks
abbrev pub first_monday_of : ℤ → ℤ
first_monday_of y =
    let fourth = days_before_year y +ℤ pos 4 in
    fourth +ℤ pos 1 -ℤ pos (iso_weekday_of fourth)

-- the day at the weekday d of the ISO year's w-th week, or past that year
abbrev pub day_number_of_iso : ℤ → ℕ → ℕ → ℤ
day_number_of_iso y w d = (first_monday_of y +ℤ pos (7 * w + d)) -ℤ pos 8

-- the day n is named by the ISO year y, the week w and the weekday d
abbrev pub is_iso_name : ℤ → ℕ → ℕ → ℤ → Bool
is_iso_name y w d n = int_eq (iso_year_of n) y && (iso_week_of n == w) && (iso_weekday_of n == d)

-- the date with this ISO year, week and weekday, if there is one
unfoldable pub date_of_iso : ℤ → ℕ → Weekday → Option ℤ
date_of_iso y w weekday =
    let d = number_from_monday weekday in
    let n = day_number_of_iso y w d in
    if is_date n && is_iso_name y w d n then Some n else None

-- the day before n by the days from the weekday start on to that of n: the last day on or before n that has that weekday
abbrev pub week_first_of : ℤ → Weekday → ℤ
week_first_of n start = n -ℤ pos (days_since (weekday_of n) start)

-- n lies from six days before the first date to the last date, as each first day of a date's week does
abbrev pub IsFirstOfWeek : ℤ → Type 0
IsFirstOfWeek n = (neg_ℤ (pos 95_746_135) ≤ℤ n) × (n ≤ℤ pos 95_745_399)

-- the days of the month m of the year y that have the weekday, in order
unfoldable pub days_with_weekday : ℤ → ℕ → Weekday → List ℕ
days_with_weekday y m weekday =
    filter (λ d. days_from_sunday_of (day_number_of_ymd y m d) == days_from_sunday weekday)
    (range_with_len 1 (month_length y m))

-- the date of the n-th day with the weekday in that month, if there is one
unfoldable pub date_of_nth_weekday : ℤ → ℕ → Weekday → ℕ → Option ℤ
date_of_nth_weekday y m weekday n =
    if is_year y && (nat_le 1 m && nat_le m 12) && nat_le 1 n
    then option_map (λ d. day_number_of_ymd y m d) (slice_get (days_with_weekday y m weekday) (n - 1))
    else None

-- the last day of the month m of the year y that has the weekday, if the library has that month: the fifth, or the fourth if there is no fifth
abbrev pub date_of_last_weekday : ℤ → ℕ → Weekday → Option ℤ
date_of_last_weekday y m weekday = option_or (date_of_nth_weekday y m weekday 5) (date_of_nth_weekday y m weekday 4)
