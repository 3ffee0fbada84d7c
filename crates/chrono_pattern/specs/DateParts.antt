-- Which dates fit the parts that a text gives, and which parts suffice for a date.
use Rattle.std.specs.Prelude.{Bool, true, false, ◌&&◌, if◌then◌else◌, ℤ, pos, Option, Some, None, int_le}
use Rattle.std.specs.Int.{int_div_euclid, int_rem_euclid}
use Rattle.std.specs.Ordering.{int_eq}
use Rattle.chrono_datetime.specs.Days.{day_of, month_of, ordinal_of, year_of}
use Rattle.chrono_datetime.specs.Fields.{quarter_of_month}
use Rattle.chrono_datetime.specs.Weekday.{number_from_monday}
use Rattle.chrono_datetime.specs.declared.Weekday.{Weekday}
use Rattle.chrono_datetime.specs.declared.Weekday.TheVariants.{Mon, Tue, Wed, Thu, Fri, Sat, Sun}
use Rattle.chrono_datetime.specs.Weeks.{iso_week_of, iso_year_of, weekday_of}
use Rattle.chrono_pattern.specs.YearWeeks.{week_from_monday, week_from_sunday}
use Rattle.chrono_pattern.specs.declared.parsed.Parsed.{Parsed}

-- the part is given
abbrev pub is_present : Option ℤ → Bool
is_present None = false
is_present (Some v) = true

-- the part is this value, if it is given
abbrev pub says : Option ℤ → ℤ → Bool
says None v = true
says (Some w) v = int_eq w v

-- the year of the century alone stands for one of the years 1970 to 2069
abbrev pub in_window : Option ℤ → Option ℤ → Option ℤ → ℤ → Bool
in_window None None (Some r) y = int_le (pos 1970) y && int_le y (pos 2069)
in_window year century part y = true

-- the parts of a year fit it
unfoldable pub year_fits : Parsed → ℤ → Bool
year_fits p y =
    (says p.year y && says p.year_div_100 (int_div_euclid y (pos 100)))
    && (says p.year_mod_100 (int_rem_euclid y (pos 100)) && in_window p.year p.year_div_100 p.year_mod_100 y)

-- the parts of a day of the year fit the date
unfoldable pub day_fits : Parsed → ℤ → Bool
day_fits p n =
    (says p.month (pos (month_of n)) && says p.day (pos (day_of n)))
    && (says p.ordinal (pos (ordinal_of n)) && says p.quarter (pos (quarter_of_month (month_of n))))

-- the parts of a day of an ISO week fit the date
unfoldable pub week_fits : Parsed → ℤ → Bool
week_fits p n =
    (says p.isoyear (iso_year_of n) && says p.isoyear_mod_100 (int_rem_euclid (iso_year_of n) (pos 100)))
    && (says p.isoweek (pos (iso_week_of n)) && says p.weekday (pos (number_from_monday (weekday_of n))))

-- the parts of a week of the year fit the date
unfoldable pub year_week_fits : Parsed → ℤ → Bool
year_week_fits p n = says p.week_from_sun (pos (week_from_sunday n)) && says p.week_from_mon (pos (week_from_monday n))

-- the date fits all parts that are given
unfoldable pub date_fits : Parsed → ℤ → Bool
date_fits p n = year_fits p (year_of n) && (day_fits p n && (week_fits p n && year_week_fits p n))

-- the parts name a year: the year itself, or its place in its century
abbrev pub names_year : Parsed → Bool
names_year p = if is_present p.year then true else is_present p.year_mod_100

-- the parts name a date by its year, its month and its day
unfoldable pub names_calendar : Parsed → Bool
names_calendar p = names_year p && (is_present p.month && is_present p.day)

-- the parts name a date by its year and its place there
unfoldable pub names_ordinal : Parsed → Bool
names_ordinal p = names_year p && is_present p.ordinal

-- the parts name a date by its ISO year, its week and its weekday
unfoldable pub names_week : Parsed → Bool
names_week p = is_present p.isoyear && (is_present p.isoweek && is_present p.weekday)

-- the parts name a date by its year, this week of it and the weekday
unfoldable pub names_year_week : Option ℤ → Parsed → Bool
names_year_week week p = names_year p && (is_present week && is_present p.weekday)

-- the parts suffice for a date
unfoldable pub names_date : Parsed → Bool
names_date p =
    if names_calendar p then true
    else if names_ordinal p then true
    else if names_week p then true
    else if names_year_week p.week_from_sun p then true
    else names_year_week p.week_from_mon p

-- the weekday of a number from 1 for Monday, and Sunday for any other
abbrev pub weekday_at_number : ℤ → Weekday
weekday_at_number v =
    if int_eq v (pos 1) then Mon
    else if int_eq v (pos 2) then Tue
    else if int_eq v (pos 3) then Wed
    else if int_eq v (pos 4) then Thu
    else if int_eq v (pos 5) then Fri
    else if int_eq v (pos 6) then Sat
    else Sun
