-- The parts of a date-time, as a text that is read back gives them.
use Rattle.std.specs.Prelude.{◌+◌, ◌/◌, ◌%◌, ℤ, pos, ◌-ℤ◌, Option, Some, None}
use Rattle.std.specs.Int.{int_div_euclid, int_rem_euclid}
use Rattle.chrono_datetime.specs.Days.{day_of, month_of, ordinal_of, year_of}
use Rattle.chrono_datetime.specs.Duration.{nanos_per_second}
use Rattle.chrono_datetime.specs.Fields.{quarter_of_month}
use Rattle.chrono_datetime.specs.Moment.{Moment}
use Rattle.chrono_datetime.specs.Time.{hour_of, minute_of, second_of}
use Rattle.chrono_datetime.specs.Weekday.{number_from_monday}
use Rattle.chrono_datetime.specs.Weeks.{iso_week_of, iso_year_of, weekday_of}
use Rattle.chrono_instant.specs.Instants.{epoch_second}
use Rattle.chrono_pattern.specs.YearWeeks.{week_from_monday, week_from_sunday}
use Rattle.chrono_pattern.specs.declared.parsed.Parsed.{Parsed}

-- the value of a part that is named
abbrev pub if_named : Option ℤ → ℤ → Option ℤ
if_named None v = None
if_named (Some w) v = Some v

-- the named parts, as the local date-time has them where the clock is x seconds ahead of UTC
abbrev pub parts_of : Parsed → Moment → ℤ → Parsed
parts_of p m x = record {
  year = if_named p.year (year_of m.date);
  year_div_100 = if_named p.year_div_100 (int_div_euclid (year_of m.date) (pos 100));
  year_mod_100 = if_named p.year_mod_100 (int_rem_euclid (year_of m.date) (pos 100));
  isoyear = if_named p.isoyear (iso_year_of m.date);
  isoyear_mod_100 = if_named p.isoyear_mod_100 (int_rem_euclid (iso_year_of m.date) (pos 100));
  quarter = if_named p.quarter (pos (quarter_of_month (month_of m.date)));
  month = if_named p.month (pos (month_of m.date));
  isoweek = if_named p.isoweek (pos (iso_week_of m.date));
  week_from_sun = if_named p.week_from_sun (pos (week_from_sunday m.date));
  week_from_mon = if_named p.week_from_mon (pos (week_from_monday m.date));
  weekday = if_named p.weekday (pos (number_from_monday (weekday_of m.date)));
  ordinal = if_named p.ordinal (pos (ordinal_of m.date));
  day = if_named p.day (pos (day_of m.date));
  hour_div_12 = if_named p.hour_div_12 (pos (hour_of m.time / 12));
  hour_mod_12 = if_named p.hour_mod_12 (pos (hour_of m.time % 12));
  minute = if_named p.minute (pos (minute_of m.time));
  second = if_named p.second (pos (second_of m.time + m.time.fraction / nanos_per_second));
  nanosecond = if_named p.nanosecond (pos (m.time.fraction % nanos_per_second));
  offset = if_named p.offset x;
  timestamp = if_named p.timestamp (epoch_second m -ℤ x);
}
