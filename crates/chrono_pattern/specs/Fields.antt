-- Which fields of a date-time a pattern reads.
use Rattle.std.specs.Prelude.{ℕ, List}
use Rattle.chrono_pattern.specs.DateParts.{is_present}
use Rattle.chrono_pattern.specs.NamedParts.{named_parts}
use Rattle.chrono_pattern.specs.declared.fields.Fields.{Fields}
use Rattle.chrono_pattern.specs.declared.parsed.Parsed.{Parsed}

-- the fields that are given
abbrev pub fields_given : Parsed → Fields
fields_given p = record {
  year = is_present p.year;
  year_div_100 = is_present p.year_div_100;
  year_mod_100 = is_present p.year_mod_100;
  isoyear = is_present p.isoyear;
  isoyear_mod_100 = is_present p.isoyear_mod_100;
  quarter = is_present p.quarter;
  month = is_present p.month;
  isoweek = is_present p.isoweek;
  week_from_sun = is_present p.week_from_sun;
  week_from_mon = is_present p.week_from_mon;
  weekday = is_present p.weekday;
  ordinal = is_present p.ordinal;
  day = is_present p.day;
  hour_div_12 = is_present p.hour_div_12;
  hour_mod_12 = is_present p.hour_mod_12;
  minute = is_present p.minute;
  second = is_present p.second;
  nanosecond = is_present p.nanosecond;
  offset = is_present p.offset;
  timestamp = is_present p.timestamp;
}

-- the fields that the pattern reads
abbrev pub pattern_fields : List ℕ → Fields
pattern_fields bytes = fields_given (named_parts bytes)
