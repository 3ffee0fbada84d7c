use Rattle.std.proofs.Common.{refl}
use Rattle.chrono_pattern.specs.DateParts.{names_calendar, names_date, names_ordinal, names_week, names_year_week}
use Rattle.chrono_pattern.specs.TimeParts.{names_time}
use Rattle.chrono_pattern.specs.ZonedParts.{names_moment, names_zoned}
use Rattle.chrono_pattern.proofs.law.known_names_of_times.Goals as goal

pub returns-clause-minute : goal.returns-clause-minute
unfolding names_calendar names_date names_ordinal names_week names_year_week names_time names_moment names_zoned
returns-clause-minute c v = refl

pub returns-clause-second : goal.returns-clause-second
unfolding names_calendar names_date names_ordinal names_week names_year_week names_time names_moment names_zoned
returns-clause-second c v = refl

pub returns-clause-fraction : goal.returns-clause-fraction
unfolding names_calendar names_date names_ordinal names_week names_year_week names_time names_moment names_zoned
returns-clause-fraction c v = refl

pub returns-clause-fraction_alone : goal.returns-clause-fraction_alone
unfolding names_calendar names_date names_ordinal names_week names_year_week names_time names_moment names_zoned
returns-clause-fraction_alone c v = refl

pub returns-clause-no_half : goal.returns-clause-no_half
unfolding names_calendar names_date names_ordinal names_week names_year_week names_time names_moment names_zoned
returns-clause-no_half c v = refl

pub returns-clause-no_hour : goal.returns-clause-no_hour
unfolding names_calendar names_date names_ordinal names_week names_year_week names_time names_moment names_zoned
returns-clause-no_hour c v = refl

pub returns-clause-no_minute : goal.returns-clause-no_minute
unfolding names_calendar names_date names_ordinal names_week names_year_week names_time names_moment names_zoned
returns-clause-no_minute c v = refl

pub returns-clause-date_time : goal.returns-clause-date_time
unfolding names_calendar names_date names_ordinal names_week names_year_week names_time names_moment names_zoned
returns-clause-date_time c v = refl

pub returns-clause-date_alone : goal.returns-clause-date_alone
unfolding names_calendar names_date names_ordinal names_week names_year_week names_time names_moment names_zoned
returns-clause-date_alone c v = refl

pub returns-clause-time_alone : goal.returns-clause-time_alone
unfolding names_calendar names_date names_ordinal names_week names_year_week names_time names_moment names_zoned
returns-clause-time_alone c v = refl

pub returns-clause-stamp : goal.returns-clause-stamp
unfolding names_calendar names_date names_ordinal names_week names_year_week names_time names_moment names_zoned
returns-clause-stamp c v = refl

pub returns-clause-zoned : goal.returns-clause-zoned
unfolding names_calendar names_date names_ordinal names_week names_year_week names_time names_moment names_zoned
returns-clause-zoned c v = refl

pub returns-clause-no_offset : goal.returns-clause-no_offset
unfolding names_calendar names_date names_ordinal names_week names_year_week names_time names_moment names_zoned
returns-clause-no_offset c v = refl

pub returns-clause-offset_alone : goal.returns-clause-offset_alone
unfolding names_calendar names_date names_ordinal names_week names_year_week names_time names_moment names_zoned
returns-clause-offset_alone c v = refl

pub returns-clause-stamp_in_utc : goal.returns-clause-stamp_in_utc
unfolding names_calendar names_date names_ordinal names_week names_year_week names_time names_moment names_zoned
returns-clause-stamp_in_utc c v = refl
