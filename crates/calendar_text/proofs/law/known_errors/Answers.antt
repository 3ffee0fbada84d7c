use Rattle.std.proofs.Common.{refl}
use Rattle.chrono_datetime.specs.Days.{date_of_ymd, days_before_year, days_of_months_in, days_of_years}
use Rattle.chrono_rules.specs.RuleTexts.{date_of}
use Rattle.chrono_text.specs.Numbers.{digits_of, natural_of}
use Rattle.calendar_text.specs.CalendarTexts.{start_read}
use Rattle.calendar_text.specs.CalendarTimes.{clock_of, moment_of, time_of}
use Rattle.calendar_text.specs.Lines.{has_class, parameters_read, property_key, property_of, time_fault, time_read, with_line, with_list, with_parameter, with_property, with_rule, with_start, with_time, with_type, with_zone, zone_of, zones_agree}
use Rattle.calendar_text.specs.Reads.{placed_through}
use Rattle.calendar_text.proofs.law.known_errors.Goals as goal

pub returns-clause-kind : goal.returns-clause-kind
unfolding start_read property_key property_of with_line with_property with_start with_rule with_list with_time placed_through parameters_read with_parameter with_zone with_type zone_of zones_agree time_read time_fault time_of moment_of clock_of has_class date_of date_of_ymd days_before_year days_of_years days_of_months_in digits_of natural_of
returns-clause-kind c = refl

pub returns-clause-twice : goal.returns-clause-twice
unfolding start_read property_key property_of with_line with_property with_start with_rule with_list with_time placed_through parameters_read with_parameter with_zone with_type zone_of zones_agree time_read time_fault time_of moment_of clock_of has_class date_of date_of_ymd days_before_year days_of_years days_of_months_in digits_of natural_of
returns-clause-twice c = refl

pub returns-clause-zone : goal.returns-clause-zone
unfolding start_read property_key property_of with_line with_property with_start with_rule with_list with_time placed_through parameters_read with_parameter with_zone with_type zone_of zones_agree time_read time_fault time_of moment_of clock_of has_class date_of date_of_ymd days_before_year days_of_years days_of_months_in digits_of natural_of
returns-clause-zone c = refl
