use Rattle.std.proofs.Common.{pos, negsuc, refl, arith}
use Rattle.std.specs.Fmt.{digits}
use Rattle.chrono_datetime.specs.Days.{days_of_years, days_before_year, days_of_months_in, date_of_ymd, date_of_yo}
use Rattle.chrono_datetime.specs.declared.Weekday.TheVariants.{Mon, Sun}
use Rattle.chrono_reading.proofs.NearMisses.{no_leap_day, one_digit_month, signed_zero}
use Rattle.chrono_reading.proofs.law.known_texts_of_dates.Goals as goal

pub returns-clause-leap_day : goal.returns-clause-leap_day
unfolding date_of_ymd days_before_year days_of_years days_of_months_in
returns-clause-leap_day c = record {
  year = pos 2024;
  month = 2;
  day = 29;
  names = refl;
  written = refl;
}

pub returns-clause-ordinal : goal.returns-clause-ordinal
unfolding date_of_yo days_before_year days_of_years days_of_months_in
returns-clause-ordinal c = record {
  year = pos 2024;
  ordinal = 60;
  names = refl;
  written = refl;
}

pub returns-clause-five_digits : goal.returns-clause-five_digits
unfolding date_of_ymd days_before_year days_of_years days_of_months_in digits
returns-clause-five_digits c = record {
  year = pos 12_345;
  month = 1;
  day = 1;
  names = refl;
  written = refl;
}

pub returns-clause-before_zero : goal.returns-clause-before_zero
unfolding date_of_ymd days_before_year days_of_years days_of_months_in digits
returns-clause-before_zero c = record {
  year = negsuc 0;
  month = 12;
  day = 31;
  names = refl;
  written = refl;
}

pub returns-clause-first : goal.returns-clause-first
unfolding digits
returns-clause-first c = record {
  year = negsuc 262_142;
  month = 1;
  day = 1;
  names = c.known_days.ensures.first;
  written = refl;
}

pub returns-clause-last : goal.returns-clause-last
unfolding digits
returns-clause-last c = record {
  year = pos 262_142;
  ordinal = 365;
  names = c.known_days.ensures.last;
  written = refl;
}

pub returns-clause-week_one : goal.returns-clause-week_one
returns-clause-week_one c = record {
  year = pos 2025;
  week = 1;
  weekday = Mon;
  year_in_range = (omega arith, omega arith);
  week_in_year = (omega arith, omega arith);
  names = c.known_weeks.ensures.week_one;
  written = refl;
}

pub returns-clause-week_53 : goal.returns-clause-week_53
returns-clause-week_53 c = record {
  year = pos 2020;
  week = 53;
  weekday = Sun;
  year_in_range = (omega arith, omega arith);
  week_in_year = (omega arith, omega arith);
  names = c.known_weeks.ensures.week_53;
  written = refl;
}

pub returns-clause-one_digit : goal.returns-clause-one_digit
returns-clause-one_digit c = one_digit_month

pub returns-clause-no_leap_day : goal.returns-clause-no_leap_day
returns-clause-no_leap_day c = no_leap_day

pub returns-clause-signed_zero : goal.returns-clause-signed_zero
returns-clause-signed_zero c = signed_zero
