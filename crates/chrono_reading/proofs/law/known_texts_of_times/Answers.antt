use Rattle.std.proofs.Common.{[], codes, inl, inr, refl, arith}
use Rattle.chrono_reading.proofs.NearMisses.{hour_24, no_digit, one_digit_hour, second_61}
use Rattle.chrono_reading.proofs.law.known_texts_of_times.Goals as goal

pub returns-clause-midnight : goal.returns-clause-midnight
returns-clause-midnight c = record {
  hour = 0;
  minute = 0;
  second = 0;
  nanos = 0;
  fraction = [];
  hour_in_day = omega arith;
  minute_in_hour = omega arith;
  second_in_minute = omega arith;
  names = refl;
  fraction_written = inl (refl, refl);
  written = refl;
}

pub returns-clause-zeros : goal.returns-clause-zeros
returns-clause-zeros c = record {
  hour = 0;
  minute = 0;
  second = 0;
  nanos = 0;
  fraction = codes ".000";
  hour_in_day = omega arith;
  minute_in_hour = omega arith;
  second_in_minute = omega arith;
  names = refl;
  fraction_written = inr (record { places = 3; count = 0; some = (omega arith, omega arith); below = omega arith; worth = refl; written = refl });
  written = refl;
}

pub returns-clause-leap : goal.returns-clause-leap
returns-clause-leap c = record {
  hour = 23;
  minute = 59;
  second = 60;
  nanos = 0;
  fraction = [];
  hour_in_day = omega arith;
  minute_in_hour = omega arith;
  second_in_minute = omega arith;
  names = refl;
  fraction_written = inl (refl, refl);
  written = refl;
}

pub returns-clause-half_leap : goal.returns-clause-half_leap
returns-clause-half_leap c = record {
  hour = 23;
  minute = 59;
  second = 60;
  nanos = 500000000;
  fraction = codes ".5";
  hour_in_day = omega arith;
  minute_in_hour = omega arith;
  second_in_minute = omega arith;
  names = refl;
  fraction_written = inr (record { places = 1; count = 5; some = (omega arith, omega arith); below = omega arith; worth = refl; written = refl });
  written = refl;
}

pub returns-clause-any_minute : goal.returns-clause-any_minute
returns-clause-any_minute c = record {
  hour = 12;
  minute = 34;
  second = 60;
  nanos = 0;
  fraction = [];
  hour_in_day = omega arith;
  minute_in_hour = omega arith;
  second_in_minute = omega arith;
  names = refl;
  fraction_written = inl (refl, refl);
  written = refl;
}

pub returns-clause-hour_24 : goal.returns-clause-hour_24
returns-clause-hour_24 c = hour_24

pub returns-clause-second_61 : goal.returns-clause-second_61
returns-clause-second_61 c = second_61

pub returns-clause-one_digit : goal.returns-clause-one_digit
returns-clause-one_digit c = one_digit_hour

pub returns-clause-no_digit : goal.returns-clause-no_digit
returns-clause-no_digit c = no_digit
