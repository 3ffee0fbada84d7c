use Rattle.std.proofs.Common.{[], codes, inl, inr, pos, refl, arith}
use Rattle.chrono_datetime.specs.Days.{date_of_ymd, days_before_year, days_of_months_in, days_of_years}
use Rattle.chrono_stamps.proofs.law.known_rfc3339_texts.Goals as goal

pub returns-clause-utc : goal.returns-clause-utc
unfolding date_of_ymd days_before_year days_of_years days_of_months_in
returns-clause-utc c = record {
  date = codes "1985-04-12";
  separator = 84;
  time = codes "23:20:50.52";
  offset = codes "Z";
  date_written = record { year = pos 1985; month = 4; day = 12; names = refl; written = refl };
  year_has_four_digits = refl;
  between = inl refl;
  time_written = record {
    hour = 23;
    minute = 20;
    second = 50;
    nanos = 520000000;
    fraction = codes ".52";
    hour_in_day = omega arith;
    minute_in_hour = omega arith;
    second_in_minute = omega arith;
    names = refl;
    fraction_written = inr (record { places = 2; count = 52; some = (omega arith, omega arith); below = omega arith; worth = refl; written = refl });
    written = refl;
  };
  offset_written = inl (inl refl, refl);
  written = refl;
}

pub returns-clause-pacific : goal.returns-clause-pacific
unfolding date_of_ymd days_before_year days_of_years days_of_months_in
returns-clause-pacific c = record {
  date = codes "1996-12-19";
  separator = 84;
  time = codes "16:39:57";
  offset = codes "-08:00";
  date_written = record { year = pos 1996; month = 12; day = 19; names = refl; written = refl };
  year_has_four_digits = refl;
  between = inl refl;
  time_written = record {
    hour = 16;
    minute = 39;
    second = 57;
    nanos = 0;
    fraction = [];
    hour_in_day = omega arith;
    minute_in_hour = omega arith;
    second_in_minute = omega arith;
    names = refl;
    fraction_written = inl (refl, refl);
    written = refl;
  };
  offset_written = inr (inr (record { in_range = omega arith; written = refl; minutes_end_it = refl }));
  written = refl;
}

pub returns-clause-leap : goal.returns-clause-leap
unfolding date_of_ymd days_before_year days_of_years days_of_months_in
returns-clause-leap c = record {
  date = codes "1990-12-31";
  separator = 84;
  time = codes "23:59:60";
  offset = codes "Z";
  date_written = record { year = pos 1990; month = 12; day = 31; names = refl; written = refl };
  year_has_four_digits = refl;
  between = inl refl;
  time_written = record {
    hour = 23;
    minute = 59;
    second = 60;
    nanos = 0;
    fraction = [];
    hour_in_day = omega arith;
    minute_in_hour = omega arith;
    second_in_minute = omega arith;
    names = refl;
    fraction_written = inl (refl, refl);
    written = refl;
  };
  offset_written = inl (inl refl, refl);
  written = refl;
}

pub returns-clause-leap_pacific : goal.returns-clause-leap_pacific
unfolding date_of_ymd days_before_year days_of_years days_of_months_in
returns-clause-leap_pacific c = record {
  date = codes "1990-12-31";
  separator = 84;
  time = codes "15:59:60";
  offset = codes "-08:00";
  date_written = record { year = pos 1990; month = 12; day = 31; names = refl; written = refl };
  year_has_four_digits = refl;
  between = inl refl;
  time_written = record {
    hour = 15;
    minute = 59;
    second = 60;
    nanos = 0;
    fraction = [];
    hour_in_day = omega arith;
    minute_in_hour = omega arith;
    second_in_minute = omega arith;
    names = refl;
    fraction_written = inl (refl, refl);
    written = refl;
  };
  offset_written = inr (inr (record { in_range = omega arith; written = refl; minutes_end_it = refl }));
  written = refl;
}

pub returns-clause-netherlands : goal.returns-clause-netherlands
unfolding date_of_ymd days_before_year days_of_years days_of_months_in
returns-clause-netherlands c = record {
  date = codes "1937-01-01";
  separator = 84;
  time = codes "12:00:27.87";
  offset = codes "+00:20";
  date_written = record { year = pos 1937; month = 1; day = 1; names = refl; written = refl };
  year_has_four_digits = refl;
  between = inl refl;
  time_written = record {
    hour = 12;
    minute = 0;
    second = 27;
    nanos = 870000000;
    fraction = codes ".87";
    hour_in_day = omega arith;
    minute_in_hour = omega arith;
    second_in_minute = omega arith;
    names = refl;
    fraction_written = inr (record { places = 2; count = 87; some = (omega arith, omega arith); below = omega arith; worth = refl; written = refl });
    written = refl;
  };
  offset_written = inr (inr (record { in_range = omega arith; written = refl; minutes_end_it = refl }));
  written = refl;
}
