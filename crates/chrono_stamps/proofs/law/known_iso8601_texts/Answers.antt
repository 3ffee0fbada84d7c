use Rattle.std.proofs.Common.{[], codes, inl, inr, pos, refl, arith}
use Rattle.chrono_datetime.specs.Days.{date_of_ymd, date_of_yo, days_before_year, days_of_months_in, days_of_years}
use Rattle.chrono_reading.specs.Fitting.{fitting}
use Rattle.chrono_stamps.specs.Iso8601.{clock_shown, offset_shown}
use Rattle.chrono_stamps.specs.IsoForms.{coloned, coloned_offset, hyphened, is_basic, with_separators}
use Rattle.chrono_stamps.proofs.law.known_iso8601_texts.Goals as goal

pub returns-clause-extended : goal.returns-clause-extended
unfolding is_basic with_separators hyphened coloned coloned_offset clock_shown offset_shown fitting date_of_ymd date_of_yo days_before_year days_of_years days_of_months_in
returns-clause-extended c = record {
  separated = refl;
  date_is = inl (record { year = pos 1985; month = 4; day = 12; names = refl; written = refl });
  time_is = record {
    hour = 10;
    minute = 15;
    second = 30;
    nanos = 0;
    fraction = [];
    hour_in_day = omega arith;
    minute_in_hour = omega arith;
    second_in_minute = omega arith;
    names = refl;
    fraction_written = inl (refl, refl);
    written = refl;
  };
  offset_is = inr (inr (omega arith, refl));
  instant = (omega arith, omega arith);
}

pub returns-clause-basic : goal.returns-clause-basic
unfolding is_basic with_separators hyphened coloned coloned_offset clock_shown offset_shown fitting date_of_ymd date_of_yo days_before_year days_of_years days_of_months_in
returns-clause-basic c = record {
  separated = refl;
  date_is = inl (record { year = pos 1985; month = 4; day = 12; names = refl; written = refl });
  time_is = record {
    hour = 10;
    minute = 15;
    second = 30;
    nanos = 0;
    fraction = [];
    hour_in_day = omega arith;
    minute_in_hour = omega arith;
    second_in_minute = omega arith;
    names = refl;
    fraction_written = inl (refl, refl);
    written = refl;
  };
  offset_is = inr (inr (omega arith, refl));
  instant = (omega arith, omega arith);
}

pub returns-clause-hour : goal.returns-clause-hour
unfolding is_basic with_separators hyphened coloned coloned_offset clock_shown offset_shown fitting date_of_ymd date_of_yo days_before_year days_of_years days_of_months_in
returns-clause-hour c = record {
  separated = refl;
  date_is = inl (record { year = pos 1985; month = 4; day = 12; names = refl; written = refl });
  time_is = record {
    hour = 10;
    minute = 15;
    second = 30;
    nanos = 0;
    fraction = [];
    hour_in_day = omega arith;
    minute_in_hour = omega arith;
    second_in_minute = omega arith;
    names = refl;
    fraction_written = inl (refl, refl);
    written = refl;
  };
  offset_is = inr (inr (omega arith, refl));
  instant = (omega arith, omega arith);
}

pub returns-clause-ordinal : goal.returns-clause-ordinal
unfolding is_basic with_separators hyphened coloned coloned_offset clock_shown offset_shown fitting date_of_ymd date_of_yo days_before_year days_of_years days_of_months_in
returns-clause-ordinal c = record {
  separated = refl;
  date_is = inr (inl (record { year = pos 1985; ordinal = 102; names = refl; written = refl }));
  time_is = record {
    hour = 10;
    minute = 15;
    second = 0;
    nanos = 0;
    fraction = [];
    hour_in_day = omega arith;
    minute_in_hour = omega arith;
    second_in_minute = omega arith;
    names = refl;
    fraction_written = inl (refl, refl);
    written = refl;
  };
  offset_is = inl (refl, refl);
  instant = (omega arith, omega arith);
}

pub returns-clause-week : goal.returns-clause-week
unfolding is_basic with_separators hyphened coloned coloned_offset clock_shown offset_shown fitting date_of_ymd date_of_yo days_before_year days_of_years days_of_months_in
returns-clause-week c = record {
  separated = refl;
  date_is = inr (inr c.known_texts_of_dates.ensures.week_53);
  time_is = record {
    hour = 23;
    minute = 59;
    second = 60;
    nanos = 250000000;
    fraction = codes ".25";
    hour_in_day = omega arith;
    minute_in_hour = omega arith;
    second_in_minute = omega arith;
    names = refl;
    fraction_written = inr (record { places = 2; count = 25; some = (omega arith, omega arith); below = omega arith; worth = refl; written = refl });
    written = refl;
  };
  offset_is = inl (refl, refl);
  instant = (omega arith, omega arith);
}
