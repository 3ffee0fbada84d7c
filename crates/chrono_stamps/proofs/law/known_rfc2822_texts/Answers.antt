use Rattle.std.proofs.Common.{[], ◌∷◌, ◌++◌, codes, inl, inr, refl, arith}
use Rattle.chrono_datetime.specs.Days.{date_of_ymd, days_before_year, days_of_months_in, days_of_years}
use Rattle.chrono_datetime.specs.Names.{month_of_letters, weekday_of_letters}
use Rattle.chrono_datetime.specs.declared.Month.TheVariants.{February, July, November}
use Rattle.chrono_text.specs.Numbers.{count_of, digits_of, natural_of}
use Rattle.chrono_stamps.specs.MailWords.{gap_end}
use Rattle.chrono_stamps.specs.Rfc2822.{hours_behind}
use Rattle.chrono_stamps.proofs.law.known_rfc2822_texts.Goals as goal

pub returns-clause-weekday : goal.returns-clause-weekday
unfolding gap_end date_of_ymd days_before_year days_of_years days_of_months_in digits_of natural_of count_of month_of_letters weekday_of_letters hours_behind
returns-clause-weekday c = record {
  weekday = codes "Fri";
  day = codes "21";
  month = codes "Nov";
  year = codes "1997";
  hour = codes "09";
  minute = codes "55";
  second = codes "06";
  zone = codes "-0600";
  end = [];
  words = record {
    after_weekday = codes " 21 Nov 1997 09:55:06 -0600";
    after_day = codes " Nov 1997 09:55:06 -0600";
    after_month = codes " 1997 09:55:06 -0600";
    after_year = codes " 09:55:06 -0600";
    after_hour = codes ":55:06 -0600";
    after_minute = codes ":06 -0600";
    after_second = codes " -0600";
    weekday_is = inl (record { after = codes ", 21 Nov 1997 09:55:06 -0600"; word_is = record { some = omega arith; front = refl; behind = refl }; comma = refl });
    day_is = record { some = omega arith; front = refl; behind = refl };
    month_is = record { apart = omega arith; word_is = record { some = omega arith; front = refl; behind = refl } };
    year_is = record { apart = omega arith; word_is = record { some = omega arith; front = refl; behind = refl } };
    hour_is = record { apart = omega arith; word_is = record { some = omega arith; front = refl; behind = refl } };
    minute_is = record { after = codes "55:06 -0600"; colon = refl; word_is = record { some = omega arith; front = refl; behind = refl } };
    second_is = inl (record { after = codes "06 -0600"; colon = refl; word_is = record { some = omega arith; front = refl; behind = refl } });
    zone_is = record { apart = omega arith; word_is = record { some = omega arith; front = refl; behind = refl } };
  };
  ends = (refl, refl);
  weekday_is = inr refl;
  date_is = record {
    day_number = 21;
    month_number = November;
    year_number = 1997;
    day_is = refl;
    month_is = refl;
    year_is = record { number = 1997; read = refl; long = omega arith; meant = refl; in_calendar = (omega arith, omega arith) };
    names = refl;
  };
  time_is = record {
    hour_in_two = refl;
    minute_in_two = refl;
    second_in_two = inl refl;
    clock = record {
      hour = 9;
      minute = 55;
      second = 6;
      nanos = 0;
      fraction = [];
      hour_in_day = omega arith;
      minute_in_hour = omega arith;
      second_in_minute = omega arith;
      names = refl;
      fraction_written = inl (refl, refl);
      written = refl;
    };
  };
  zone_is = inl (record { long = refl; six_bytes = inr (record { in_range = omega arith; written = refl; minutes_end_it = refl }) });
  instant = (omega arith, omega arith);
}

pub returns-clause-one_digit : goal.returns-clause-one_digit
unfolding gap_end date_of_ymd days_before_year days_of_years days_of_months_in digits_of natural_of count_of month_of_letters weekday_of_letters hours_behind
returns-clause-one_digit c = record {
  weekday = codes "Tue";
  day = codes "1";
  month = codes "Jul";
  year = codes "2003";
  hour = codes "10";
  minute = codes "52";
  second = codes "37";
  zone = codes "+0200";
  end = [];
  words = record {
    after_weekday = codes " 1 Jul 2003 10:52:37 +0200";
    after_day = codes " Jul 2003 10:52:37 +0200";
    after_month = codes " 2003 10:52:37 +0200";
    after_year = codes " 10:52:37 +0200";
    after_hour = codes ":52:37 +0200";
    after_minute = codes ":37 +0200";
    after_second = codes " +0200";
    weekday_is = inl (record { after = codes ", 1 Jul 2003 10:52:37 +0200"; word_is = record { some = omega arith; front = refl; behind = refl }; comma = refl });
    day_is = record { some = omega arith; front = refl; behind = refl };
    month_is = record { apart = omega arith; word_is = record { some = omega arith; front = refl; behind = refl } };
    year_is = record { apart = omega arith; word_is = record { some = omega arith; front = refl; behind = refl } };
    hour_is = record { apart = omega arith; word_is = record { some = omega arith; front = refl; behind = refl } };
    minute_is = record { after = codes "52:37 +0200"; colon = refl; word_is = record { some = omega arith; front = refl; behind = refl } };
    second_is = inl (record { after = codes "37 +0200"; colon = refl; word_is = record { some = omega arith; front = refl; behind = refl } });
    zone_is = record { apart = omega arith; word_is = record { some = omega arith; front = refl; behind = refl } };
  };
  ends = (refl, refl);
  weekday_is = inr refl;
  date_is = record {
    day_number = 1;
    month_number = July;
    year_number = 2003;
    day_is = refl;
    month_is = refl;
    year_is = record { number = 2003; read = refl; long = omega arith; meant = refl; in_calendar = (omega arith, omega arith) };
    names = refl;
  };
  time_is = record {
    hour_in_two = refl;
    minute_in_two = refl;
    second_in_two = inl refl;
    clock = record {
      hour = 10;
      minute = 52;
      second = 37;
      nanos = 0;
      fraction = [];
      hour_in_day = omega arith;
      minute_in_hour = omega arith;
      second_in_minute = omega arith;
      names = refl;
      fraction_written = inl (refl, refl);
      written = refl;
    };
  };
  zone_is = inl (record { long = refl; six_bytes = inr (record { in_range = omega arith; written = refl; minutes_end_it = refl }) });
  instant = (omega arith, omega arith);
}

pub returns-clause-folded : goal.returns-clause-folded
unfolding gap_end date_of_ymd days_before_year days_of_years days_of_months_in digits_of natural_of count_of month_of_letters weekday_of_letters hours_behind
returns-clause-folded c = record {
  weekday = codes "Thu";
  day = codes "13";
  month = codes "Feb";
  year = codes "1969";
  hour = codes "23";
  minute = codes "32";
  second = [];
  zone = codes "-0330";
  end = codes " (Newfoundland Time)";
  words = record {
    after_weekday = 13 ∷ 10 ∷ codes "      13" ++ (13 ∷ 10 ∷ codes "        Feb" ++ (13 ∷ 10 ∷ codes "          1969" ++ (13 ∷ 10 ∷ codes "      23:32" ++ (13 ∷ 10 ∷ codes "               -0330 (Newfoundland Time)"))));
    after_day = 13 ∷ 10 ∷ codes "        Feb" ++ (13 ∷ 10 ∷ codes "          1969" ++ (13 ∷ 10 ∷ codes "      23:32" ++ (13 ∷ 10 ∷ codes "               -0330 (Newfoundland Time)")));
    after_month = 13 ∷ 10 ∷ codes "          1969" ++ (13 ∷ 10 ∷ codes "      23:32" ++ (13 ∷ 10 ∷ codes "               -0330 (Newfoundland Time)"));
    after_year = 13 ∷ 10 ∷ codes "      23:32" ++ (13 ∷ 10 ∷ codes "               -0330 (Newfoundland Time)");
    after_hour = codes ":32" ++ (13 ∷ 10 ∷ codes "               -0330 (Newfoundland Time)");
    after_minute = 13 ∷ 10 ∷ codes "               -0330 (Newfoundland Time)";
    after_second = 13 ∷ 10 ∷ codes "               -0330 (Newfoundland Time)";
    weekday_is = inl (record { after = codes "," ++ (13 ∷ 10 ∷ codes "      13" ++ (13 ∷ 10 ∷ codes "        Feb" ++ (13 ∷ 10 ∷ codes "          1969" ++ (13 ∷ 10 ∷ codes "      23:32" ++ (13 ∷ 10 ∷ codes "               -0330 (Newfoundland Time)"))))); word_is = record { some = omega arith; front = refl; behind = refl }; comma = refl });
    day_is = record { some = omega arith; front = refl; behind = refl };
    month_is = record { apart = omega arith; word_is = record { some = omega arith; front = refl; behind = refl } };
    year_is = record { apart = omega arith; word_is = record { some = omega arith; front = refl; behind = refl } };
    hour_is = record { apart = omega arith; word_is = record { some = omega arith; front = refl; behind = refl } };
    minute_is = record { after = codes "32" ++ (13 ∷ 10 ∷ codes "               -0330 (Newfoundland Time)"); colon = refl; word_is = record { some = omega arith; front = refl; behind = refl } };
    second_is = inr (refl, refl);
    zone_is = record { apart = omega arith; word_is = record { some = omega arith; front = refl; behind = refl } };
  };
  ends = (refl, refl);
  weekday_is = inr refl;
  date_is = record {
    day_number = 13;
    month_number = February;
    year_number = 1969;
    day_is = refl;
    month_is = refl;
    year_is = record { number = 1969; read = refl; long = omega arith; meant = refl; in_calendar = (omega arith, omega arith) };
    names = refl;
  };
  time_is = record {
    hour_in_two = refl;
    minute_in_two = refl;
    second_in_two = inr refl;
    clock = record {
      hour = 23;
      minute = 32;
      second = 0;
      nanos = 0;
      fraction = [];
      hour_in_day = omega arith;
      minute_in_hour = omega arith;
      second_in_minute = omega arith;
      names = refl;
      fraction_written = inl (refl, refl);
      written = refl;
    };
  };
  zone_is = inl (record { long = refl; six_bytes = inr (record { in_range = omega arith; written = refl; minutes_end_it = refl }) });
  instant = (omega arith, omega arith);
}

pub returns-clause-obsolete : goal.returns-clause-obsolete
unfolding gap_end date_of_ymd days_before_year days_of_years days_of_months_in digits_of natural_of count_of month_of_letters weekday_of_letters hours_behind
returns-clause-obsolete c = record {
  weekday = [];
  day = codes "21";
  month = codes "Nov";
  year = codes "97";
  hour = codes "09";
  minute = codes "55";
  second = codes "06";
  zone = codes "GMT";
  end = [];
  words = record {
    after_weekday = codes "21 Nov 97 09:55:06 GMT";
    after_day = codes " Nov 97 09:55:06 GMT";
    after_month = codes " 97 09:55:06 GMT";
    after_year = codes " 09:55:06 GMT";
    after_hour = codes ":55:06 GMT";
    after_minute = codes ":06 GMT";
    after_second = codes " GMT";
    weekday_is = inr (refl, refl);
    day_is = record { some = omega arith; front = refl; behind = refl };
    month_is = record { apart = omega arith; word_is = record { some = omega arith; front = refl; behind = refl } };
    year_is = record { apart = omega arith; word_is = record { some = omega arith; front = refl; behind = refl } };
    hour_is = record { apart = omega arith; word_is = record { some = omega arith; front = refl; behind = refl } };
    minute_is = record { after = codes "55:06 GMT"; colon = refl; word_is = record { some = omega arith; front = refl; behind = refl } };
    second_is = inl (record { after = codes "06 GMT"; colon = refl; word_is = record { some = omega arith; front = refl; behind = refl } });
    zone_is = record { apart = omega arith; word_is = record { some = omega arith; front = refl; behind = refl } };
  };
  ends = (refl, refl);
  weekday_is = inl refl;
  date_is = record {
    day_number = 21;
    month_number = November;
    year_number = 1997;
    day_is = refl;
    month_is = refl;
    year_is = record { number = 97; read = refl; long = omega arith; meant = refl; in_calendar = (omega arith, omega arith) };
    names = refl;
  };
  time_is = record {
    hour_in_two = refl;
    minute_in_two = refl;
    second_in_two = inl refl;
    clock = record {
      hour = 9;
      minute = 55;
      second = 6;
      nanos = 0;
      fraction = [];
      hour_in_day = omega arith;
      minute_in_hour = omega arith;
      second_in_minute = omega arith;
      names = refl;
      fraction_written = inl (refl, refl);
      written = refl;
    };
  };
  zone_is = inr (record { hours = 0; short = omega arith; behind = refl; names = refl });
  instant = (omega arith, omega arith);
}

pub returns-clause-comment : goal.returns-clause-comment
unfolding gap_end date_of_ymd days_before_year days_of_years days_of_months_in digits_of natural_of count_of month_of_letters weekday_of_letters hours_behind
returns-clause-comment c = record {
  weekday = codes "Fri";
  day = codes "21";
  month = codes "Nov";
  year = codes "1997";
  hour = codes "09";
  minute = codes "55";
  second = codes "06";
  zone = codes "-0600";
  end = [];
  words = record {
    after_weekday = codes " 21 Nov 1997 09(comment):   55  :  06 -0600";
    after_day = codes " Nov 1997 09(comment):   55  :  06 -0600";
    after_month = codes " 1997 09(comment):   55  :  06 -0600";
    after_year = codes " 09(comment):   55  :  06 -0600";
    after_hour = codes "(comment):   55  :  06 -0600";
    after_minute = codes "  :  06 -0600";
    after_second = codes " -0600";
    weekday_is = inl (record { after = codes ", 21 Nov 1997 09(comment):   55  :  06 -0600"; word_is = record { some = omega arith; front = refl; behind = refl }; comma = refl });
    day_is = record { some = omega arith; front = refl; behind = refl };
    month_is = record { apart = omega arith; word_is = record { some = omega arith; front = refl; behind = refl } };
    year_is = record { apart = omega arith; word_is = record { some = omega arith; front = refl; behind = refl } };
    hour_is = record { apart = omega arith; word_is = record { some = omega arith; front = refl; behind = refl } };
    minute_is = record { after = codes "   55  :  06 -0600"; colon = refl; word_is = record { some = omega arith; front = refl; behind = refl } };
    second_is = inl (record { after = codes "  06 -0600"; colon = refl; word_is = record { some = omega arith; front = refl; behind = refl } });
    zone_is = record { apart = omega arith; word_is = record { some = omega arith; front = refl; behind = refl } };
  };
  ends = (refl, refl);
  weekday_is = inr refl;
  date_is = record {
    day_number = 21;
    month_number = November;
    year_number = 1997;
    day_is = refl;
    month_is = refl;
    year_is = record { number = 1997; read = refl; long = omega arith; meant = refl; in_calendar = (omega arith, omega arith) };
    names = refl;
  };
  time_is = record {
    hour_in_two = refl;
    minute_in_two = refl;
    second_in_two = inl refl;
    clock = record {
      hour = 9;
      minute = 55;
      second = 6;
      nanos = 0;
      fraction = [];
      hour_in_day = omega arith;
      minute_in_hour = omega arith;
      second_in_minute = omega arith;
      names = refl;
      fraction_written = inl (refl, refl);
      written = refl;
    };
  };
  zone_is = inl (record { long = refl; six_bytes = inr (record { in_range = omega arith; written = refl; minutes_end_it = refl }) });
  instant = (omega arith, omega arith);
}
