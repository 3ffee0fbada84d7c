use Rattle.std.proofs.Common.{[], codes, inl, inr, refl, arith}
use Rattle.chrono_text.specs.Numbers.{count_of, natural_of}
use Rattle.zone_text.specs.ChangeTexts.{written_day}
use Rattle.zone_text.specs.HourTexts.{seconds_of_hours, seconds_of_minutes, signed_seconds}
use Rattle.zone_text.proofs.law.known_texts.Goals as goal

pub returns-clause-honolulu : goal.returns-clause-honolulu
unfolding signed_seconds seconds_of_hours seconds_of_minutes written_day count_of natural_of
returns-clause-honolulu c = record {
  after_name = codes "10";
  rest = [];
  name_is = record { long = omega arith; form = inl (record { front = refl; behind = refl }) };
  ahead_is = record { is = refl; in_range = omega arith };
  behind = refl;
  daylight_is = (refl, refl);
}

pub returns-clause-jerusalem : goal.returns-clause-jerusalem
unfolding signed_seconds seconds_of_hours seconds_of_minutes written_day count_of natural_of
returns-clause-jerusalem c = record {
  after_name = codes "-2IDT,M3.4.4/26,M10.5.0";
  rest = codes "IDT,M3.4.4/26,M10.5.0";
  name_is = record { long = omega arith; form = inl (record { front = refl; behind = refl }) };
  ahead_is = record { is = refl; in_range = omega arith };
  behind = refl;
  daylight_is = record {
    after_name = codes ",M3.4.4/26,M10.5.0";
    name_is = record { long = omega arith; form = inl (record { front = refl; behind = refl }) };
    times_are = record {
      changes = codes "M3.4.4/26,M10.5.0";
      ahead_is = record { is = refl; in_range = omega arith };
      comma = refl;
      changes_are = record {
        two = refl;
        begins_is = record { day_is = refl; second_is = refl; in_range = record { day = ((omega arith, omega arith), (omega arith, omega arith)); second = omega arith } };
        ends_is = record { day_is = refl; second_is = refl; in_range = record { day = ((omega arith, omega arith), (omega arith, omega arith)); second = omega arith } };
      };
    };
  };
}

pub returns-clause-all_year : goal.returns-clause-all_year
unfolding signed_seconds seconds_of_hours seconds_of_minutes written_day count_of natural_of
returns-clause-all_year c = record {
  after_name = codes "3EDT4,0/0,J365/23";
  rest = codes "EDT4,0/0,J365/23";
  name_is = record { long = omega arith; form = inl (record { front = refl; behind = refl }) };
  ahead_is = record { is = refl; in_range = omega arith };
  behind = refl;
  daylight_is = record {
    after_name = codes "4,0/0,J365/23";
    name_is = record { long = omega arith; form = inl (record { front = refl; behind = refl }) };
    times_are = record {
      changes = codes "0/0,J365/23";
      ahead_is = record { is = refl; in_range = omega arith };
      comma = refl;
      changes_are = record {
        two = refl;
        begins_is = record { day_is = refl; second_is = refl; in_range = record { day = omega arith; second = omega arith } };
        ends_is = record { day_is = refl; second_is = refl; in_range = record { day = (omega arith, omega arith); second = omega arith } };
      };
    };
  };
}

pub returns-clause-nuuk : goal.returns-clause-nuuk
unfolding signed_seconds seconds_of_hours seconds_of_minutes written_day count_of natural_of
returns-clause-nuuk c = record {
  after_name = codes "3<-02>,M3.5.0/-2,M10.5.0/-1";
  rest = codes "<-02>,M3.5.0/-2,M10.5.0/-1";
  name_is = record { long = omega arith; form = inr (record { inner = codes "-03>3<-02>,M3.5.0/-2,M10.5.0/-1"; opens = refl; front = refl; closes = refl }) };
  ahead_is = record { is = refl; in_range = omega arith };
  behind = refl;
  daylight_is = record {
    after_name = codes ",M3.5.0/-2,M10.5.0/-1";
    name_is = record { long = omega arith; form = inr (record { inner = codes "-02>,M3.5.0/-2,M10.5.0/-1"; opens = refl; front = refl; closes = refl }) };
    times_are = record {
      changes = codes "M3.5.0/-2,M10.5.0/-1";
      ahead_is = record { is = refl; in_range = omega arith };
      comma = refl;
      changes_are = record {
        two = refl;
        begins_is = record { day_is = refl; second_is = refl; in_range = record { day = ((omega arith, omega arith), (omega arith, omega arith)); second = omega arith } };
        ends_is = record { day_is = refl; second_is = refl; in_range = record { day = ((omega arith, omega arith), (omega arith, omega arith)); second = omega arith } };
      };
    };
  };
}

pub returns-clause-dublin : goal.returns-clause-dublin
unfolding signed_seconds seconds_of_hours seconds_of_minutes written_day count_of natural_of
returns-clause-dublin c = record {
  after_name = codes "-1GMT0,M10.5.0,M3.5.0/1";
  rest = codes "GMT0,M10.5.0,M3.5.0/1";
  name_is = record { long = omega arith; form = inl (record { front = refl; behind = refl }) };
  ahead_is = record { is = refl; in_range = omega arith };
  behind = refl;
  daylight_is = record {
    after_name = codes "0,M10.5.0,M3.5.0/1";
    name_is = record { long = omega arith; form = inl (record { front = refl; behind = refl }) };
    times_are = record {
      changes = codes "M10.5.0,M3.5.0/1";
      ahead_is = record { is = refl; in_range = omega arith };
      comma = refl;
      changes_are = record {
        two = refl;
        begins_is = record { day_is = refl; second_is = refl; in_range = record { day = ((omega arith, omega arith), (omega arith, omega arith)); second = omega arith } };
        ends_is = record { day_is = refl; second_is = refl; in_range = record { day = ((omega arith, omega arith), (omega arith, omega arith)); second = omega arith } };
      };
    };
  };
}
