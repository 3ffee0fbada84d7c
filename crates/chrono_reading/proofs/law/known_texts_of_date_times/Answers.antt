use Rattle.std.proofs.Common.{codes, inl, inr, refl}
use Rattle.chrono_reading.proofs.DateTimeLemmas.{small_t}
use Rattle.chrono_reading.proofs.law.known_texts_of_date_times.Goals as goal

pub returns-clause-with_t : goal.returns-clause-with_t
returns-clause-with_t c = record {
  date = codes "2024-02-29";
  separator = 84;
  time = codes "23:59:60";
  date_written = c.known_texts_of_dates.ensures.leap_day;
  between = inl refl;
  time_written = c.known_texts_of_times.ensures.leap;
  written = refl;
}

pub returns-clause-with_space : goal.returns-clause-with_space
returns-clause-with_space c = record {
  date = codes "2024-02-29";
  separator = 32;
  time = codes "23:59:60.5";
  date_written = c.known_texts_of_dates.ensures.leap_day;
  between = inr refl;
  time_written = c.known_texts_of_times.ensures.half_leap;
  written = refl;
}

pub returns-clause-small_t : goal.returns-clause-small_t
returns-clause-small_t c = small_t
