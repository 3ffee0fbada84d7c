use Rattle.std.proofs.Common.{refl}
use Rattle.chrono_datetime.specs.Days.{year_of, month_of, day_of}
use Rattle.chrono_reading.proofs.law.printed_dates_are_read.Goals as goal

pub returns : goal.returns
returns c = λ n is. record {
  year = year_of n;
  month = month_of n;
  day = day_of n;
  names = (c.dates_have_one_calendar_name.ensures n (year_of n) (month_of n) (day_of n) is).1 (refl, refl, refl);
  written = refl;
}
