use Rattle.std.proofs.Common.{refl}
use Rattle.chrono_datetime.specs.Days.{year_of, ordinal_of}
use Rattle.chrono_reading.proofs.law.ordinal_names_are_read.Goals as goal

pub returns : goal.returns
returns c = λ n is. record {
  year = year_of n;
  ordinal = ordinal_of n;
  names = (c.dates_have_one_ordinal_name.ensures n (year_of n) (ordinal_of n) is).1 (refl, refl);
  written = refl;
}
