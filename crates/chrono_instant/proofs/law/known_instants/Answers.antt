use Rattle.std.proofs.Common.{refl}
use Rattle.chrono_datetime.specs.Days.{days_of_years, days_before_year, days_of_months_in, date_of_ymd}
use Rattle.chrono_instant.proofs.law.known_instants.Goals as goal

pub returns : goal.returns
unfolding date_of_ymd days_before_year days_of_years days_of_months_in
returns c = record { epoch = refl; first = refl; last = refl }
