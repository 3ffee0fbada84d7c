use Rattle.dates_answer.proofs.Ground.{refl, date_of_day, days_of_years, days_before_year, days_of_months_in, ordinal_name_of, days_after_zero, days_before_zero, month_of_ordinal, day_of_ordinal}
use Rattle.chrono_business.specs.OpenDays.{is_open}
use Rattle.std.specs.Fmt.{digits}
use Rattle.dates_answer.specs.Sheets.{sheet_day}
use Rattle.dates_answer.proofs.law.known_sheets.Goals as goal

pub returns : goal.returns
unfolding sheet_day is_open digits date_of_day days_of_years days_before_year days_of_months_in ordinal_name_of days_after_zero days_before_zero month_of_ordinal day_of_ordinal
returns c = record { first = refl; before_first = refl; second_column = refl; last = refl; behind_last = refl; week_from_sunday = refl; cells = refl; row = refl }
