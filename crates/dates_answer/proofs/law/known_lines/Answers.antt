use Rattle.dates_answer.proofs.Ground.{refl, days_of_years, days_before_year, days_of_months_in, ordinal_name_of, days_after_zero, days_before_zero, month_of_ordinal, day_of_ordinal}
use Rattle.std.specs.Fmt.{digits}
use Rattle.dates_answer.specs.Lines.{reply_object, reply_text, day_object, key_text, months_days_text, names_object, numbers_in_object, parts_text}
use Rattle.dates_answer.specs.DayNames.{names_text}
use Rattle.dates_answer.proofs.law.known_lines.Goals as goal

pub returns : goal.returns
unfolding names_text reply_object reply_text day_object key_text months_days_text names_object numbers_in_object parts_text digits days_before_year days_of_years days_of_months_in ordinal_name_of days_after_zero days_before_zero month_of_ordinal day_of_ordinal
returns c = record { day = refl; week = refl; parts = refl; months = refl; no_days = refl; whether = refl; date = refl; number = refl; names = refl; none = refl; stamp = refl; day_of_sheet = refl }
