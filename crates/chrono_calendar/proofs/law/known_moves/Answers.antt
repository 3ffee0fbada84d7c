use Rattle.std.proofs.Common.{refl}
use Rattle.chrono_calendar.specs.Days.{days_of_years, days_before_year, days_of_months_in, date_of_ymd, ordinal_name_of, days_after_zero, days_before_zero, month_of_ordinal, day_of_ordinal}
use Rattle.chrono_calendar.specs.Weeks.{days_with_weekday, date_of_nth_weekday}
use Rattle.chrono_calendar.specs.MonthMoves.{month_move}
use Rattle.chrono_calendar.specs.YearsBetween.{years_between}
use Rattle.chrono_calendar.proofs.law.known_moves.Goals as goal

pub returns-clause-to_february : goal.returns-clause-to_february
unfolding month_move days_before_year days_of_years days_of_months_in ordinal_name_of days_after_zero days_before_zero month_of_ordinal day_of_ordinal
returns-clause-to_february c = refl

pub returns-clause-to_leap_day : goal.returns-clause-to_leap_day
unfolding month_move days_before_year days_of_years days_of_months_in ordinal_name_of days_after_zero days_before_zero month_of_ordinal day_of_ordinal
returns-clause-to_leap_day c = refl

pub returns-clause-back : goal.returns-clause-back
unfolding month_move days_before_year days_of_years days_of_months_in ordinal_name_of days_after_zero days_before_zero month_of_ordinal day_of_ordinal
returns-clause-back c = refl

pub returns-clause-to_december : goal.returns-clause-to_december
unfolding month_move days_before_year days_of_years days_of_months_in ordinal_name_of days_after_zero days_before_zero month_of_ordinal day_of_ordinal
returns-clause-to_december c = refl

pub returns-clause-twelve : goal.returns-clause-twelve
unfolding month_move days_before_year days_of_years days_of_months_in ordinal_name_of days_after_zero days_before_zero month_of_ordinal day_of_ordinal
returns-clause-twelve c = refl

pub returns-clause-last_month : goal.returns-clause-last_month
unfolding month_move date_of_ymd ordinal_name_of days_after_zero month_of_ordinal day_of_ordinal days_of_months_in
returns-clause-last_month c = refl

pub returns-clause-no_month : goal.returns-clause-no_month
unfolding month_move ordinal_name_of days_after_zero month_of_ordinal day_of_ordinal days_of_months_in
returns-clause-no_month c = refl

pub returns-clause-no_whole_year : goal.returns-clause-no_whole_year
unfolding years_between ordinal_name_of days_after_zero month_of_ordinal day_of_ordinal days_of_months_in
returns-clause-no_whole_year c = refl

pub returns-clause-one_year : goal.returns-clause-one_year
unfolding years_between ordinal_name_of days_after_zero month_of_ordinal day_of_ordinal days_of_months_in
returns-clause-one_year c = refl

pub returns-clause-before : goal.returns-clause-before
unfolding years_between ordinal_name_of days_after_zero month_of_ordinal day_of_ordinal days_of_months_in
returns-clause-before c = refl

pub returns-clause-third_friday : goal.returns-clause-third_friday
unfolding date_of_nth_weekday days_with_weekday days_before_year days_of_years days_of_months_in
returns-clause-third_friday c = refl

pub returns-clause-no_fifth_friday : goal.returns-clause-no_fifth_friday
unfolding date_of_nth_weekday days_with_weekday days_before_year days_of_years days_of_months_in
returns-clause-no_fifth_friday c = refl

pub returns-clause-last_friday : goal.returns-clause-last_friday
unfolding date_of_nth_weekday days_with_weekday days_before_year days_of_years days_of_months_in
returns-clause-last_friday c = refl

pub returns-clause-last_monday : goal.returns-clause-last_monday
unfolding date_of_nth_weekday days_with_weekday days_before_year days_of_years days_of_months_in
returns-clause-last_monday c = refl
