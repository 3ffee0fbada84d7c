use Rattle.std.proofs.Common.{◌≡◌, ℕ, pos, [], ◌∷◌, refl, sym, ap, arith}
use Rattle.std.specs.Fmt.{digits}
use Rattle.chrono_units.specs.declared.weekday.Weekday.TheVariants.{Sun, Tue}
use Rattle.chrono_units.specs.WeekdaySet.{DaySet, contains, set_of, weekday_after}
use Rattle.chrono_text.specs.Numbers.{natural_of, number_of, to_i64, to_i32, to_u32, to_u8}
use Rattle.chrono_clock.specs.Time.{land, distance}
use Rattle.chrono_clock.specs.Moment.{moment_distance}
use Rattle.chrono_calendar.specs.Days.{days_of_years, days_before_year, days_of_months_in, date_of_day, date_of_yo, date_of_ymd, days_after_zero, days_before_zero, ordinal_name_of, month_of_ordinal, day_of_ordinal}
use Rattle.chrono_calendar.specs.Weeks.{weekday_of, date_of_iso, days_with_weekday, date_of_nth_weekday}
use Rattle.chrono_calendar.specs.MonthMoves.{month_move}
use Rattle.chrono_calendar.specs.YearsBetween.{years_between}
use Rattle.chrono_calendar.proofs.Signed.{signed}
use Rattle.chrono_calendar.proofs.FirstOn.{date_of_day-on}
use Rattle.caltool_command.specs.Types.{to_months, to_weekday}
use Rattle.caltool_command.specs.Grammar.{arguments_of, numbers_of}
use Rattle.caltool_command.specs.Commands.{calendar_date, clock_time, date_and_time, weekdays, weekday_set, command_from, name_of, command_named, command_of}
use Rattle.caltool_form.specs.Named.{date_named, time_named, moment_named, duration_named, reach_named}
use Rattle.caltool_form.specs.Answers.{names_of, date_line, week_line, answer_to, answer_of}
use Rattle.caltool_form.proofs.law.known_answers.Goals as goal

pub returns-clause-ymd : goal.returns-clause-ymd
unfolding answer_of command_of arguments_of numbers_of number_of natural_of to_i64 command_named name_of command_from to_i32 to_u32 calendar_date date_named date_of_ymd days_before_year days_of_years days_of_months_in answer_to names_of ordinal_name_of days_after_zero days_before_zero month_of_ordinal day_of_ordinal digits
returns-clause-ymd c = refl

pub returns-clause-yo : goal.returns-clause-yo
unfolding answer_of command_of arguments_of numbers_of number_of natural_of to_i64 command_named name_of command_from to_i32 to_u32 calendar_date date_named date_of_ymd days_before_year days_of_years days_of_months_in answer_to date_of_yo names_of ordinal_name_of days_after_zero days_before_zero month_of_ordinal day_of_ordinal digits
returns-clause-yo c = refl

pub returns-clause-iwd : goal.returns-clause-iwd
unfolding answer_of command_of arguments_of numbers_of number_of natural_of to_i64 command_named name_of command_from to_i32 to_u32 calendar_date date_named date_of_ymd days_before_year days_of_years days_of_months_in answer_to date_of_iso to_weekday names_of ordinal_name_of days_after_zero days_before_zero month_of_ordinal day_of_ordinal digits
returns-clause-iwd c = refl

pub returns-clause-day : goal.returns-clause-day
unfolding answer_of command_of arguments_of numbers_of number_of natural_of to_i64 command_named name_of command_from to_i32 answer_to date_of_day days_of_months_in names_of ordinal_name_of days_after_zero days_before_zero month_of_ordinal day_of_ordinal digits
returns-clause-day c = refl

pub returns-clause-wom : goal.returns-clause-wom
unfolding answer_of command_of arguments_of numbers_of number_of natural_of to_i64 command_named name_of command_from to_i32 to_u32 calendar_date date_named date_of_ymd days_before_year days_of_years days_of_months_in to_weekday to_u8 answer_to days_with_weekday date_of_nth_weekday names_of ordinal_name_of days_after_zero days_before_zero month_of_ordinal day_of_ordinal digits
returns-clause-wom c = refl

pub returns-clause-days : goal.returns-clause-days
unfolding answer_of command_of arguments_of numbers_of number_of natural_of to_i64 command_named name_of command_from to_i32 to_u32 calendar_date date_named date_of_ymd days_before_year days_of_years days_of_months_in answer_to date_of_day names_of ordinal_name_of days_after_zero days_before_zero month_of_ordinal day_of_ordinal digits
returns-clause-days c = refl

pub returns-clause-months : goal.returns-clause-months
unfolding answer_of command_of arguments_of numbers_of number_of natural_of to_i64 command_named name_of command_from to_i32 to_u32 calendar_date date_named date_of_ymd days_before_year days_of_years days_of_months_in to_months answer_to month_move names_of ordinal_name_of days_after_zero days_before_zero month_of_ordinal day_of_ordinal digits
returns-clause-months c = refl

pub returns-clause-week : goal.returns-clause-week
unfolding answer_of command_of arguments_of numbers_of number_of natural_of to_i64 command_named name_of command_from to_i32 to_u32 calendar_date date_named date_of_ymd days_before_year days_of_years days_of_months_in to_weekday answer_to week_line date_of_day names_of ordinal_name_of days_after_zero days_before_zero month_of_ordinal day_of_ordinal digits
returns-clause-week c = refl

pub returns-clause-moved : goal.returns-clause-moved
unfolding answer_of command_of arguments_of numbers_of number_of natural_of to_i64 command_named name_of command_from to_i32 to_u32 calendar_date date_named date_of_ymd days_before_year days_of_years days_of_months_in clock_time date_and_time time_named moment_named duration_named reach_named land date_of_day answer_to names_of ordinal_name_of days_after_zero days_before_zero month_of_ordinal day_of_ordinal digits
returns-clause-moved c = refl

pub returns-clause-diff : goal.returns-clause-diff
unfolding answer_of command_of arguments_of numbers_of number_of natural_of to_i64 command_named name_of command_from to_i32 to_u32 calendar_date date_named date_of_ymd days_before_year days_of_years days_of_months_in clock_time date_and_time time_named moment_named moment_distance distance answer_to names_of ordinal_name_of days_after_zero days_before_zero month_of_ordinal day_of_ordinal digits
returns-clause-diff c = refl

pub returns-clause-since : goal.returns-clause-since
unfolding answer_of command_of arguments_of numbers_of number_of natural_of to_i64 command_named name_of command_from to_i32 to_u32 calendar_date date_named date_of_ymd days_before_year days_of_years days_of_months_in years_between answer_to names_of ordinal_name_of days_after_zero days_before_zero month_of_ordinal day_of_ordinal digits
returns-clause-since c = refl

pub returns-clause-set : goal.returns-clause-set
unfolding answer_of command_of arguments_of numbers_of number_of natural_of to_i64 command_named name_of command_from to_weekday weekdays weekday_set answer_to
returns-clause-set c = refl

-- from 6 January, a Saturday, the walk over all dates that are left ends a day on
pub returns-clause-on : goal.returns-clause-on
unfolding answer_of command_of arguments_of numbers_of number_of natural_of to_i64 command_named name_of command_from to_i32 to_u32 calendar_date date_named date_of_ymd days_before_year days_of_years days_of_months_in to_weekday weekdays weekday_set date_of_day answer_to names_of ordinal_name_of days_after_zero days_before_zero month_of_ordinal day_of_ordinal digits
returns-clause-on c =
    let days : DaySet = set_of (Tue ∷ Sun ∷ []) in
    let on = λ (j : ℕ). contains days (weekday_after (weekday_of (pos 6)) j) in
    ap date_line (sym (date_of_day-on (pos 6) days 1 (omega (arith, signed), omega (arith, signed)) refl (λ j below. let none : j ≡ 0 = omega (arith, below) in ap on none)))

pub returns-clause-every : goal.returns-clause-every
unfolding answer_of command_of arguments_of numbers_of number_of natural_of to_i64 command_named name_of command_from to_i32 to_u32 calendar_date date_named date_of_ymd days_before_year days_of_years days_of_months_in month_move answer_to names_of ordinal_name_of days_after_zero days_before_zero month_of_ordinal day_of_ordinal digits
returns-clause-every c = refl

pub returns-clause-none : goal.returns-clause-none
unfolding answer_of command_of arguments_of numbers_of number_of natural_of to_i64 command_named name_of command_from to_i32 to_u32 calendar_date date_named date_of_ymd days_before_year days_of_years days_of_months_in answer_to
returns-clause-none c = refl

pub returns-clause-error : goal.returns-clause-error
unfolding answer_of command_of arguments_of numbers_of number_of natural_of to_i64 command_named name_of command_from to_i32
returns-clause-error c = refl

pub returns-clause-too_long : goal.returns-clause-too_long
unfolding answer_of command_of
returns-clause-too_long c = refl
