use Rattle.std.proofs.Common.{◌≡◌, ℕ, Bool, true, false, [], ◌∷◌, ◌-◌, ◌/◌, ◌&&◌, ◌||◌, refl, sym, ap, ap₂, ◌∙◌, ℤ, pos, Some}
use Rattle.chrono_datetime.specs.Years.{month_length}
use Rattle.chrono_datetime.specs.Days.{date_of_ymd, day_of, days_before_year, days_of_months_in, days_of_years, month_of}
use Rattle.chrono_datetime.specs.MonthMoves.{month_length_of}
use Rattle.chrono_datetime.specs.Moment.{Moment}
use Rattle.chrono_datetime.specs.Weekday.{days_from_sunday}
use Rattle.chrono_datetime.specs.Weeks.{weekday_of}
use Rattle.chrono_datetime.proofs.NamedDates.{date_of_ymd-name}
use Rattle.chrono_sets.specs.FiniteSets.{has}
use Rattle.chrono_cron.specs.declared.field_sets.FieldSets.{FieldSets}
use Rattle.chrono_cron.specs.Due.{begins_minute, either_or_both, is_day, is_due, is_friday_for, is_last_workday, is_listed_day, is_minute, is_monday_for, is_named_by_place, is_named_by_weekday, is_nearest_workday}
use Rattle.chrono_cron.specs.KnownSchedules.{every_day, every_month, every_weekday, fields, fields_with, known_moment, last_days_on, odd_days}
use Rattle.chrono_cron.proofs.law.known_schedules.Goals as goal

-- whether a day is one of a schedule's, by its place, how many days follow, its month and its weekday
abbrev day_by_parts : FieldSets → ℕ → ℕ → ℕ → ℕ → Bool
day_by_parts s month p follow w =
    has s.months month && either_or_both s.either (has s.days p || is_named_by_place s.month_days p follow w) (has s.weekdays w || is_named_by_weekday s.month_days p follow w)

same_parts : (s : FieldSets) (m month p q length k w : ℕ) → m ≡ month → p ≡ q → length ≡ k → day_by_parts s m p (length - p) w ≡ day_by_parts s month q (k - q) w
same_parts s m month p q length k w months places lengths = rw (months, places, lengths) refl

day_by_date : (s : FieldSets) (n y : ℤ) (month d : ℕ) → date_of_ymd y month d ≡ Some n → is_day s n ≡ day_by_parts s month d (month_length y month - d) (days_from_sunday (weekday_of n))
unfolding is_day is_listed_day has
day_by_date s n y month d e =
    let name = date_of_ymd-name n y month d e in
    same_parts s (month_of n) month (day_of n) d (month_length_of n) (month_length y month) (days_from_sunday (weekday_of n)) (sym name.1) (sym name.2) (ap₂ month_length (sym name.0) (sym name.1))

-- whether a schedule is due, by the date
due_by_date : (s : FieldSets) (m : Moment) (y : ℤ) (month d : ℕ) → date_of_ymd y month d ≡ Some m.date → is_due s m ≡ (day_by_parts s month d (month_length y month - d) (days_from_sunday (weekday_of m.date)) && (is_minute s (m.time.second / 60) && begins_minute m))
unfolding is_due
due_by_date s m y month d e = ap (λ day. day && (is_minute s (m.time.second / 60) && begins_minute m)) (day_by_date s m.date y month d e)

pub returns-clause-leap_day : goal.returns-clause-leap_day
unfolding date_of_ymd days_before_year days_of_years days_of_months_in has is_minute is_named_by_place is_named_by_weekday is_last_workday is_nearest_workday is_friday_for is_monday_for
returns-clause-leap_day c = due_by_date (fields (0 ∷ []) (0 ∷ []) (29 ∷ []) (2 ∷ []) every_weekday false) (known_moment (pos 738_945) 0 0 0 0) (pos 2024) 2 29 refl ∙ refl

pub returns-clause-day_before : goal.returns-clause-day_before
unfolding date_of_ymd days_before_year days_of_years days_of_months_in has is_minute is_named_by_place is_named_by_weekday is_last_workday is_nearest_workday is_friday_for is_monday_for
returns-clause-day_before c = due_by_date (fields (0 ∷ []) (0 ∷ []) (29 ∷ []) (2 ∷ []) every_weekday false) (known_moment (pos 738_944) 0 0 0 0) (pos 2024) 2 28 refl ∙ refl

pub returns-clause-month_after : goal.returns-clause-month_after
unfolding date_of_ymd days_before_year days_of_years days_of_months_in has is_minute is_named_by_place is_named_by_weekday is_last_workday is_nearest_workday is_friday_for is_monday_for
returns-clause-month_after c = due_by_date (fields (0 ∷ []) (0 ∷ []) (29 ∷ []) (2 ∷ []) every_weekday false) (known_moment (pos 738_974) 0 0 0 0) (pos 2024) 3 29 refl ∙ refl

pub returns-clause-minute_after : goal.returns-clause-minute_after
unfolding date_of_ymd days_before_year days_of_years days_of_months_in has is_minute is_named_by_place is_named_by_weekday is_last_workday is_nearest_workday is_friday_for is_monday_for
returns-clause-minute_after c = due_by_date (fields (0 ∷ []) (0 ∷ []) (29 ∷ []) (2 ∷ []) every_weekday false) (known_moment (pos 738_945) 0 1 0 0) (pos 2024) 2 29 refl ∙ refl

pub returns-clause-hour_after : goal.returns-clause-hour_after
unfolding date_of_ymd days_before_year days_of_years days_of_months_in has is_minute is_named_by_place is_named_by_weekday is_last_workday is_nearest_workday is_friday_for is_monday_for
returns-clause-hour_after c = due_by_date (fields (0 ∷ []) (0 ∷ []) (29 ∷ []) (2 ∷ []) every_weekday false) (known_moment (pos 738_945) 1 0 0 0) (pos 2024) 2 29 refl ∙ refl

pub returns-clause-within_the_minute : goal.returns-clause-within_the_minute
unfolding date_of_ymd days_before_year days_of_years days_of_months_in has is_minute is_named_by_place is_named_by_weekday is_last_workday is_nearest_workday is_friday_for is_monday_for
returns-clause-within_the_minute c = due_by_date (fields (0 ∷ []) (0 ∷ []) (29 ∷ []) (2 ∷ []) every_weekday false) (known_moment (pos 738_945) 0 0 1 0) (pos 2024) 2 29 refl ∙ refl

pub returns-clause-within_the_second : goal.returns-clause-within_the_second
unfolding date_of_ymd days_before_year days_of_years days_of_months_in has is_minute is_named_by_place is_named_by_weekday is_last_workday is_nearest_workday is_friday_for is_monday_for
returns-clause-within_the_second c = due_by_date (fields (0 ∷ []) (0 ∷ []) (29 ∷ []) (2 ∷ []) every_weekday false) (known_moment (pos 738_945) 0 0 0 1) (pos 2024) 2 29 refl ∙ refl

pub returns-clause-friday : goal.returns-clause-friday
unfolding date_of_ymd days_before_year days_of_years days_of_months_in has is_minute is_named_by_place is_named_by_weekday is_last_workday is_nearest_workday is_friday_for is_monday_for
returns-clause-friday c = due_by_date (fields (30 ∷ []) (4 ∷ []) (1 ∷ 15 ∷ []) every_month (5 ∷ []) true) (known_moment (pos 738_925) 4 30 0 0) (pos 2024) 2 9 refl ∙ refl

pub returns-clause-fifteenth : goal.returns-clause-fifteenth
unfolding date_of_ymd days_before_year days_of_years days_of_months_in has is_minute is_named_by_place is_named_by_weekday is_last_workday is_nearest_workday is_friday_for is_monday_for
returns-clause-fifteenth c = due_by_date (fields (30 ∷ []) (4 ∷ []) (1 ∷ 15 ∷ []) every_month (5 ∷ []) true) (known_moment (pos 738_931) 4 30 0 0) (pos 2024) 2 15 refl ∙ refl

pub returns-clause-neither : goal.returns-clause-neither
unfolding date_of_ymd days_before_year days_of_years days_of_months_in has is_minute is_named_by_place is_named_by_weekday is_last_workday is_nearest_workday is_friday_for is_monday_for
returns-clause-neither c = due_by_date (fields (30 ∷ []) (4 ∷ []) (1 ∷ 15 ∷ []) every_month (5 ∷ []) true) (known_moment (pos 738_930) 4 30 0 0) (pos 2024) 2 14 refl ∙ refl

pub returns-clause-hour_and_minute_swapped : goal.returns-clause-hour_and_minute_swapped
unfolding date_of_ymd days_before_year days_of_years days_of_months_in has is_minute is_named_by_place is_named_by_weekday is_last_workday is_nearest_workday is_friday_for is_monday_for
returns-clause-hour_and_minute_swapped c = due_by_date (fields (30 ∷ []) (4 ∷ []) (1 ∷ 15 ∷ []) every_month (5 ∷ []) true) (known_moment (pos 738_925) 6 4 0 0) (pos 2024) 2 9 refl ∙ refl

pub returns-clause-odd_monday : goal.returns-clause-odd_monday
unfolding date_of_ymd days_before_year days_of_years days_of_months_in has is_minute is_named_by_place is_named_by_weekday is_last_workday is_nearest_workday is_friday_for is_monday_for
returns-clause-odd_monday c = due_by_date (fields (0 ∷ []) (0 ∷ []) odd_days every_month (1 ∷ []) false) (known_moment (pos 738_956) 0 0 0 0) (pos 2024) 3 11 refl ∙ refl

pub returns-clause-even_monday : goal.returns-clause-even_monday
unfolding date_of_ymd days_before_year days_of_years days_of_months_in has is_minute is_named_by_place is_named_by_weekday is_last_workday is_nearest_workday is_friday_for is_monday_for
returns-clause-even_monday c = due_by_date (fields (0 ∷ []) (0 ∷ []) odd_days every_month (1 ∷ []) false) (known_moment (pos 738_949) 0 0 0 0) (pos 2024) 3 4 refl ∙ refl

pub returns-clause-odd_sunday : goal.returns-clause-odd_sunday
unfolding date_of_ymd days_before_year days_of_years days_of_months_in has is_minute is_named_by_place is_named_by_weekday is_last_workday is_nearest_workday is_friday_for is_monday_for
returns-clause-odd_sunday c = due_by_date (fields (0 ∷ []) (0 ∷ []) odd_days every_month (1 ∷ []) false) (known_moment (pos 738_948) 0 0 0 0) (pos 2024) 3 3 refl ∙ refl

pub returns-clause-sunday : goal.returns-clause-sunday
unfolding date_of_ymd days_before_year days_of_years days_of_months_in has is_minute is_named_by_place is_named_by_weekday is_last_workday is_nearest_workday is_friday_for is_monday_for
returns-clause-sunday c = due_by_date (fields (0 ∷ []) (0 ∷ []) every_day every_month (0 ∷ []) false) (known_moment (pos 738_948) 0 0 0 0) (pos 2024) 3 3 refl ∙ refl

pub returns-clause-last_friday : goal.returns-clause-last_friday
unfolding date_of_ymd days_before_year days_of_years days_of_months_in has is_minute is_named_by_place is_named_by_weekday is_last_workday is_nearest_workday is_friday_for is_monday_for
returns-clause-last_friday c = due_by_date (last_days_on (0 ∷ []) (5 ∷ [])) (known_moment (pos 739_037) 0 0 0 0) (pos 2024) 5 31 refl ∙ refl

pub returns-clause-last_thursday : goal.returns-clause-last_thursday
unfolding date_of_ymd days_before_year days_of_years days_of_months_in has is_minute is_named_by_place is_named_by_weekday is_last_workday is_nearest_workday is_friday_for is_monday_for
returns-clause-last_thursday c = due_by_date (last_days_on (0 ∷ []) (5 ∷ [])) (known_moment (pos 738_945) 0 0 0 0) (pos 2024) 2 29 refl ∙ refl

pub returns-clause-named_friday : goal.returns-clause-named_friday
unfolding date_of_ymd days_before_year days_of_years days_of_months_in has is_minute is_named_by_place is_named_by_weekday is_last_workday is_nearest_workday is_friday_for is_monday_for
returns-clause-named_friday c = due_by_date (fields_with [] [] false (5 ∷ []) []) (known_moment (pos 739_037) 0 0 0 0) (pos 2024) 5 31 refl ∙ refl

pub returns-clause-not_named_thursday : goal.returns-clause-not_named_thursday
unfolding date_of_ymd days_before_year days_of_years days_of_months_in has is_minute is_named_by_place is_named_by_weekday is_last_workday is_nearest_workday is_friday_for is_monday_for
returns-clause-not_named_thursday c = due_by_date (fields_with [] [] false (5 ∷ []) []) (known_moment (pos 738_945) 0 0 0 0) (pos 2024) 2 29 refl ∙ refl

pub returns-clause-named_last_day : goal.returns-clause-named_last_day
unfolding date_of_ymd days_before_year days_of_years days_of_months_in has is_minute is_named_by_place is_named_by_weekday is_last_workday is_nearest_workday is_friday_for is_monday_for
returns-clause-named_last_day c = due_by_date (fields_with (0 ∷ []) [] false [] []) (known_moment (pos 738_945) 0 0 0 0) (pos 2024) 2 29 refl ∙ refl
