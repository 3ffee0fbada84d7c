use Rattle.std.proofs.Common.{◌≡◌, ℕ, true, false, [], ◌∷◌, ◌-◌, ◌||◌, refl, sym, ap₂, ◌∙◌, ℤ, pos, Some}
use Rattle.chrono_datetime.specs.Years.{month_length}
use Rattle.chrono_datetime.specs.Days.{date_of_ymd, day_of, days_before_year, days_of_months_in, days_of_years}
use Rattle.chrono_datetime.specs.MonthMoves.{month_length_of}
use Rattle.chrono_datetime.specs.Weekday.{days_from_sunday}
use Rattle.chrono_datetime.specs.Weeks.{weekday_of}
use Rattle.chrono_datetime.proofs.NamedDates.{date_of_ymd-name}
use Rattle.chrono_sets.specs.FiniteSets.{has}
use Rattle.chrono_cron.specs.declared.named_days.MonthDays.{MonthDays}
use Rattle.chrono_cron.specs.Due.{is_friday_for, is_last_workday, is_monday_for, is_named_by_place, is_named_by_weekday, is_nearest_workday}
use Rattle.chrono_cron.specs.KnownMonthDays.{is_named_day, days_named}
use Rattle.chrono_cron.proofs.law.known_month_days.Goals as goal

same_place : (m : MonthDays) (p q length k w : ℕ) → p ≡ q → length ≡ k → (is_named_by_place m p (length - p) w || is_named_by_weekday m p (length - p) w) ≡ (is_named_by_place m q (k - q) w || is_named_by_weekday m q (k - q) w)
same_place m p q length k w places lengths = rw (places, lengths) refl

-- whether a day is named, by its date
by_date : (m : MonthDays) (n y : ℤ) (month d : ℕ) → date_of_ymd y month d ≡ Some n → is_named_day m n ≡ (is_named_by_place m d (month_length y month - d) (days_from_sunday (weekday_of n)) || is_named_by_weekday m d (month_length y month - d) (days_from_sunday (weekday_of n)))
unfolding is_named_day
by_date m n y month d e =
    let name = date_of_ymd-name n y month d e in
    same_place m (day_of n) d (month_length_of n) (month_length y month) (days_from_sunday (weekday_of n)) (sym name.2) (ap₂ month_length (sym name.0) (sym name.1))

pub returns-clause-last : goal.returns-clause-last
unfolding date_of_ymd days_before_year days_of_years days_of_months_in has is_named_by_place is_named_by_weekday is_last_workday is_nearest_workday is_friday_for is_monday_for
returns-clause-last c = by_date (days_named (0 ∷ []) [] false [] []) (pos 739_037) (pos 2024) 5 31 refl ∙ refl

pub returns-clause-before_last : goal.returns-clause-before_last
unfolding date_of_ymd days_before_year days_of_years days_of_months_in has is_named_by_place is_named_by_weekday is_last_workday is_nearest_workday is_friday_for is_monday_for
returns-clause-before_last c = by_date (days_named (0 ∷ []) [] false [] []) (pos 739_036) (pos 2024) 5 30 refl ∙ refl

pub returns-clause-one_before : goal.returns-clause-one_before
unfolding date_of_ymd days_before_year days_of_years days_of_months_in has is_named_by_place is_named_by_weekday is_last_workday is_nearest_workday is_friday_for is_monday_for
returns-clause-one_before c = by_date (days_named (1 ∷ []) [] false [] []) (pos 738_944) (pos 2024) 2 28 refl ∙ refl

pub returns-clause-last_workday : goal.returns-clause-last_workday
unfolding date_of_ymd days_before_year days_of_years days_of_months_in has is_named_by_place is_named_by_weekday is_last_workday is_nearest_workday is_friday_for is_monday_for
returns-clause-last_workday c = by_date (days_named [] [] true [] []) (pos 738_974) (pos 2024) 3 29 refl ∙ refl

pub returns-clause-earlier_workday : goal.returns-clause-earlier_workday
unfolding date_of_ymd days_before_year days_of_years days_of_months_in has is_named_by_place is_named_by_weekday is_last_workday is_nearest_workday is_friday_for is_monday_for
returns-clause-earlier_workday c = by_date (days_named [] [] true [] []) (pos 738_973) (pos 2024) 3 28 refl ∙ refl

pub returns-clause-last_is_workday : goal.returns-clause-last_is_workday
unfolding date_of_ymd days_before_year days_of_years days_of_months_in has is_named_by_place is_named_by_weekday is_last_workday is_nearest_workday is_friday_for is_monday_for
returns-clause-last_is_workday c = by_date (days_named [] [] true [] []) (pos 739_006) (pos 2024) 4 30 refl ∙ refl

pub returns-clause-own_day : goal.returns-clause-own_day
unfolding date_of_ymd days_before_year days_of_years days_of_months_in has is_named_by_place is_named_by_weekday is_last_workday is_nearest_workday is_friday_for is_monday_for
returns-clause-own_day c = by_date (days_named [] (14 ∷ []) false [] []) (pos 739_051) (pos 2024) 6 14 refl ∙ refl

pub returns-clause-friday : goal.returns-clause-friday
unfolding date_of_ymd days_before_year days_of_years days_of_months_in has is_named_by_place is_named_by_weekday is_last_workday is_nearest_workday is_friday_for is_monday_for
returns-clause-friday c = by_date (days_named [] (15 ∷ []) false [] []) (pos 739_051) (pos 2024) 6 14 refl ∙ refl

pub returns-clause-monday : goal.returns-clause-monday
unfolding date_of_ymd days_before_year days_of_years days_of_months_in has is_named_by_place is_named_by_weekday is_last_workday is_nearest_workday is_friday_for is_monday_for
returns-clause-monday c = by_date (days_named [] (15 ∷ []) false [] []) (pos 739_145) (pos 2024) 9 16 refl ∙ refl

pub returns-clause-after_first : goal.returns-clause-after_first
unfolding date_of_ymd days_before_year days_of_years days_of_months_in has is_named_by_place is_named_by_weekday is_last_workday is_nearest_workday is_friday_for is_monday_for
returns-clause-after_first c = by_date (days_named [] (1 ∷ []) false [] []) (pos 739_040) (pos 2024) 6 3 refl ∙ refl

pub returns-clause-before_end : goal.returns-clause-before_end
unfolding date_of_ymd days_before_year days_of_years days_of_months_in has is_named_by_place is_named_by_weekday is_last_workday is_nearest_workday is_friday_for is_monday_for
returns-clause-before_end c = by_date (days_named [] (31 ∷ []) false [] []) (pos 738_974) (pos 2024) 3 29 refl ∙ refl

pub returns-clause-not_before_first : goal.returns-clause-not_before_first
unfolding date_of_ymd days_before_year days_of_years days_of_months_in has is_named_by_place is_named_by_weekday is_last_workday is_nearest_workday is_friday_for is_monday_for
returns-clause-not_before_first c = by_date (days_named [] (1 ∷ []) false [] []) (pos 739_037) (pos 2024) 5 31 refl ∙ refl

pub returns-clause-no_such_day : goal.returns-clause-no_such_day
unfolding date_of_ymd days_before_year days_of_years days_of_months_in has is_named_by_place is_named_by_weekday is_last_workday is_nearest_workday is_friday_for is_monday_for
returns-clause-no_such_day c = by_date (days_named [] (31 ∷ []) false [] []) (pos 738_945) (pos 2024) 2 29 refl ∙ refl

pub returns-clause-last_friday : goal.returns-clause-last_friday
unfolding date_of_ymd days_before_year days_of_years days_of_months_in has is_named_by_place is_named_by_weekday is_last_workday is_nearest_workday is_friday_for is_monday_for
returns-clause-last_friday c = by_date (days_named [] [] false (5 ∷ []) []) (pos 738_939) (pos 2024) 2 23 refl ∙ refl

pub returns-clause-earlier_friday : goal.returns-clause-earlier_friday
unfolding date_of_ymd days_before_year days_of_years days_of_months_in has is_named_by_place is_named_by_weekday is_last_workday is_nearest_workday is_friday_for is_monday_for
returns-clause-earlier_friday c = by_date (days_named [] [] false (5 ∷ []) []) (pos 738_932) (pos 2024) 2 16 refl ∙ refl

pub returns-clause-fifth_friday : goal.returns-clause-fifth_friday
unfolding date_of_ymd days_before_year days_of_years days_of_months_in has is_named_by_place is_named_by_weekday is_last_workday is_nearest_workday is_friday_for is_monday_for
returns-clause-fifth_friday c = by_date (days_named [] [] false [] (33 ∷ [])) (pos 738_974) (pos 2024) 3 29 refl ∙ refl

pub returns-clause-fourth_friday : goal.returns-clause-fourth_friday
unfolding date_of_ymd days_before_year days_of_years days_of_months_in has is_named_by_place is_named_by_weekday is_last_workday is_nearest_workday is_friday_for is_monday_for
returns-clause-fourth_friday c = by_date (days_named [] [] false [] (33 ∷ [])) (pos 738_967) (pos 2024) 3 22 refl ∙ refl

pub returns-clause-second_sunday : goal.returns-clause-second_sunday
unfolding date_of_ymd days_before_year days_of_years days_of_months_in has is_named_by_place is_named_by_weekday is_last_workday is_nearest_workday is_friday_for is_monday_for
returns-clause-second_sunday c = by_date (days_named [] [] false [] (7 ∷ [])) (pos 738_955) (pos 2024) 3 10 refl ∙ refl

pub returns-clause-not_saturday : goal.returns-clause-not_saturday
unfolding date_of_ymd days_before_year days_of_years days_of_months_in has is_named_by_place is_named_by_weekday is_last_workday is_nearest_workday is_friday_for is_monday_for
returns-clause-not_saturday c = by_date (days_named [] [] true [] []) (pos 738_975) (pos 2024) 3 30 refl ∙ refl

pub returns-clause-not_sunday : goal.returns-clause-not_sunday
unfolding date_of_ymd days_before_year days_of_years days_of_months_in has is_named_by_place is_named_by_weekday is_last_workday is_nearest_workday is_friday_for is_monday_for
returns-clause-not_sunday c = by_date (days_named [] [] true [] []) (pos 738_976) (pos 2024) 3 31 refl ∙ refl

pub returns-clause-day_before_last_workday : goal.returns-clause-day_before_last_workday
unfolding date_of_ymd days_before_year days_of_years days_of_months_in has is_named_by_place is_named_by_weekday is_last_workday is_nearest_workday is_friday_for is_monday_for
returns-clause-day_before_last_workday c = by_date (days_named [] [] true [] []) (pos 739_005) (pos 2024) 4 29 refl ∙ refl

pub returns-clause-friday_before_last_workday : goal.returns-clause-friday_before_last_workday
unfolding date_of_ymd days_before_year days_of_years days_of_months_in has is_named_by_place is_named_by_weekday is_last_workday is_nearest_workday is_friday_for is_monday_for
returns-clause-friday_before_last_workday c = by_date (days_named [] [] true [] []) (pos 739_156) (pos 2024) 9 27 refl ∙ refl

pub returns-clause-not_saturday_itself : goal.returns-clause-not_saturday_itself
unfolding date_of_ymd days_before_year days_of_years days_of_months_in has is_named_by_place is_named_by_weekday is_last_workday is_nearest_workday is_friday_for is_monday_for
returns-clause-not_saturday_itself c = by_date (days_named [] (15 ∷ []) false [] []) (pos 739_052) (pos 2024) 6 15 refl ∙ refl

pub returns-clause-not_friday_for_sunday : goal.returns-clause-not_friday_for_sunday
unfolding date_of_ymd days_before_year days_of_years days_of_months_in has is_named_by_place is_named_by_weekday is_last_workday is_nearest_workday is_friday_for is_monday_for
returns-clause-not_friday_for_sunday c = by_date (days_named [] (16 ∷ []) false [] []) (pos 739_051) (pos 2024) 6 14 refl ∙ refl

pub returns-clause-not_monday_for_saturday : goal.returns-clause-not_monday_for_saturday
unfolding date_of_ymd days_before_year days_of_years days_of_months_in has is_named_by_place is_named_by_weekday is_last_workday is_nearest_workday is_friday_for is_monday_for
returns-clause-not_monday_for_saturday c = by_date (days_named [] (15 ∷ []) false [] []) (pos 739_054) (pos 2024) 6 17 refl ∙ refl

pub returns-clause-no_31_june : goal.returns-clause-no_31_june
unfolding date_of_ymd days_before_year days_of_years days_of_months_in has is_named_by_place is_named_by_weekday is_last_workday is_nearest_workday is_friday_for is_monday_for
returns-clause-no_31_june c = by_date (days_named [] (31 ∷ []) false [] []) (pos 738_701) (pos 2023) 6 30 refl ∙ refl

pub returns-clause-no_day_0 : goal.returns-clause-no_day_0
unfolding date_of_ymd days_before_year days_of_years days_of_months_in has is_named_by_place is_named_by_weekday is_last_workday is_nearest_workday is_friday_for is_monday_for
returns-clause-no_day_0 c = by_date (days_named [] (0 ∷ []) false [] []) (pos 738_977) (pos 2024) 4 1 refl ∙ refl

pub returns-clause-friday_a_week_before : goal.returns-clause-friday_a_week_before
unfolding date_of_ymd days_before_year days_of_years days_of_months_in has is_named_by_place is_named_by_weekday is_last_workday is_nearest_workday is_friday_for is_monday_for
returns-clause-friday_a_week_before c = by_date (days_named [] [] false (5 ∷ []) []) (pos 739_030) (pos 2024) 5 24 refl ∙ refl

pub returns-clause-second_friday : goal.returns-clause-second_friday
unfolding date_of_ymd days_before_year days_of_years days_of_months_in has is_named_by_place is_named_by_weekday is_last_workday is_nearest_workday is_friday_for is_monday_for
returns-clause-second_friday c = by_date (days_named [] [] false [] (12 ∷ [])) (pos 739_051) (pos 2024) 6 14 refl ∙ refl

pub returns-clause-monday_is_workday : goal.returns-clause-monday_is_workday
unfolding date_of_ymd days_before_year days_of_years days_of_months_in has is_named_by_place is_named_by_weekday is_last_workday is_nearest_workday is_friday_for is_monday_for
returns-clause-monday_is_workday c = by_date (days_named [] [] true [] []) (pos 739_159) (pos 2024) 9 30 refl ∙ refl

pub returns-clause-last_saturday : goal.returns-clause-last_saturday
unfolding date_of_ymd days_before_year days_of_years days_of_months_in has is_named_by_place is_named_by_weekday is_last_workday is_nearest_workday is_friday_for is_monday_for
returns-clause-last_saturday c = by_date (days_named [] [] true [] []) (pos 739_129) (pos 2024) 8 31 refl ∙ refl

pub returns-clause-friday_for_last_saturday : goal.returns-clause-friday_for_last_saturday
unfolding date_of_ymd days_before_year days_of_years days_of_months_in has is_named_by_place is_named_by_weekday is_last_workday is_nearest_workday is_friday_for is_monday_for
returns-clause-friday_for_last_saturday c = by_date (days_named [] (31 ∷ []) false [] []) (pos 739_128) (pos 2024) 8 30 refl ∙ refl

pub returns-clause-monday_for_first_sunday : goal.returns-clause-monday_for_first_sunday
unfolding date_of_ymd days_before_year days_of_years days_of_months_in has is_named_by_place is_named_by_weekday is_last_workday is_nearest_workday is_friday_for is_monday_for
returns-clause-monday_for_first_sunday c = by_date (days_named [] (1 ∷ []) false [] []) (pos 739_131) (pos 2024) 9 2 refl ∙ refl
