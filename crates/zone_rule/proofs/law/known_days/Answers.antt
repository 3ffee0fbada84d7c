use Rattle.std.proofs.Common.{◌≡◌, ℕ, ◌+◌, ◌&&◌, Bool, true, false, cond, nat_le, refl, ap}
use Rattle.chrono_units.specs.Years.{is_leap_year}
use Rattle.chrono_calendar.specs.Days.{days_before_year, days_of_months_in, days_of_years, day_number_of_yo}
use Rattle.chrono_calendar.specs.Weeks.{days_with_weekday}
use Rattle.zone_rule.specs.Changes.{day_in_year}
use Rattle.zone_rule.proofs.law.known_days.Goals as goal

-- the place of 1 March
first_of_march : (leap : Bool) → cond (leap && nat_le 60 60) (60 + 1) 60 ≡ days_of_months_in leap 2 + 1
unfolding days_of_months_in
first_of_march true = refl
first_of_march false = refl

pub returns-clause-first_of_march : goal.returns-clause-first_of_march
unfolding day_in_year
returns-clause-first_of_march c = λ y. ap (λ (o : ℕ). day_number_of_yo y o) (first_of_march (is_leap_year y))

pub returns-clause-fourth_sunday : goal.returns-clause-fourth_sunday
unfolding day_in_year days_with_weekday days_before_year days_of_years days_of_months_in
returns-clause-fourth_sunday c = refl

pub returns-clause-fifth_sunday : goal.returns-clause-fifth_sunday
unfolding day_in_year days_with_weekday days_before_year days_of_years days_of_months_in
returns-clause-fifth_sunday c = refl

pub returns-clause-leap_day : goal.returns-clause-leap_day
unfolding day_in_year days_before_year days_of_years days_of_months_in
returns-clause-leap_day c = refl

pub returns-clause-past_the_year : goal.returns-clause-past_the_year
unfolding day_in_year days_before_year days_of_years days_of_months_in
returns-clause-past_the_year c = refl
