use Rattle.std.proofs.Common.{◌≡◌, ℕ, ℤ, Some, ap, ◌∙◌, w32}
use Rattle.std.proofs.lemmas.Int.{to_z-of_z}
use Rattle.std.proofs.lemmas.Option.{same_Some}
use Rattle.chrono_datetime.specs.Days.{date_of_yo, day_number_of_yo}
use Rattle.chrono_datetime.specs.Weekday.{days_from_sunday}
use Rattle.chrono_datetime.specs.Weeks.{days_from_sunday_of}
use Rattle.chrono_datetime.proofs.MonthPlaces.{weekday_number}
use Rattle.chrono_pattern.proofs.YearWeekLemmas.{first_day_found}
use Rattle.chrono_pattern.proofs.year_week.first_weekday.Goals as goal

pub returns-clause-first : goal.returns-clause-first
returns-clause-first c = λ year.
    let y = c.args.year in
    let date : c.in_ok-date.date ≡ day_number_of_yo y 1 = same_Some _ _ (c.in_ok-date.ensures.date ∙ ap (λ (z : ℤ). date_of_yo z 1) (to_z-of_z w32 y c.ranges.year) ∙ first_day_found y year) in
    let days = c.num_days_from_sunday.ensures ∙ ap days_from_sunday c.weekday.ensures.value ∙ weekday_number c.in_ok-date.date in
    ap (λ (k : ℕ). Some k) (days ∙ ap (λ (n : ℤ). days_from_sunday_of n) date)
