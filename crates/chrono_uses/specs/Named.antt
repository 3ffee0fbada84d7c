-- Dates by the year, the month and the day that name them.
use Rattle.std.proofs.Common.{◌≡◌, ℕ, ℤ, Option, Some, ap, sym, ◌∙◌}
use Rattle.chrono_units.specs.Years.{IsYear}
use Rattle.chrono_calendar.specs.Days.{date_of_ymd, day_number_of_ymd, year_of, month_of, day_of}
use Rattle.chrono_calendar.proofs.NamedDates.{IsDate-year, date_of_ymd-again, date_of_ymd-name, number-calendar_name}

-- a date's number gives its name back
pub fields_again : {R : Type 0} (y : ℤ) (m d : ℕ) → date_of_ymd y m d ≡ Some (day_number_of_ymd y m d) → (made : ℤ → ℕ → ℕ → R)
    → made (year_of (day_number_of_ymd y m d)) (month_of (day_number_of_ymd y m d)) (day_of (day_number_of_ymd y m d)) ≡ made y m d
fields_again y m d h made =
    let n = day_number_of_ymd y m d in
    let name = date_of_ymd-name n y m d h in
    sym (ap (λ k. made k m d) name.0 ∙ ap (λ k. made (year_of n) k d) name.1 ∙ ap (made (year_of n) (month_of n)) name.2)

-- the name of a date's number is a date's, with that number
pub name_again : (n y : ℤ) (m d : ℕ) → IsYear (year_of n) → y ≡ year_of n → m ≡ month_of n → d ≡ day_of n
    → (date_of_ymd y m d ≡ Some (day_number_of_ymd y m d)) × (day_number_of_ymd y m d ≡ n)
name_again n y m d h e f g =
    let along = λ (R : Type 0) (made : ℤ → ℕ → ℕ → R). ap (λ k. made k m d) e ∙ ap (λ k. made (year_of n) k d) f ∙ ap (made (year_of n) (month_of n)) g in
    let number = along ℤ day_number_of_ymd ∙ number-calendar_name n in
    (along (Option ℤ) date_of_ymd ∙ date_of_ymd-again n (IsDate-year n h) ∙ ap Some (sym number), number)
