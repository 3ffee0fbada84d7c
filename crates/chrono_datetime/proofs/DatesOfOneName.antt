-- Two dates of one name are one date, and a date has one name of each kind.
use Rattle.std.proofs.Common.{◌≡◌, ◌∙◌, ℕ, ℤ, Some, ap, arith, sym}
use Rattle.chrono_units.specs.Weekday.{days_since}
use Rattle.chrono_units.specs.declared.weekday.Weekday.TheVariants.{Mon}
use Rattle.chrono_naive.specs.Days.{date_of_ymd, day_number_of_ymd, day_number_of_yo, day_of, month_of, ordinal_of, year_of}
use Rattle.chrono_naive.specs.Weeks.{iso_week_of, iso_year_of, weekday_of}
use Rattle.chrono_naive.proofs.IsoMondays.{monday-same}
use Rattle.chrono_naive.proofs.NamedDates.{date_of_ymd-name, number-calendar_name, number-ordinal_name}
use Rattle.chrono_naive.proofs.Signed.{signed}

-- two dates of one calendar name, whose year, month and day are equal, are the same date
pub same_date-calendar_name : (a b : ℤ) → year_of a ≡ year_of b → month_of a ≡ month_of b → day_of a ≡ day_of b → a ≡ b
same_date-calendar_name a b y m d =
    sym (number-calendar_name a) ∙ ap (λ z. day_number_of_ymd z (month_of a) (day_of a)) y ∙ ap (λ k. day_number_of_ymd (year_of b) k (day_of a)) m
    ∙ ap (λ k. day_number_of_ymd (year_of b) (month_of b) k) d ∙ number-calendar_name b

-- two dates of one ordinal name, whose year and day of the year are equal, are the same date
pub same_date-ordinal_name : (a b : ℤ) → year_of a ≡ year_of b → ordinal_of a ≡ ordinal_of b → a ≡ b
same_date-ordinal_name a b y o =
    sym (number-ordinal_name a) ∙ ap (λ z. day_number_of_yo z (ordinal_of a)) y ∙ ap (λ k. day_number_of_yo (year_of b) k) o ∙ number-ordinal_name b

-- two dates of one ISO week name, whose ISO year, week and weekday are equal, are the same date
pub same_date-iso_week_name : (a b : ℤ) → iso_year_of a ≡ iso_year_of b → iso_week_of a ≡ iso_week_of b → weekday_of a ≡ weekday_of b → a ≡ b
same_date-iso_week_name a b y w d =
    omega (arith, signed, monday-same a b y w, ap (λ k. days_since k Mon) d)

-- a date has one calendar name, which is unique: `date_of_ymd`, and so `from_ymd_opt`, is injective
pub date_of_ymd-injective : (n y z : ℤ) (m k d e : ℕ) → date_of_ymd y m d ≡ Some n → date_of_ymd z k e ≡ Some n → (y ≡ z) × (m ≡ k) × (d ≡ e)
date_of_ymd-injective n y z m k d e one other =
    let first = date_of_ymd-name n y m d one in
    let second = date_of_ymd-name n z k e other in
    (first.0 ∙ sym second.0, first.1 ∙ sym second.1, first.2 ∙ sym second.2)
