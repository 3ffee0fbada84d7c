-- What stands in a column of open days for each date, if the holidays of some years are known.
use Rattle.std.specs.Prelude.{◌≡◌, ◌≢◌, ℕ, true, if◌then◌else◌, ℤ}
use Rattle.chrono_datetime.specs.Days.{IsDate, date_of_day, is_date}
use Rattle.chrono_business.specs.KnownYears.{AreKnownDays, is_known, is_roll_known}
use Rattle.chrono_business.specs.OpenDays.{Closed, IsMovedByOpenDays, is_open, open_days_signed}
use Rattle.chrono_business.specs.Rolls.{RollsTo}
use Rattle.chrono_business.specs.declared.known_years.KnownYears.{KnownYears}
use Rattle.chrono_business.specs.declared.roll.Roll.{Roll}
use Rattle.layers_c.specs.OpenDays.{no_count}
use Rattle.numbers_c.specs.Answers.{none_number, or_none}

-- 1 for an open date of the years, 2 for a date of another year, and 0 for any other number
abbrev pub open_within_entry : KnownYears → Closed → ℤ → ℕ
open_within_entry years c d = if is_date d then (if is_known years d then (if is_open c d then 1 else 0) else 2) else 0

-- the date that d goes to by n open days, where both lie in the years, and for none the least `i32`
pub record IsMovedWithin (years : KnownYears) (c : Closed) (n d e : ℤ) : Type 0 where
  pub number : e ≡ or_none (date_of_day e)
  pub moved : e ≢ none_number → IsMovedByOpenDays c d n e
  pub known : e ≢ none_number → (is_known years d ≡ true) × (is_known years e ≡ true)
  pub none : e ≡ none_number → IsDate d → (f : ℤ) → is_known years d ≡ true → is_known years f ≡ true → ¬ IsMovedByOpenDays c d n f
  pub no_date : ¬ IsDate d → e ≡ none_number

-- the date that d goes to by a roll, where the days that it looks at lie in the years, and for none the least `i32`
pub record IsRolledWithin (years : KnownYears) (c : Closed) (r : Roll) (d e : ℤ) : Type 0 where
  pub number : e ≡ or_none (date_of_day e)
  pub rolled : e ≢ none_number → RollsTo c r d e
  pub known : e ≢ none_number → is_roll_known years r d e ≡ true
  pub none : e ≡ none_number → IsDate d → (f : ℤ) → is_roll_known years r d f ≡ true → ¬ RollsTo c r d f
  pub no_date : ¬ IsDate d → e ≡ none_number

-- how many days are open from one date on and before another, where these days lie in the years, and for none the least `i64`
pub record IsBetweenWithin (years : KnownYears) (c : Closed) (from to n : ℤ) : Type 0 where
  pub count : IsDate from → IsDate to → AreKnownDays years from to → AreKnownDays years to from → n ≡ open_days_signed c from to
  pub unknown : IsDate from → IsDate to → (AreKnownDays years from to → AreKnownDays years to from → ⊥) → n ≡ no_count
  pub no_from : ¬ IsDate from → n ≡ no_count
  pub no_to : ¬ IsDate to → n ≡ no_count
