-- What stands in a column of open days for each date.
use Rattle.std.specs.Prelude.{◌≡◌, ◌≢◌, ◌^◌, ℕ, ◌&&◌, if◌then◌else◌, ℤ, pos, neg_ℤ, ◌+ℤ◌, ◌-ℤ◌}
use Rattle.std.specs.Option.{option_map}
use Rattle.chrono_datetime.specs.Days.{IsDate, date_of_day, is_date}
use Rattle.chrono_datetime.specs.Fields.{unix_epoch_day}
use Rattle.chrono_business.specs.OpenDays.{Closed, IsMovedByOpenDays, is_open, open_days_signed}
use Rattle.chrono_business.specs.Rolls.{RollsTo}
use Rattle.chrono_business.specs.declared.roll.Roll.{Roll}
use Rattle.numbers_c.specs.Answers.{none_number, or_none}

-- 1 for an open date, and 0 for any other number
abbrev pub open_entry : Closed → ℤ → ℕ
open_entry c d = if is_date d && is_open c d then 1 else 0

-- the date that d goes to by n open days, and for none the least `i32`
pub record IsMovedEntry (c : Closed) (n d e : ℤ) : Type 0 where
  pub number : e ≡ or_none (date_of_day e)
  pub moved : e ≢ none_number → IsMovedByOpenDays c d n e
  pub none : e ≡ none_number → IsDate d → (f : ℤ) → IsDate f → ¬ IsMovedByOpenDays c d n f
  pub no_date : ¬ IsDate d → e ≡ none_number

-- the date that d goes to by a roll, and for none the least `i32`
pub record IsRolledEntry (c : Closed) (r : Roll) (d e : ℤ) : Type 0 where
  pub number : e ≡ or_none (date_of_day e)
  pub rolled : e ≢ none_number → RollsTo c r d e
  pub none : e ≡ none_number → IsDate d → (f : ℤ) → IsDate f → ¬ RollsTo c r d f
  pub no_date : ¬ IsDate d → e ≡ none_number

-- the least `i64`, for no number of days
abbrev pub least_days : ℤ
least_days = neg_ℤ (pos (2 ^ 63))

-- how many days are open from one date on and before another, and without two dates the least `i64`
abbrev pub between_entry : Closed → ℤ → ℤ → ℤ
between_entry c from to = if is_date from && is_date to then open_days_signed c from to else least_days

-- the date so many days after 1 January 1970, and for none the least `i32`
abbrev pub from_date32_entry : ℤ → ℤ
from_date32_entry days = or_none (date_of_day (days +ℤ unix_epoch_day))

-- the days from 1 January 1970 to a date, and for none the least `i32`
abbrev pub to_date32_entry : ℤ → ℤ
to_date32_entry n = or_none (option_map (λ d. d -ℤ unix_epoch_day) (date_of_day n))
