-- The texts of date-times.
use Rattle.std.specs.Prelude.{◌≡◌, ◌⊎◌, ℕ, List, ◌∷◌, ◌++◌}
use Rattle.std.specs.Str.{byte}
use Rattle.chrono_datetime.specs.Moment.{Moment}
use Rattle.chrono_reading.specs.DateTexts.{IsDateText}
use Rattle.chrono_reading.specs.TimeTexts.{IsTimeText, SameClock}

-- what stands between a date and a time: a `T` or a space
abbrev pub IsSeparator : ℕ → Type 0
IsSeparator c = (c ≡ byte "T") ⊎ (c ≡ byte " ")

-- a text of the date-time: a text of its date, a `T` or a space, and a text of its time (ISO 8601 date and time of day)
pub record IsDateTimeText (text : List ℕ) (m : Moment) : Type 0 where
  pub date : List ℕ
  pub separator : ℕ
  pub time : List ℕ
  pub date_written : IsDateText date m.date
  pub between : IsSeparator separator
  pub time_written : IsTimeText time m.time
  pub written : date ++ separator ∷ time ≡ text

-- the same bytes, then a `T` or a space in each, then times that show the same
pub record SameDateTime (text other : List ℕ) : Type 0 where
  pub date : List ℕ
  pub separator : ℕ
  pub other_separator : ℕ
  pub time : List ℕ
  pub other_time : List ℕ
  pub between : IsSeparator separator × IsSeparator other_separator
  pub same_time : SameClock time other_time
  pub written : date ++ separator ∷ time ≡ text
  pub other_written : date ++ other_separator ∷ other_time ≡ other
