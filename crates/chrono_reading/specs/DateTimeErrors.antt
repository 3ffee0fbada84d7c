-- Why a text is of no date-time, and at which byte.
use Rattle.std.specs.Prelude.{◌≡◌, ◌<◌, ◌+◌, ◌⊎◌, ℕ, ℤ, List, ◌∷◌, ◌++◌, length, slice_index}
use Rattle.chrono_reading.specs.DateErrors.{IsDateError, error_at}
use Rattle.chrono_reading.specs.DateTexts.{IsDateText}
use Rattle.chrono_reading.specs.DateTimeTexts.{IsSeparator}
use Rattle.chrono_reading.specs.TimeErrors.{IsTimeError}
use Rattle.chrono_reading.specs.declared.error.ReadCause.TheVariants.{NotThisForm}
use Rattle.chrono_reading.specs.declared.error.ReadError.{ReadError}

-- no byte of the text is a `T` or a space
abbrev pub HasNoSeparator : List ℕ → Type 0
HasNoSeparator text = (k : ℕ) → k < length text → ¬ IsSeparator (slice_index text k)

-- the text of a date is of none, and the error is that of a date
pub record IsOfNoDate (text : List ℕ) (e : ReadError) : Type 0 where
  pub none : (n : ℤ) → ¬ IsDateText text n
  pub error : IsDateError text e

-- the text ends behind its date
pub record EndsBehindDate (text : List ℕ) (e : ReadError) : Type 0 where
  pub n : ℤ
  pub date_written : IsDateText text n
  pub error : e ≡ error_at NotThisForm (length text)

-- behind a date and its separator, which end before a byte, stands no time, and the error is that of the time
pub record IsOfNoTime (date time : List ℕ) (e : ReadError) : Type 0 where
  pub n : ℤ
  pub date_written : IsDateText date n
  pub of_time : ReadError
  pub time_error : IsTimeError time of_time
  pub error : e ≡ error_at of_time.cause (length date + 1 + of_time.byte)

-- the first `T` or space of a text ends its date
pub record IsErrorAbout (text : List ℕ) (e : ReadError) : Type 0 where
  pub date : List ℕ
  pub separator : ℕ
  pub time : List ℕ
  pub first : HasNoSeparator date
  pub between : IsSeparator separator
  pub written : date ++ separator ∷ time ≡ text
  pub error : IsOfNoDate date e ⊎ IsOfNoTime date time e

-- The error of a text that is of no date-time. With a `T` or a space it is that of the date in front of it, or else that of the time behind it.
-- With none it is that of a date, or the time is missing.
abbrev pub IsDateTimeError : List ℕ → ReadError → Type 0
IsDateTimeError text e = (HasNoSeparator text × (IsOfNoDate text e ⊎ EndsBehindDate text e)) ⊎ IsErrorAbout text e
