-- Why a text is none of ISO 8601, and at which byte: what is wrong first, from left to right.
use Rattle.std.specs.Prelude.{◌≡◌, ◌==◌, ◌⊎◌, ℕ, ℤ, ◌-ℤ◌, Bool, true, false, ◌||◌, List, [], ◌∷◌, length, drop, codes, if◌then◌else◌, nat_lt, refl}
use Rattle.std.specs.Str.{byte}
use Rattle.chrono_datetime.specs.Moment.{moment}
use Rattle.chrono_datetime.specs.Time.{TimeOfDay}
use Rattle.chrono_instant.specs.Instants.{IsEpochSecond, epoch_second}
use Rattle.chrono_reading.specs.DateErrors.{IsDateError, IsOrdinalDateError, IsWeekDateError, error_at}
use Rattle.chrono_reading.specs.Fitting.{fitting}
use Rattle.chrono_reading.specs.TimeErrors.{IsTimeError}
use Rattle.chrono_reading.specs.declared.error.ReadCause.{ReadCause}
use Rattle.chrono_reading.specs.declared.error.ReadCause.TheVariants.{DateOutOfRange, HourAbove23, MinuteAbove59, NotThisForm}
use Rattle.chrono_reading.specs.declared.error.ReadError.{ReadError}
use Rattle.chrono_text.specs.Lists.{stands_in}
use Rattle.chrono_text.specs.Numbers.{digits_of, natural_of}
use Rattle.chrono_stamps.specs.Iso8601.{IsIsoDate, IsIsoOffset, IsIsoTime, behind_date, clock_shown, date_part, offset_part, time_part}
use Rattle.chrono_stamps.specs.MailErrors.{error_in}
use Rattle.chrono_stamps.specs.StampErrors.{later_by, two_written}

-- the error is that of a text of the form
abbrev pub is_of_form : ReadCause → Bool
is_of_form NotThisForm = false
is_of_form others = true

-- of two errors by two forms: that of a form that the text has, or else the one at which the text goes on further
unfoldable pub further_error : ReadError → ReadError → ReadError
further_error one other =
    if is_of_form one.cause then one
    else (if is_of_form other.cause then other
    else (if nat_lt one.byte other.byte then other else one))

-- the error of a text that is of no date, by the three forms
pub record IsIsoDateError (text : List ℕ) (e : ReadError) : Type 0 where
  pub calendar : ReadError
  pub ordinal : ReadError
  pub week : ReadError
  pub by_calendar : IsDateError text calendar
  pub by_ordinal : IsOrdinalDateError text ordinal
  pub by_week : IsWeekDateError text week
  pub error : e ≡ further_error calendar (further_error ordinal week)

-- the error of a text that is of no time
abbrev pub IsIsoTimeError : List ℕ → ReadError → Type 0
IsIsoTimeError text e = IsTimeError (clock_shown text) e

-- What is wrong behind the sign of an offset: it is not two, five or eight bytes of the form, or else the hour if it is above 23, the minute if it is
-- above 59, or the second.
unfoldable pub size_error : List ℕ → ReadError
size_error text =
    let fit = fitting (codes "dd:dd:dd") text in
    if fit == length text
    then (if (fit == 2) || ((fit == 5) || (fit == 8))
    then (if nat_lt 23 (two_written text) then error_at HourAbove23 0
    else (if nat_lt 59 (two_written (drop 3 text)) then error_at MinuteAbove59 3
    else error_at NotThisForm 6))
    else error_at NotThisForm fit)
    else error_at NotThisForm fit

-- what is wrong with an offset: something behind a `Z`, or what stands behind a sign, or the first byte
unfoldable pub iso_offset_error : List ℕ → ReadError
iso_offset_error [] = error_at NotThisForm 0
iso_offset_error (first ∷ size) =
    if first == byte "Z" then error_at NotThisForm 1
    else (if first == byte "+" then later_by 1 (size_error size)
    else (if first == byte "-" then later_by 1 (size_error size)
    else error_at NotThisForm 0))

-- the error of a text with no `T`: it is of no date, or the time is missing
abbrev pub IsErrorWithoutTime : List ℕ → ReadError → Type 0
IsErrorWithoutTime text e =
    IsIsoDateError text e ⊎ ((n : ℤ) × IsIsoDate text n × (e ≡ error_at NotThisForm (length text)))

-- the error behind a date n and its `T`: of the time, of the offset, or UTC has no date then
abbrev pub IsErrorBehindT : List ℕ → ℤ → List ℕ → ReadError → Type 0
IsErrorBehindT text n behind e =
    ((f : ReadError) × IsIsoTimeError (time_part behind) f × (e ≡ error_in text behind f))
    ⊎ ((t : TimeOfDay) × IsIsoTime (time_part behind) t
    × (((x : ℤ) → ¬ IsIsoOffset (offset_part behind) x) × (e ≡ error_in text (offset_part behind) (iso_offset_error (offset_part behind)))
    ⊎ ((x : ℤ) × IsIsoOffset (offset_part behind) x × ¬ IsEpochSecond (epoch_second (moment n t) -ℤ x) × (e ≡ error_at DateOutOfRange 0))))

-- the error of a text
abbrev pub IsExtendedError : List ℕ → ReadError → Type 0
IsExtendedError text e =
    ((stands_in (byte "T") text ≡ false) × IsErrorWithoutTime text e)
    ⊎ ((stands_in (byte "T") text ≡ true)
    × (IsIsoDateError (date_part text) e ⊎ ((n : ℤ) × IsIsoDate (date_part text) n × IsErrorBehindT text n (behind_date text) e)))

-- known values: hour 24 alone, minute 60 and second 60 of an offset, a colon at its end, and something behind each kind
iso_offset_error-hour : iso_offset_error (codes "+24") ≡ error_at HourAbove23 1
unfolding iso_offset_error size_error fitting digits_of natural_of
iso_offset_error-hour = refl

iso_offset_error-minute : iso_offset_error (codes "-23:60") ≡ error_at MinuteAbove59 4
unfolding iso_offset_error size_error fitting digits_of natural_of
iso_offset_error-minute = refl

iso_offset_error-second : iso_offset_error (codes "-23:59:60") ≡ error_at NotThisForm 7
unfolding iso_offset_error size_error fitting digits_of natural_of
iso_offset_error-second = refl

iso_offset_error-colon : iso_offset_error (codes "+05:") ≡ error_at NotThisForm 4
unfolding iso_offset_error size_error fitting
iso_offset_error-colon = refl

iso_offset_error-long : iso_offset_error (codes "+05:30x") ≡ error_at NotThisForm 6
unfolding iso_offset_error size_error fitting
iso_offset_error-long = refl
