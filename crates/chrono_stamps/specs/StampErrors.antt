-- Why a text is none of RFC 3339, and at which byte: what is wrong first, from left to right.
use Rattle.std.specs.Prelude.{◌≡◌, ◌==◌, ◌⊎◌, ◌+◌, ◌-◌, ℕ, ℤ, Bool, true, false, ◌||◌, List, [], ◌∷◌, length, take, drop, codes, if◌then◌else◌, nat_lt, unwrap_or, refl}
use Rattle.std.specs.Char.{is_ascii_digit}
use Rattle.std.specs.List.{prefix_len}
use Rattle.std.specs.Str.{byte}
use Rattle.chrono_datetime.specs.Time.{TimeOfDay}
use Rattle.chrono_reading.specs.DateErrors.{IsDateError, error_at}
use Rattle.chrono_reading.specs.DateTexts.{IsDateText}
use Rattle.chrono_reading.specs.Fitting.{fitting}
use Rattle.chrono_reading.specs.TimeErrors.{IsTimeError}
use Rattle.chrono_reading.specs.TimeTexts.{IsTimeText}
use Rattle.chrono_reading.specs.declared.error.ReadCause.TheVariants.{HourAbove23, MinuteAbove59, NotThisForm}
use Rattle.chrono_reading.specs.declared.error.ReadError.{ReadError}
use Rattle.chrono_stamps.specs.Rfc3339.{IsStampSeparator}
use Rattle.chrono_text.specs.Numbers.{digits_of, natural_of}

-- the error so many bytes later
abbrev pub later_by : ℕ → ReadError → ReadError
later_by bytes e = error_at e.cause (e.byte + bytes)

-- the number that the first two digits write, 0 where there are none
abbrev pub two_written : List ℕ → ℕ
two_written [] = 0
two_written (tens ∷ []) = 0
two_written (tens ∷ ones ∷ more) = unwrap_or (digits_of 2 (tens ∷ ones ∷ [])) 0

-- what is wrong behind the sign of an offset: the form, or else the hour if it is above 23, or else the minute
unfoldable pub minutes_error : List ℕ → ReadError
minutes_error text =
    let fit = fitting (codes "dd:dd") text in
    if length text == 5
    then (if fit == 5
    then (if nat_lt 23 (two_written text) then error_at HourAbove23 0 else error_at MinuteAbove59 3)
    else error_at NotThisForm fit)
    else error_at NotThisForm fit

-- what is wrong with an offset: something behind a `Z`, or what stands behind a sign, or the first byte
unfoldable pub offset_error : List ℕ → ReadError
offset_error [] = error_at NotThisForm 0
offset_error (first ∷ minutes) =
    if first == byte "Z" then error_at NotThisForm 1
    else (if first == byte "z" then error_at NotThisForm 1
    else (if first == byte "+" then later_by 1 (minutes_error minutes)
    else (if first == byte "-" then later_by 1 (minutes_error minutes)
    else error_at NotThisForm 0)))

-- a byte as a time of day has
abbrev pub is_of_clock : ℕ → Bool
is_of_clock c = is_ascii_digit c || ((c == byte ":") || (c == byte "."))

-- The error behind the separator. All digits, colons and points there are meant as the time of day. It is no time of day, or what stands
-- behind them is no offset.
abbrev pub IsClockError : List ℕ → ReadError → Type 0
IsClockError text e =
    let len = prefix_len is_of_clock text in
    IsTimeError (take len text) e
    ⊎ ((t : TimeOfDay) × IsTimeText (take len text) t × (e ≡ later_by len (offset_error (drop len text))))

-- the error behind a date of ten bytes: no separator, or what is wrong behind it
abbrev pub IsErrorBehindDate : List ℕ → ReadError → Type 0
IsErrorBehindDate rest e =
    (((c : ℕ) (clock : List ℕ) → rest ≡ c ∷ clock → ¬ IsStampSeparator c) × (e ≡ error_at NotThisForm 10))
    ⊎ ((c : ℕ) × (clock : List ℕ) × (f : ReadError) × (rest ≡ c ∷ clock) × IsStampSeparator c × IsClockError clock f × (e ≡ later_by 11 f))

-- the text begins with a sign, as no year of four digits does
abbrev pub is_signed : List ℕ → Bool
is_signed [] = false
is_signed (first ∷ rest) = (first == byte "+") || (first == byte "-")

-- the error of a text: its sign, or what is wrong with the date in its first ten bytes, or what is wrong behind that
abbrev pub IsRfc3339Error : List ℕ → ReadError → Type 0
IsRfc3339Error text e =
    ((is_signed text ≡ true) × (e ≡ error_at NotThisForm 0))
    ⊎ (((is_signed text ≡ false) × IsDateError (take 10 text) e)
    ⊎ ((n : ℤ) × (is_signed text ≡ false) × IsDateText (take 10 text) n × IsErrorBehindDate (drop 10 text) e))

-- known values: a minute of one digit, hour 24, minute 60, and something behind each kind of offset
offset_error-short : offset_error (codes "+05:3") ≡ error_at NotThisForm 5
unfolding offset_error minutes_error fitting
offset_error-short = refl

offset_error-hour : offset_error (codes "-24:60") ≡ error_at HourAbove23 1
unfolding offset_error minutes_error fitting digits_of natural_of
offset_error-hour = refl

offset_error-minute : offset_error (codes "+23:60") ≡ error_at MinuteAbove59 4
unfolding offset_error minutes_error fitting digits_of natural_of
offset_error-minute = refl

offset_error-long : offset_error (codes "+23:000") ≡ error_at NotThisForm 6
unfolding offset_error minutes_error fitting
offset_error-long = refl

offset_error-zulu : offset_error (codes "Z0") ≡ error_at NotThisForm 1
unfolding offset_error minutes_error fitting
offset_error-zulu = refl
