-- Why a text is of no time of day, and at which byte.
use Rattle.std.specs.Prelude.{◌≡◌, ◌==◌, ◌<◌, ◌⊎◌, ℕ, List, ◌++◌, length, drop, nat_le, nat_lt, codes, replicate, if◌then◌else◌, refl}
use Rattle.std.specs.Str.{byte}
use Rattle.chrono_text.specs.Fractions.{IsFractionText}
use Rattle.chrono_text.specs.Text.{two_digits}
use Rattle.chrono_reading.specs.DateErrors.{error_at}
use Rattle.chrono_reading.specs.Fitting.{fitting, form_error, leading_digits}
use Rattle.chrono_reading.specs.declared.error.ReadCause.TheVariants.{HourAbove23, MinuteAbove59, SecondAbove60}
use Rattle.chrono_reading.specs.declared.error.ReadError.{ReadError}

-- how many digits stand behind the point of a form: those of the text, but one at least and nine at most
abbrev pub places_of_form : ℕ → ℕ
places_of_form digits = if digits == 0 then 1 else (if nat_lt 9 digits then 9 else digits)

-- the form of a time: its clock, and behind it nothing, or a point and one to nine digits, as many as the text has
unfoldable pub time_form : List ℕ → List ℕ
time_form text =
    if nat_le (length text) 8 then codes "dd:dd:dd"
    else codes "dd:dd:dd." ++ replicate (places_of_form (leading_digits (drop 9 text))) (byte "d")

-- the numbers of a text that has the form of a time
pub record HasTimeParts (text : List ℕ) (hour minute second : ℕ) : Type 0 where
  pub nanos : ℕ
  pub fraction : List ℕ
  pub small : (hour < 100) × (minute < 100) × (second < 100)
  pub fraction_written : IsFractionText fraction nanos
  pub written : two_digits hour ++ codes ":" ++ two_digits minute ++ codes ":" ++ two_digits second ++ fraction ≡ text

-- what is wrong with the numbers of a time that is none: the first that is
unfoldable pub clock_error : ℕ → ℕ → ReadError
clock_error hour minute =
    if nat_lt 23 hour then error_at HourAbove23 0
    else (if nat_lt 59 minute then error_at MinuteAbove59 3
    else error_at SecondAbove60 6)

-- the error of a text that is of no time of day: it has not the form of one, or its numbers are none of a time
abbrev pub IsTimeError : List ℕ → ReadError → Type 0
IsTimeError text e =
    (((hour minute second : ℕ) → ¬ HasTimeParts text hour minute second) × (e ≡ form_error (time_form text) text))
    ⊎ ((hour : ℕ) × (minute : ℕ) × (second : ℕ) × HasTimeParts text hour minute second × (e ≡ clock_error hour minute))

-- known values: hour 24, minute 60 and second 61, and where a text of a time leaves its form
clock_error-hour : clock_error 24 60 ≡ error_at HourAbove23 0
unfolding clock_error
clock_error-hour = refl

clock_error-minute : clock_error 23 60 ≡ error_at MinuteAbove59 3
unfolding clock_error
clock_error-minute = refl

clock_error-second : clock_error 23 59 ≡ error_at SecondAbove60 6
unfolding clock_error
clock_error-second = refl

time_form-point : fitting (time_form (codes "01:02:03.")) (codes "01:02:03.") ≡ 9
unfolding time_form leading_digits fitting
time_form-point = refl

time_form-ten : fitting (time_form (codes "01:02:03.1234567890")) (codes "01:02:03.1234567890") ≡ 18
unfolding time_form leading_digits fitting
time_form-ten = refl
