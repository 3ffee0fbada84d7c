-- Why a text is of no duration, and at which byte.
use Rattle.std.specs.Prelude.{◌≡◌, ◌==◌, ◌-◌, ℕ, Bool, not, ◌&&◌, List, [], ◌++◌, length, drop, slice_index, nat_le, nat_lt, codes, replicate, if◌then◌else◌, refl}
use Rattle.std.specs.List.{prefix_len}
use Rattle.std.specs.Str.{byte}
use Rattle.chrono_reading.specs.DateErrors.{error_at}
use Rattle.chrono_reading.specs.Fitting.{fits_front, fitting, form_error, leading_digits}
use Rattle.chrono_reading.specs.TimeErrors.{places_of_form}
use Rattle.chrono_reading.specs.declared.error.ReadCause.{ReadCause}
use Rattle.chrono_reading.specs.declared.error.ReadCause.TheVariants.{NotThisForm, ZeroInSeconds, DurationOutOfRange}
use Rattle.chrono_reading.specs.declared.error.ReadError.{ReadError}

-- what stands in front of the seconds
abbrev pub seconds_front : List ℕ → List ℕ
seconds_front text = if fits_front (codes "-") text then codes "-PT" else codes "PT"

-- the form of the whole seconds that a text begins with: 0 alone, or digits that do not begin with 0
abbrev pub whole_front : List ℕ → List ℕ
whole_front text = if fits_front (codes "0") text then codes "0" else codes "n"

abbrev pub whole_more : List ℕ → ℕ
whole_more text = if fits_front (codes "0") text then 0 else leading_digits text - 1

unfoldable pub whole_form : List ℕ → List ℕ
whole_form text = whole_front text ++ replicate (whole_more text) (byte "d")

-- the form of what follows them: nothing or a point and one to nine digits, and `S`
abbrev pub point_front : List ℕ → List ℕ
point_front text = if fits_front (codes ".") text then codes "." else []

abbrev pub point_more : List ℕ → ℕ
point_more text = if fits_front (codes ".") text then places_of_form (leading_digits (drop 1 text)) else 0

unfoldable pub end_form : List ℕ → List ℕ
end_form text = point_front text ++ replicate (point_more text) (byte "d") ++ codes "S"

-- the form of the seconds that a text begins with, and of what follows
unfoldable pub seconds_form : List ℕ → List ℕ
seconds_form text = whole_form text ++ end_form (drop (length (whole_form text)) text)

-- the form of a duration: `P0D`, or `PT` and seconds, behind a `-` if the text has one
unfoldable pub duration_form : List ℕ → List ℕ
duration_form text =
    if fits_front (codes "P0") text then codes "P0D"
    else seconds_front text ++ seconds_form (drop (length (seconds_front text)) text)

-- the text ends with `S`, as each but `P0D` does
abbrev pub ends_with_s : List ℕ → Bool
ends_with_s text = nat_lt 0 (length text) && (slice_index text (length text - 1) == byte "S")

-- no byte of it is a digit from 1 to 9
abbrev pub is_nought : ℕ → Bool
is_nought c = not (nat_le (byte "1") c && nat_le c (byte "9"))

unfoldable pub noughts_in_front : List ℕ → ℕ
noughts_in_front text = prefix_len is_nought text

-- why a text of the form is of no duration: it writes zero, if it has no digit but 0, or a duration that is too long
abbrev pub cause_of : List ℕ → ReadCause
cause_of text = if noughts_in_front text == length text then ZeroInSeconds else DurationOutOfRange

-- The error of a text of no duration. If the text has the form of one to its `S`, the error stands where the seconds begin.
unfoldable pub duration_error : List ℕ → ReadError
duration_error text =
    if ends_with_s text && (fitting (duration_form text) text == length text)
    then error_at (cause_of text) (length (seconds_front text))
    else form_error (duration_form text) text

-- known values: zero in seconds, more than 64 binary digits hold, no digit behind the point, and a small letter
duration_error-zero : duration_error (codes "-PT0.0S") ≡ error_at ZeroInSeconds 3
unfolding duration_error duration_form seconds_form whole_form end_form noughts_in_front leading_digits fitting
duration_error-zero = refl

duration_error-long : duration_error (codes "PT99999999999999999999S") ≡ error_at DurationOutOfRange 2
unfolding duration_error duration_form seconds_form whole_form end_form noughts_in_front leading_digits fitting
duration_error-long = refl

duration_error-point : duration_error (codes "PT1.S") ≡ error_at NotThisForm 4
unfolding duration_error duration_form seconds_form whole_form end_form noughts_in_front leading_digits fitting
duration_error-point = refl

duration_error-small : duration_error (codes "PT1s") ≡ error_at NotThisForm 3
unfolding duration_error duration_form seconds_form whole_form end_form noughts_in_front leading_digits fitting
duration_error-small = refl
