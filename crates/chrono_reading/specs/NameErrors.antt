-- Why a text names no weekday and no month: up to a byte it is as a name begins, and no further as any.
use Rattle.std.specs.Prelude.{◌≡◌, ◌==◌, ℕ, List, [], ◌∷◌, codes, nat_lt, if◌then◌else◌, refl}
use Rattle.std.specs.Char.{to_ascii_lowercase}
use Rattle.std.specs.List.{common_prefix_len}
use Rattle.chrono_datetime.specs.Month.{month_name}
use Rattle.chrono_datetime.specs.Names.{weekday_name}
use Rattle.chrono_datetime.specs.declared.Month.TheVariants.{January, February, March, April, May, June, July, September, October, November, December}
use Rattle.chrono_datetime.specs.declared.Weekday.TheVariants.{Mon, Tue, Wed, Thu, Fri, Sat, Sun}
use Rattle.chrono_reading.specs.DateErrors.{error_at}
use Rattle.chrono_reading.specs.declared.error.ReadCause.TheVariants.{UnknownName}
use Rattle.chrono_reading.specs.declared.error.ReadError.{ReadError}

-- how many bytes a name and a text begin with in common, in letters of any case
unfoldable pub in_common : List ℕ → List ℕ → ℕ
in_common name text = common_prefix_len (λ a b. to_ascii_lowercase a == to_ascii_lowercase b) name text

-- the greater of two numbers
unfoldable pub more_of : ℕ → ℕ → ℕ
more_of one other = if nat_lt one other then other else one

-- the most that a text has in common with one of these names
abbrev pub most_in_common : List (List ℕ) → List ℕ → ℕ
most_in_common [] text = 0
most_in_common (name ∷ []) text = in_common name text
most_in_common (name ∷ next ∷ names) text = more_of (in_common name text) (most_in_common (next ∷ names) text)

-- the error of a text that names no weekday: it begins behind what the text has in common with the best name
unfoldable pub weekday_error : List ℕ → ReadError
weekday_error text = error_at UnknownName (most_in_common
    (weekday_name Mon ∷ weekday_name Tue ∷ weekday_name Wed ∷ weekday_name Thu ∷ weekday_name Fri ∷ weekday_name Sat ∷ weekday_name Sun ∷ []) text)

-- the error of a text that names no month: it begins behind what the text has in common with the best name
unfoldable pub month_error : List ℕ → ReadError
month_error text = error_at UnknownName (most_in_common
    (month_name January ∷ month_name February ∷ month_name March ∷ month_name April ∷ month_name May ∷ month_name June ∷ month_name July ∷ codes "August"
    ∷ month_name September ∷ month_name October ∷ month_name November ∷ month_name December ∷ []) text)

-- known values: a letter that no name has there, one too many, and a name cut short
weekday_error-letter : weekday_error (codes "Fryday") ≡ error_at UnknownName 2
unfolding weekday_error in_common more_of
weekday_error-letter = refl

month_error-four : month_error (codes "Febr.") ≡ error_at UnknownName 4
unfolding month_error in_common more_of
month_error-four = refl

month_error-short : month_error (codes "sE") ≡ error_at UnknownName 2
unfolding month_error in_common more_of
month_error-short = refl
