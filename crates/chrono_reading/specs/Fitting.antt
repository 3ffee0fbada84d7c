-- Forms of texts, and how far a text goes on as a form does.
use Rattle.std.specs.Prelude.{◌≡◌, ◌==◌, ◌-◌, ℕ, Bool, List, ◌++◌, length, drop, replicate, nat_le, ◌&&◌, if◌then◌else◌, codes, refl}
use Rattle.std.specs.Char.{is_ascii_digit}
use Rattle.std.specs.List.{common_prefix_len, prefix_len}
use Rattle.std.specs.Str.{byte}
use Rattle.chrono_reading.specs.declared.error.ReadCause.TheVariants.{NotThisForm}
use Rattle.chrono_reading.specs.declared.error.ReadError.{ReadError}

-- In a form, `d` stands for any digit and `n` for a digit from 1 to 9. Every other byte stands for itself.
abbrev pub stands_for : ℕ → ℕ → Bool
stands_for sign c =
    if sign == byte "d" then is_ascii_digit c
    else (if sign == byte "n" then is_ascii_digit c && nat_le (byte "1") c else c == sign)

-- how many bytes of the text are as the form says, up to the first that is not
unfoldable pub fitting : List ℕ → List ℕ → ℕ
fitting form text = common_prefix_len stands_for form text

-- the text begins as the form says
abbrev pub fits_front : List ℕ → List ℕ → Bool
fits_front form text = fitting form text == length form

-- the whole text is as the form says
pub record IsOfForm (form text : List ℕ) : Type 0 where
  pub fits_front : fitting form text ≡ length form
  pub ends : length text ≡ length form

-- how many digits the text begins with
unfoldable pub leading_digits : List ℕ → ℕ
leading_digits text = prefix_len is_ascii_digit text

-- A year has four digits and no sign, or a sign. Behind `+` are five digits or more, and behind `-` four or more. More than four digits do not
-- begin with 0, and not all of four are 0. So these are its first bytes, and how many digits follow them, as long as digits follow.
abbrev pub year_front : List ℕ → List ℕ
year_front text =
    if fits_front (codes "-000") text then codes "-000n"
    else (if fits_front (codes "-0") text then codes "-0ddd"
    else (if fits_front (codes "-") text then codes "-nddd"
    else (if fits_front (codes "+") text then codes "+ndddd"
    else codes "dddd")))

abbrev pub year_more : List ℕ → ℕ
year_more text =
    if fits_front (codes "-0") text then 0
    else (if fits_front (codes "-") text then leading_digits (drop 1 text) - 4
    else (if fits_front (codes "+") text then leading_digits (drop 1 text) - 5
    else 0))

-- the form of the year that the text begins with
unfoldable pub year_form : List ℕ → List ℕ
year_form text = year_front text ++ replicate (year_more text) (byte "d")

-- the text is of no such form: the error stands at the first byte that is not as the form says, or at the end
abbrev pub form_error : List ℕ → List ℕ → ReadError
form_error form text = record { cause = NotThisForm; byte = fitting form text }

-- known values: a form of a year each, and where texts leave them
year_form-plain : year_form (codes "2024-02-29") ≡ codes "dddd"
unfolding year_form leading_digits fitting
year_form-plain = refl

year_form-five : year_form (codes "+12345-02-29") ≡ codes "+ndddd"
unfolding year_form leading_digits fitting
year_form-five = refl

year_form-six : year_form (codes "-262143-01-01") ≡ codes "-nddddd"
unfolding year_form leading_digits fitting
year_form-six = refl

year_form-zeros : year_form (codes "-0001-12-31") ≡ codes "-000n"
unfolding year_form leading_digits fitting
year_form-zeros = refl

fitting-short : fitting (codes "dddd-dd-dd") (codes "2024-2-29") ≡ 6
unfolding fitting
fitting-short = refl

fitting-whole : fitting (codes "dddd-dd-dd") (codes "2024-02-29") ≡ 10
unfolding fitting
fitting-whole = refl
