-- How texts fall into the parts that their errors go by.
use Rattle.std.proofs.Common.{[], ◌≡◌, ◌+◌, ◌<◌, ◌≤◌, ℕ, true, false, List, ◌∷◌, ◌++◌, length, take, drop, replicate, codes, append_assoc, refl, sym, ap, ◌∙◌, arith}
use Rattle.std.specs.Prelude.{if◌then◌else◌}
use Rattle.std.proofs.lemmas.Bool.Decides.{nat_tests}
use Rattle.std.proofs.lemmas.List.{append-nil}
use Rattle.chrono_text.specs.Fractions.{IsFractionText}
use Rattle.chrono_text.specs.Text.{all_digits, two_digits}
use Rattle.chrono_reading.specs.DurationErrors.{duration_form, seconds_form, seconds_front, whole_form, whole_front, whole_more}
use Rattle.chrono_reading.specs.Fitting.{IsOfForm, fits_front, fitting, leading_digits}
use Rattle.chrono_reading.specs.TimeErrors.{HasTimeParts, places_of_form, time_form}
use Rattle.chrono_reading.proofs.DateLemmas.{joined}

-- a text is a year and what stands behind it
pub date-joined : (year text : List ℕ) (m d k : ℕ) → year ≡ take k text → 45 ∷ two_digits m ++ 45 ∷ two_digits d ≡ drop k text
    → year ++ codes "-" ++ two_digits m ++ codes "-" ++ two_digits d ≡ text
date-joined year text m d k front end = let parts = joined year (45 ∷ two_digits m ++ 45 ∷ two_digits d) text k front end in simp append_assoc parts

pub ordinal-joined : (year text : List ℕ) (o k : ℕ) → year ≡ take k text → 45 ∷ all_digits 3 o ≡ drop k text → year ++ codes "-" ++ all_digits 3 o ≡ text
ordinal-joined year text o k front end = let parts = joined year (45 ∷ all_digits 3 o) text k front end in simp append_assoc parts

pub week-joined : (year text : List ℕ) (w d k : ℕ) → year ≡ take k text → 45 ∷ 87 ∷ two_digits w ++ 45 ∷ (48 + d) ∷ [] ≡ drop k text
    → year ++ codes "-W" ++ two_digits w ++ codes "-" ++ (48 + d) ∷ [] ≡ text
week-joined year text w d k front end = let parts = joined year (45 ∷ 87 ∷ two_digits w ++ 45 ∷ (48 + d) ∷ []) text k front end in simp append_assoc parts

-- a text is of a form, if it fits it and is as long
pub of_form : (form text : List ℕ) (len size : ℕ) → len ≡ fitting (form ++ []) text → size ≡ length form → len ≡ length text → size ≡ len → IsOfForm form text
of_form form text len size fits long ends same =
    let whole : len ≡ fitting form text = fits ∙ ap (λ (f : List ℕ). fitting f text) (append-nil form) in record { fits_front = omega arith; ends = omega arith }

pub from_form : (form text : List ℕ) (len size : ℕ) → len ≡ fitting (form ++ []) text → size ≡ length form → IsOfForm form text → (len ≡ length text) × (size ≡ len)
from_form form text len size fits long is =
    let whole : len ≡ fitting form text = fits ∙ ap (λ (f : List ℕ). fitting f text) (append-nil form) in (omega (arith, is.fits_front, is.ends), omega (arith, is.fits_front, is.ends))

-- the two forms of a time
pub time_form-short : (text : List ℕ) → length text ≤ 8 → time_form text ≡ codes "dd:dd:dd"
unfolding time_form
time_form-short text short = grind (arith, nat_tests)

pub time_form-long : (text : List ℕ) (places : ℕ) → 8 < length text → places ≡ places_of_form (leading_digits (drop 9 text))
    → time_form text ≡ codes "dd:dd:dd." ++ replicate places 100 ++ []
unfolding time_form
time_form-long text places long is =
    let plain : time_form text ≡ codes "dd:dd:dd." ++ replicate (places_of_form (leading_digits (drop 9 text))) 100 = grind (arith, nat_tests) in
    plain ∙ ap (λ k. codes "dd:dd:dd." ++ replicate k 100) (sym is) ∙ sym (append-nil _)

-- the form of whole seconds in pieces, and those of durations
pub whole_form-is : (text front : List ℕ) (more : ℕ) → front ≡ whole_front text → more ≡ whole_more text → front ++ replicate more 100 ++ [] ≡ whole_form text
unfolding whole_form
whole_form-is text front more e f = append-nil _ ∙ rw (e, f) refl

pub duration_form-zero : (text : List ℕ) → fits_front (codes "P0") text ≡ true → duration_form text ≡ codes "P0D"
unfolding duration_form
duration_form-zero text is = ap (λ t. if t then codes "P0D" else seconds_front text ++ seconds_form (drop (length (seconds_front text)) text)) is

pub duration_form-other : (text : List ℕ) → fits_front (codes "P0") text ≡ false → duration_form text ≡ seconds_front text ++ seconds_form (drop (length (seconds_front text)) text)
unfolding duration_form
duration_form-other text is = ap (λ t. if t then codes "P0D" else seconds_front text ++ seconds_form (drop (length (seconds_front text)) text)) is

-- the clock and the fraction of a text that has the form of a time
pub parts-clock : (text : List ℕ) (h m s : ℕ) → HasTimeParts text h m s → two_digits h ++ 58 ∷ two_digits m ++ 58 ∷ two_digits s ≡ take 8 text
parts-clock text h m s is = ap (take 8) is.written

pub parts-fraction : (text : List ℕ) (h m s : ℕ) (is : HasTimeParts text h m s) → IsFractionText (drop 8 text) is.nanos
parts-fraction text h m s is = rw (ap (drop 8) is.written) at is.fraction_written

pub time-joined : (text fraction : List ℕ) (h m s : ℕ) → two_digits h ++ 58 ∷ two_digits m ++ 58 ∷ two_digits s ≡ take 8 text → fraction ≡ drop 8 text
    → two_digits h ++ codes ":" ++ two_digits m ++ codes ":" ++ two_digits s ++ fraction ≡ text
time-joined text fraction h m s front end = joined (two_digits h ++ 58 ∷ two_digits m ++ 58 ∷ two_digits s) fraction text 8 front end
