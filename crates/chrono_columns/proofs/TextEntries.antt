-- What stands in a column for the text of a date, and for a text.
use Rattle.std.proofs.Common.{◌≡◌, ◌∙◌, ℕ, ◌+◌, ◌<◌, ℤ, pos, neg_ℤ, ◌≤ℤ◌, true, false, cond, List, [], length, replicate, get_or, slice_set, Option, Some, None, inl, inr, ap, sym, refl, arith}
use Rattle.std.proofs.lemmas.Bool.{cases_lt}
use Rattle.std.proofs.lemmas.Int.{ints}
use Rattle.std.proofs.lemmas.List.{get_or-set_same, get_or-set_other}
use Rattle.std.specs.Option.{option_and_then, option_map}
use Rattle.chrono_calendar.specs.Days.{date_of_day, date_of_ymd, year_of, month_of, day_of}
use Rattle.chrono_calendar.proofs.Months.{month_length_in-bounds}
use Rattle.chrono_calendar.proofs.NamedDates.{calendar_name-exists, date_of_ymd-name}
use Rattle.chrono_units.specs.Years.{is_leap_year}
use Rattle.chrono_text.specs.Text.{calendar_text}
use Rattle.chrono_datetime.specs.DateText.{date_text}
use Rattle.chrono_reading.specs.DateTexts.{IsDateText}
use Rattle.chrono_columns.specs.Columns.{IsTextEntry, bytes_entry, count_entry, number_entry, has_four_digits, name_text_entry, text_entry, year_entry, month_entry, day_entry}

pub four_digits : (y : ℤ) → has_four_digits y ≡ true → (pos 0 ≤ℤ y) × (y ≤ℤ pos 9_999)
four_digits y e = (grind (arith, ints), grind (arith, ints))

-- the text of a date, if its year has four digits
if_short : ℤ → Option (List ℕ)
if_short d = cond (has_four_digits (year_of d)) (Some (date_text d)) None

-- the text of a name, by whether the year has four digits
pub name-short : (y z : ℤ) (m k d j : ℕ) → z ≡ y → k ≡ m → j ≡ d → has_four_digits y ≡ true → calendar_text z k j ≡ name_text_entry y m d
name-short y z m k d j year month day short = rw (year, month, day) (ap (λ b. bytes_entry (cond b (Some (calendar_text y m d)) None)) (sym short))

pub name-long : (y : ℤ) (m d : ℕ) → has_four_digits y ≡ false → replicate 10 0 ≡ name_text_entry y m d
name-long y m d long = ap (λ b. bytes_entry (cond b (Some (calendar_text y m d)) None)) (sym long)

-- the text of a date is that of its names
of_names : (o : Option ℤ) → name_text_entry (number_entry (option_map year_of o)) (count_entry (option_map month_of o)) (count_entry (option_map day_of o)) ≡ bytes_entry (option_and_then if_short o)
unfolding if_short
of_names None = refl
of_names (Some n) = refl

pub text-named : (n : ℤ) → name_text_entry (year_entry n) (month_entry n) (day_entry n) ≡ text_entry n
unfolding text_entry year_entry month_entry day_entry if_short
text-named n = of_names (date_of_day n)

-- the text of a date that is known by its name
same_names : (y z : ℤ) (m k d j : ℕ) → y ≡ z → m ≡ k → d ≡ j → name_text_entry y m d ≡ name_text_entry z k j
same_names y z m k d j year month day = rw (year, month, day) refl

pub text-of-name : (n y : ℤ) (m d : ℕ) → date_of_day n ≡ Some n → date_of_ymd y m d ≡ Some n → name_text_entry y m d ≡ text_entry n
unfolding text_entry if_short
text-of-name n y m d there named =
    let name = date_of_ymd-name n y m d named in
    same_names y (year_of n) m (month_of n) d (day_of n) name.0 name.1 name.2
    ∙ ap (λ o. bytes_entry (option_and_then if_short o)) (sym there)

-- no month and no day of a date has three digits
small : (o : Option ℤ) → (count_entry (option_map month_of o) < 100) × (count_entry (option_map day_of o) < 100)
small None = (omega arith, omega arith)
small (Some n) = let name = calendar_name-exists n in (omega (arith, name.0), omega (arith, name.1, month_length_in-bounds (is_leap_year (year_of n)) (month_of n)))

pub small-named : (n : ℤ) → (month_entry n < 100) × (day_entry n < 100)
unfolding month_entry day_entry
small-named n = small (date_of_day n)

-- a date that was found is the entry of its text, and where none was found it is what stands for none
pub entry-found : (text : List ℕ) (n z : ℤ) → z ≡ n → IsDateText text n → ((m : ℤ) → IsDateText text m → Some n ≡ Some m) → IsTextEntry text z
entry-found text n z e is only = record {
  read = λ _. rw e is;
  every = λ m h. let same = only m h in cc;
}

pub entry-missed : (text : List ℕ) → ((m : ℤ) → IsDateText text m → None ≡ Some m) → IsTextEntry text (neg_ℤ (pos 2_147_483_648))
entry-missed text none = record {
  read = λ is. absurd (is refl);
  every = λ m h. let e = none m h in absurd cc;
}

-- one text more is read
pub more-read : (texts : List (List ℕ)) (out : List ℤ) (i : ℕ) (z : ℤ) → i < length out → ((k : ℕ) → k < i → IsTextEntry (get_or texts k []) (get_or out k (pos 0)))
    → IsTextEntry (get_or texts i []) z → (k : ℕ) → k < i + 1 → IsTextEntry (get_or texts k []) (get_or (slice_set out i z) k (pos 0))
more-read texts out i z within before now k below = elim (cases_lt k i) [
  | inl less ↦ rw (get_or-set_other out i k z (pos 0) (omega (arith, less))) (before k less)
  | inr more ↦ let same : k ≡ i = omega (arith, more, below) in rw (same, get_or-set_same out i z (pos 0) within) now
]
