-- What stands in a column for the text of a date, and for such a text, by what stands there for the ISO text.
use Rattle.std.proofs.Common.{◌≡◌, ℕ, ℤ, Bool, true, false, cond, List, replicate, Option, Some, None, ap, sym, refl, ◌∙◌}
use Rattle.std.specs.Option.{option_and_then, option_map}
use Rattle.chrono_calendar.specs.Days.{date_of_day, date_of_ymd, year_of, month_of, day_of}
use Rattle.chrono_calendar.proofs.NamedDates.{date_of_ymd-name}
use Rattle.chrono_text.specs.Text.{calendar_text}
use Rattle.chrono_columns.specs.Columns.{IsTextEntry, bytes_entry, count_entry, day_entry, has_four_digits, month_entry, name_text_entry, number_entry, year_entry}
use Rattle.pattern_columns.specs.Layouts.{IsEntryBy, NamesSame, entry_by, name_text_by, text_or_zeros}

-- the text of a date, if its year has four digits
if_short : (ℤ → ℕ → ℕ → List ℕ) → ℤ → Option (List ℕ)
if_short f d = cond (has_four_digits (year_of d)) (Some (f (year_of d) (month_of d) (day_of d))) None

by_test : (b : Bool) (size : ℕ) (iso other t r : List ℕ) → t ≡ bytes_entry (cond b (Some iso) None) → (iso ≡ t → other ≡ r) → (t ≡ replicate 10 0 → r ≡ replicate size 0) → r ≡ text_or_zeros size (cond b (Some other) None)
by_test true size iso other t r e date none = sym (date (sym e))
by_test false size iso other t r e date none = none e

-- the text of a name by its ISO text
pub name-rewritten : (size : ℕ) (f : ℤ → ℕ → ℕ → List ℕ) (y : ℤ) (m d : ℕ) (t r : List ℕ) → t ≡ name_text_entry y m d
    → ((z : ℤ) → (k : ℕ) → (j : ℕ) → calendar_text z k j ≡ t → f z k j ≡ r) → (t ≡ replicate 10 0 → r ≡ replicate size 0) → r ≡ name_text_by size f y m d
name-rewritten size f y m d t r e date none = by_test (has_four_digits y) size (calendar_text y m d) (f y m d) t r e (date y m d) none

-- the text of a date is that of its names
of_names : (size : ℕ) (f : ℤ → ℕ → ℕ → List ℕ) (o : Option ℤ)
    → name_text_by size f (number_entry (option_map year_of o)) (count_entry (option_map month_of o)) (count_entry (option_map day_of o)) ≡ text_or_zeros size (option_and_then (if_short f) o)
unfolding if_short
of_names size f None = refl
of_names size f (Some n) = refl

pub entry-named : (size : ℕ) (f : ℤ → ℕ → ℕ → List ℕ) (n : ℤ) → name_text_by size f (year_entry n) (month_entry n) (day_entry n) ≡ entry_by size f n
unfolding entry_by year_entry month_entry day_entry if_short
entry-named size f n = of_names size f (date_of_day n)

-- the date of the ISO text is that of the other text
pub entry-renamed : (f : ℤ → ℕ → ℕ → List ℕ) (t iso : List ℕ) (z : ℤ) → NamesSame f t iso → IsTextEntry iso z → IsEntryBy f t z
entry-renamed f t iso z same p = record {
  read = λ some.
      let is = p.read some in
      record { year = is.year; month = is.month; day = is.day; names = is.names; written = (same is.year is.month is.day).0 is.written };
  every = λ n is. p.every n (record { year = is.year; month = is.month; day = is.day; names = is.names; written = (same is.year is.month is.day).1 is.written });
}

of_name : (size : ℕ) (f : ℤ → ℕ → ℕ → List ℕ) (y z : ℤ) (m k d j : ℕ) → y ≡ z → m ≡ k → d ≡ j
    → text_or_zeros size (cond (has_four_digits y) (Some (f y m d)) None) ≡ text_or_zeros size (cond (has_four_digits z) (Some (f z k j)) None)
of_name size f y z m k d j year month day = rw (year, month, day) refl

-- the entry of a date that is known by its name
pub entry-of-name : (size : ℕ) (f : ℤ → ℕ → ℕ → List ℕ) (n y : ℤ) (m d : ℕ) → date_of_day n ≡ Some n → date_of_ymd y m d ≡ Some n
    → entry_by size f n ≡ text_or_zeros size (cond (has_four_digits y) (Some (f y m d)) None)
unfolding entry_by if_short
entry-of-name size f n y m d there named =
    let name = date_of_ymd-name n y m d named in
    ap (λ o. text_or_zeros size (option_and_then (if_short f) o)) there
    ∙ sym (of_name size f y (year_of n) m (month_of n) d (day_of n) name.0 name.1 name.2)
