-- The texts of dates in layouts of fixed width, and what stands in a column for a date and for such a text.
use Rattle.std.specs.Prelude.{◌≡◌, ◌≢◌, ◌↔◌, ℕ, ◌<◌, ℤ, pos, if◌then◌else◌, List, [], ◌∷◌, ◌++◌, codes, length, replicate, slice_index, slice_index_or, Option, Some, None}
use Rattle.std.specs.Option.{option_and_then}
use Rattle.chrono_calendar.specs.Days.{date_of_day, date_of_ymd, year_of, month_of, day_of}
use Rattle.chrono_text.specs.Text.{calendar_text, two_digits, year_text}
use Rattle.chrono_columns.specs.Columns.{has_four_digits, number_entry}
use Rattle.pattern_columns.specs.declared.layout.DateLayout.{DateLayout}
use Rattle.pattern_columns.specs.declared.layout.DateOrder.{DateOrder}
use Rattle.pattern_columns.specs.declared.layout.DateOrder.TheVariants.{YearMonthDay, DayMonthYear, MonthDayYear}

-- the parts of a date's text in an order, with the separator s between them
abbrev pub ordered_text : DateOrder → ℕ → List ℕ → List ℕ → List ℕ → List ℕ
ordered_text YearMonthDay s year month day = year ++ (s ∷ (month ++ (s ∷ day)))
ordered_text DayMonthYear s year month day = day ++ (s ∷ (month ++ (s ∷ year)))
ordered_text MonthDayYear s year month day = month ++ (s ∷ (day ++ (s ∷ year)))

-- a year, a month and a day in a layout: `%Y`, `%m` and `%d` of chrono, where a year from 0 to 9999 has four digits
abbrev pub layout_text : DateLayout → ℤ → ℕ → ℕ → List ℕ
layout_text layout y m d = ordered_text layout.order layout.separator (year_text y) (two_digits m) (two_digits d)

-- the pattern of a layout, as strftime writes patterns
abbrev pub layout_pattern : DateLayout → List ℕ
layout_pattern layout = ordered_text layout.order layout.separator (codes "%Y") (codes "%m") (codes "%d")

-- a year, a month and a day with nothing between them: `%Y%m%d` of chrono (ISO 8601 basic format)
abbrev pub compact_text : ℤ → ℕ → ℕ → List ℕ
compact_text y m d = year_text y ++ (two_digits m ++ two_digits d)

-- a text of so many bytes, and for none as many zero bytes
abbrev pub text_or_zeros : ℕ → Option (List ℕ) → List ℕ
text_or_zeros size (Some text) = text
text_or_zeros size None = replicate size 0

-- what f writes for the year, the month and the day of the date n, if the year has four digits
unfoldable pub entry_by : ℕ → (ℤ → ℕ → ℕ → List ℕ) → ℤ → List ℕ
entry_by size f n = text_or_zeros size (option_and_then (λ d. if has_four_digits (year_of d) then Some (f (year_of d) (month_of d) (day_of d)) else None) (date_of_day n))

-- a text of the date n: what f writes for the year, the month and the day that name it
pub record IsTextBy (f : ℤ → ℕ → ℕ → List ℕ) (text : List ℕ) (n : ℤ) : Type 0 where
  pub year : ℤ
  pub month : ℕ
  pub day : ℕ
  pub names : date_of_ymd year month day ≡ Some n
  pub written : f year month day ≡ text

-- the date whose text it is by f, and for a text of no date what stands for none
pub record IsEntryBy (f : ℤ → ℕ → ℕ → List ℕ) (text : List ℕ) (n : ℤ) : Type 0 where
  pub read : n ≢ number_entry None → IsTextBy f text n
  pub every : (m : ℤ) → IsTextBy f text m → n ≡ m

-- each date is the one whose text stands at its place
abbrev pub AreReadBy : (ℤ → ℕ → ℕ → List ℕ) → List (List ℕ) → List ℤ → Type 0
AreReadBy f texts dates = (i : ℕ) → i < length texts → IsEntryBy f (slice_index_or texts i []) (slice_index_or dates i (pos 0))

-- a text by f and an ISO text that name the same
abbrev pub NamesSame : (ℤ → ℕ → ℕ → List ℕ) → List ℕ → List ℕ → Type 0
NamesSame f text iso = (y : ℤ) → (m d : ℕ) → (calendar_text y m d ≡ iso) ↔ (f y m d ≡ text)

-- what f writes for a year, a month and a day, if the year has four digits
abbrev pub name_text_by : ℕ → (ℤ → ℕ → ℕ → List ℕ) → ℤ → ℕ → ℕ → List ℕ
name_text_by size f y m d = text_or_zeros size (if has_four_digits y then Some (f y m d) else None)

-- each text is that of the year, the month and the day at its place
abbrev pub AreNameTexts : ℕ → (ℤ → ℕ → ℕ → List ℕ) → List ℤ → List ℕ → List ℕ → List (List ℕ) → Type 0
AreNameTexts size f years months days texts =
    (i : ℕ) → i < length years
    → slice_index_or texts i [] ≡ name_text_by size f (slice_index_or years i (pos 0)) (slice_index months i) (slice_index days i)

abbrev pub AreLaidOut : DateLayout → List ℤ → List ℕ → List ℕ → List (List ℕ) → Type 0
AreLaidOut layout years months days texts = AreNameTexts 10 (layout_text layout) years months days texts
