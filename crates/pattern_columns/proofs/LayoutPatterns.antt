-- The text of a date in a layout is what the pattern of the layout writes.
use Rattle.std.proofs.Common.{◌≡◌, ◌≢◌, ℕ, ◌==◌, false, List, [], ◌∷◌, ◌++◌, append-nil, codes, ℤ, pos, ap, ◌∙◌}
use Rattle.std.proofs.lemmas.Bool.{ne_eqb}
use Rattle.std.specs.Prelude.{◌≤ℤ◌}
use Rattle.chrono_datetime.specs.Days.{day_of, month_of, year_of}
use Rattle.chrono_datetime.specs.Moment.{Moment, moment}
use Rattle.chrono_datetime.specs.Time.{TimeOfDay}
use Rattle.chrono_pattern.proofs.DateTexts.{byte_front, day_front, month_front, no_front, year_front}
use Rattle.chrono_pattern.specs.Patterns.{pattern_text, text_at_offset}
use Rattle.chrono_text.specs.Text.{two_digits, year_text}
use Rattle.pattern_columns.specs.Layouts.{compact_text, layout_pattern, layout_text, ordered_text}
use Rattle.pattern_columns.specs.declared.layout.DateLayout.{DateLayout}
use Rattle.pattern_columns.specs.declared.layout.DateOrder.{DateOrder}
use Rattle.pattern_columns.specs.declared.layout.DateOrder.TheVariants.{YearMonthDay, DayMonthYear, MonthDayYear}

-- the bytes of a pattern from a place on, and their text
abbrev text_of : List ℕ → Moment → List ℕ
text_of bytes m = text_at_offset bytes m (pos 0)

-- a piece is the last
last : (piece : List ℕ) (m : Moment) → piece ++ text_of [] m ≡ piece
last piece m = ap (λ (l : List ℕ). piece ++ l) (no_front m (pos 0)) ∙ append-nil piece

-- three pieces with a byte between each two
joined : (s : ℕ) (a b c : List ℕ) (m : Moment) (first second third : List ℕ) → (s == 37) ≡ false
    → ((rest : List ℕ) → text_of (a ++ rest) m ≡ first ++ text_of rest m)
    → ((rest : List ℕ) → text_of (b ++ rest) m ≡ second ++ text_of rest m)
    → text_of c m ≡ third
    → text_of (a ++ (s ∷ (b ++ (s ∷ c)))) m ≡ first ++ (s ∷ (second ++ (s ∷ third)))
joined s a b c m first second third not one two three =
    one (s ∷ (b ++ (s ∷ c)))
    ∙ ap (λ (l : List ℕ). first ++ l) (byte_front s (b ++ (s ∷ c)) m (pos 0) not)
    ∙ ap (λ (l : List ℕ). first ++ (s ∷ l)) (two (s ∷ c))
    ∙ ap (λ (l : List ℕ). first ++ (s ∷ (second ++ l))) (byte_front s c m (pos 0) not)
    ∙ ap (λ (l : List ℕ). first ++ (s ∷ (second ++ (s ∷ l)))) three

by_order : (order : DateOrder) (s : ℕ) (m : Moment) → (s == 37) ≡ false → pos 0 ≤ℤ year_of m.date → year_of m.date ≤ℤ pos 9_999
    → text_of (ordered_text order s (codes "%Y") (codes "%m") (codes "%d")) m
    ≡ ordered_text order s (year_text (year_of m.date)) (two_digits (month_of m.date)) (two_digits (day_of m.date))
by_order YearMonthDay s m not least most =
    joined s (codes "%Y") (codes "%m") (codes "%d") m (year_text (year_of m.date)) (two_digits (month_of m.date)) (two_digits (day_of m.date)) not
    (λ rest. year_front rest m (pos 0) least most) (λ rest. month_front rest m (pos 0)) (day_front [] m (pos 0) ∙ last (two_digits (day_of m.date)) m)
by_order DayMonthYear s m not least most =
    joined s (codes "%d") (codes "%m") (codes "%Y") m (two_digits (day_of m.date)) (two_digits (month_of m.date)) (year_text (year_of m.date)) not
    (λ rest. day_front rest m (pos 0)) (λ rest. month_front rest m (pos 0)) (year_front [] m (pos 0) least most ∙ last (year_text (year_of m.date)) m)
by_order MonthDayYear s m not least most =
    joined s (codes "%m") (codes "%d") (codes "%Y") m (two_digits (month_of m.date)) (two_digits (day_of m.date)) (year_text (year_of m.date)) not
    (λ rest. month_front rest m (pos 0)) (λ rest. day_front rest m (pos 0)) (year_front [] m (pos 0) least most ∙ last (year_text (year_of m.date)) m)

pub layout_written : (layout : DateLayout) (n : ℤ) (t : TimeOfDay) → layout.separator ≢ 37 → pos 0 ≤ℤ year_of n → year_of n ≤ℤ pos 9_999
    → pattern_text (layout_pattern layout) (moment n t) ≡ layout_text layout (year_of n) (month_of n) (day_of n)
layout_written layout n t other least most = by_order layout.order layout.separator (moment n t) (ne_eqb layout.separator 37 other) least most

pub compact_written : (n : ℤ) (t : TimeOfDay) → pos 0 ≤ℤ year_of n → year_of n ≤ℤ pos 9_999
    → pattern_text (codes "%Y%m%d") (moment n t) ≡ compact_text (year_of n) (month_of n) (day_of n)
compact_written n t least most =
    let m = moment n t in
    year_front (codes "%m%d") m (pos 0) least most
    ∙ ap (λ (l : List ℕ). year_text (year_of n) ++ l) (month_front (codes "%d") m (pos 0))
    ∙ ap (λ (l : List ℕ). year_text (year_of n) ++ (two_digits (month_of n) ++ l)) (day_front [] m (pos 0) ∙ last (two_digits (day_of n)) m)
