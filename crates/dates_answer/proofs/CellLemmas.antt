-- Which day stands in a cell.
use Rattle.dates_answer.proofs.Ground.{◌≡◌, ℕ, true, false, ◌&&◌, Option, None, is_some, sym, arith, ℤ, pos, ◌+ℤ◌, ◌≤ℤ◌, int_le, false≢true, by_lt_z, ints, SomeIff, month_of, year_of, month_first_of, month_last_of, by_test, signed}
use Rattle.chrono_units.specs.Years.{is_leap_year}
use Rattle.chrono_calendar.proofs.MonthDays.{day_of-bounds}
use Rattle.chrono_calendar.proofs.Months.{month_length_in-bounds}
use Rattle.chrono_datetime.specs.declared.Weekday.{Weekday}
use Rattle.dates_answer.specs.Sheets.{IsEmptyRow, day_of_cell, sheet_day}

-- a day is that of a cell exactly if it lies in the month
pub sheet_day-SomeIff : (o : Option ℤ) (n : ℤ) (start : Weekday) (row column : ℕ)
    → SomeIff o ((month_first_of n ≤ℤ day_of_cell n start row column) × (day_of_cell n start row column ≤ℤ month_last_of n)) (day_of_cell n start row column) → o ≡ sheet_day n start row column
unfolding sheet_day
sheet_day-SomeIff o n start row column given =
    let day = day_of_cell n start row column in
    by_test (int_le (month_first_of n) day && int_le day (month_last_of n)) o day ((month_first_of n ≤ℤ day) × (day ≤ℤ month_last_of n)) (λ e. (grind (arith, ints), grind (arith, ints))) (λ h. grind (arith, ints, h.0, h.1)) given

-- an empty cell's day does not lie in the month
outside : (n : ℤ) (start : Weekday) (row column : ℕ) → is_some (sheet_day n start row column) ≡ false → month_first_of n ≤ℤ day_of_cell n start row column → day_of_cell n start row column ≤ℤ month_last_of n → ⊥
unfolding sheet_day
outside n start row column e low high =
    let day = day_of_cell n start row column in
    let lies : (int_le (month_first_of n) day && int_le day (month_last_of n)) ≡ true = grind (arith, ints, low, high) in false≢true (sym (rw lies at e))

-- a month has more days than a row
long_month : (n : ℤ) → (month_first_of n +ℤ pos 6) ≤ℤ month_last_of n
long_month n = omega (arith, signed, day_of-bounds n, month_length_in-bounds (is_leap_year (year_of n)) (month_of n))

-- so a row is empty if its first cell and its last are
pub ends_empty : (n : ℤ) (start : Weekday) (row : ℕ) → is_some (sheet_day n start row 0) ≡ false → is_some (sheet_day n start row 6) ≡ false → IsEmptyRow n start row
ends_empty n start row first last = λ column lt. sym (sheet_day-SomeIff None n start row column (λ lies.
    by_lt_z (day_of_cell n start row 0) (month_first_of n)
    (λ before. outside n start row 6 last (omega (arith, signed, lies.0, lt)) (omega (arith, signed, before, long_month n)))
    (λ on. outside n start row 0 first (omega (arith, signed, on)) (omega (arith, signed, lies.1)))))
