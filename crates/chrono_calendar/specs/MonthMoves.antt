-- Moves of a day by whole months, later or earlier, and the laws between them.
use Rattle.std.specs.Prelude.{◌≡◌, ℕ, ◌+◌, ◌-◌, ◌≤◌, ◌<◌, min, if◌then◌else◌, ℤ, pos, ◌+ℤ◌, ◌-ℤ◌, ◌*ℤ◌, ◌≤ℤ◌, ◌<ℤ◌, unsigned_abs, Option, Some, None, IfSome, IsSomeAnd}
use Rattle.std.specs.Int.{int_div_euclid, int_rem_euclid}
use Rattle.chrono_units.specs.Years.{month_length, is_year}
use Rattle.chrono_calendar.specs.Days.{day_number_of_ymd, year_of, month_of, day_of}

-- the months before the month m of the year y, counted from January of year 0
abbrev pub month_index : ℤ → ℕ → ℤ
month_index y m = pos 12 *ℤ y +ℤ pos (m - 1)

-- the year of the month with that index
abbrev pub year_of_month_index : ℤ → ℤ
year_of_month_index i = int_div_euclid i (pos 12)

-- and the month, from 1 for January
abbrev pub month_of_month_index : ℤ → ℕ
month_of_month_index i = unsigned_abs (int_rem_euclid i (pos 12)) + 1

-- the day d of the month with the index i, or the last day of that month if it is shorter
abbrev pub day_number_in_month : ℤ → ℕ → ℤ
day_number_in_month i d =
    let y = year_of_month_index i in
    let m = month_of_month_index i in
    day_number_of_ymd y m (min d (month_length y m))

-- the index of the month of the day n
abbrev pub month_index_of : ℤ → ℤ
month_index_of n = month_index (year_of n) (month_of n)

-- the days of the month in which the day n lies
abbrev pub month_length_of : ℤ → ℕ
month_length_of n = month_length (year_of n) (month_of n)

-- the first day of the day n's month
abbrev pub month_first_of : ℤ → ℤ
month_first_of n = n -ℤ pos (day_of n - 1)

-- the last day of the day n's month
abbrev pub month_last_of : ℤ → ℤ
month_last_of n = n +ℤ pos (month_length_of n - day_of n)

-- the day n moved by k months: the same day of the month k months later, or the last day of that month if it is shorter.
-- None if the library does not have the year of that month
unfoldable pub month_move : ℤ → ℤ → Option ℤ
month_move n k =
    let target = month_index_of n +ℤ k in
    if is_year (year_of_month_index target) then Some (day_number_in_month target (day_of n)) else None

-- the days n and m lie in the same month of the same year
abbrev pub InSameMonth : ℤ → ℤ → Type 0
InSameMonth n m = (year_of n ≡ year_of m) × (month_of n ≡ month_of m)

-- e is the day n moved by k months: no day from n on comes to lie before e by the same move
abbrev pub KeepsOrder : ℤ → ℤ → ℤ → Type 0
KeepsOrder n k e = (later : ℤ) → n ≤ℤ later → IfSome (month_move later k) (λ moved. e ≤ℤ moved)

-- the day back stands in the month of n: on n if the month of e has that day of the month, else one to three days before n
pub record IsMonthMoveBack (n e back : ℤ) : Type 0 where
  pub month : InSameMonth back n
  pub same_day : day_of n ≤ month_length_of e → back ≡ n
  pub shorter : month_length_of e < day_of n → ((n -ℤ pos 3) ≤ℤ back) × (back <ℤ n)

-- e moved by k comes to the day n, or before it if e's month is shorter
abbrev pub ComesBack : ℤ → ℤ → ℤ → Type 0
ComesBack n k e = IsSomeAnd (month_move e k) (λ back. IsMonthMoveBack n e back)

-- e is the day n moved by k months. Moved on by any number of months more, e comes to a day of the month in which one move
-- of n by the sum ends. That day is not later than the end of the one move
abbrev pub MonthMovesAddUp : ℤ → ℤ → ℤ → Type 0
MonthMovesAddUp n k e = (more : ℤ) → IfSome (month_move e more) (λ twice.
    IsSomeAnd (month_move n (k +ℤ more)) (λ once. InSameMonth twice once × (twice ≤ℤ once)))

-- e is the day n moved by i times k months: moved by more such steps, n comes to a later day
abbrev pub LaterMultiplesAreLater : ℤ → ℤ → ℕ → ℤ → Type 0
LaterMultiplesAreLater n k i e =
    (j : ℕ) → i < j → IfSome (month_move n (k *ℤ pos j)) (λ later. e <ℤ later)
