-- Recurrence: the days that pass a test, the first date on given weekdays, and the dates that lie every so many months from one.
use Rattle.std.specs.Prelude.{◌≡◌, ℕ, zero, suc, ◌+◌, Bool, true, false, if◌then◌else◌, ℤ, pos, neg_ℤ, ◌+ℤ◌, ◌-ℤ◌, ◌*ℤ◌, ◌≤ℤ◌, ◌<ℤ◌, int_le, unsigned_abs, Option, Some, None}
use Rattle.chrono_units.specs.Years.{is_leap_year}
use Rattle.chrono_units.specs.WeekdaySet.{DaySet, contains}
use Rattle.chrono_calendar.specs.Days.{IsDate, year_of, month_of, day_of}
use Rattle.chrono_calendar.specs.Weeks.{weekday_of}
use Rattle.chrono_calendar.specs.MonthMoves.{month_move}

-- the number of the first date
abbrev pub first_date : ℤ
first_date = neg_ℤ (pos 95_746_129)

-- how many dates there are before the date n; none before the first
abbrev pub dates_before : ℤ → ℕ
dates_before n = unsigned_abs (n -ℤ first_date)

-- the number after that of the last date, which no date has
abbrev pub past_last_date : ℤ
past_last_date = pos 95_745_400

-- how many dates there are from the date n on, itself counted; none from the number after the last date's
abbrev pub dates_left : ℤ → ℕ
dates_left n = unsigned_abs (past_last_date -ℤ n)

-- how many of the k days from n on pass the test
unfoldable pub count_where : (ℤ → Bool) → ℕ → ℤ → ℕ
count_where p zero n = 0
count_where p (suc k) n = (if p n then 1 else 0) + count_where p k (n +ℤ pos 1)

-- how many days there are from a to before b; none if b is not after a
abbrev pub days_between : ℤ → ℤ → ℕ
days_between a b = if int_le a b then unsigned_abs (b -ℤ a) else 0

-- how many of the days from a to before b pass the test; none if b is not after a
unfoldable pub count_between : (ℤ → Bool) → ℤ → ℤ → ℕ
count_between p a b = count_where p (days_between a b) a

-- the first of the k days from n on that passes the test
unfoldable pub first_of_days : (ℤ → Bool) → ℕ → ℤ → Option ℤ
first_of_days p zero n = None
first_of_days p (suc k) n = if p n then Some n else first_of_days p k (n +ℤ pos 1)

-- the least date not before the date n that passes the test: the first of all dates from n on, if there is one
unfoldable pub first_where : (ℤ → Bool) → ℤ → Option ℤ
first_where p n = first_of_days p (dates_left n) n

-- e is the first day from n on that passes the test
pub record IsFirstWhere (p : ℤ → Bool) (n e : ℤ) : Type 0 where
  pub not_before : n ≤ℤ e
  pub passes : p e ≡ true
  pub least : (d : ℤ) → n ≤ℤ d → d <ℤ e → p d ≡ false

-- of the dates from n on none passes the test
abbrev pub NoneFrom : (ℤ → Bool) → ℤ → Type 0
NoneFrom p n = (d : ℤ) → n ≤ℤ d → IsDate d → p d ≡ false

-- the test says of each day what it says of the day a week later
abbrev pub IsWeekly : (ℤ → Bool) → Type 0
IsWeekly p = (d : ℤ) → p (d +ℤ pos 7) ≡ p d

-- the weekday of the day n is in the set
abbrev pub is_on : DaySet → ℤ → Bool
is_on set n = contains set (weekday_of n)

-- the least date not before the date n whose weekday is in the set
unfoldable pub date_on : ℤ → DaySet → Option ℤ
date_on n set = first_where (is_on set) n

-- the i-th date of those that lie every k months from the date n: n itself moved by k times i months at once, if that is a date
abbrev pub date_every : ℤ → ℤ → ℕ → Option ℤ
date_every n k i = month_move n (k *ℤ pos i)

-- the day n is 29 February
abbrev pub IsLeapDay : ℤ → Type 0
IsLeapDay n = (month_of n ≡ 2) × (day_of n ≡ 29)

-- the day n is 29 February in a leap year, and 28 February in any other
abbrev pub IsLastOfFebruary : ℤ → Type 0
IsLastOfFebruary n = (month_of n ≡ 2) × (day_of n ≡ (if is_leap_year (year_of n) then 29 else 28))
