-- Open days: those that are neither on the weekend nor holidays, and how many of them there are between two days.
use Rattle.std.specs.Prelude.{◌≡◌, ℕ, Bool, true, not, ◌&&◌, List, ℤ, pos, ◌+ℤ◌, ◌-ℤ◌, ◌≤ℤ◌, ◌<ℤ◌, unsigned_abs}
use Rattle.std.specs.List.{All}
use Rattle.chrono_datetime.specs.WeekdaySet.{DaySet}
use Rattle.chrono_datetime.specs.Days.{IsDate}
use Rattle.chrono_datetime.specs.Recurrence.{count_between, is_on}
use Rattle.chrono_datetime.specs.RisingDates.{AreRising, is_listed}

-- what a calendar closes: each of these weekdays, and these days
pub record Closed : Type 0 where
  pub weekend : DaySet
  pub holidays : List ℤ

-- the calendar that closes these
abbrev pub closed : DaySet → List ℤ → Closed
closed weekend holidays = record { weekend = weekend; holidays = holidays }

-- the day is not on the weekend
abbrev pub is_workday : DaySet → ℤ → Bool
is_workday weekend n = not (is_on weekend n)

-- the day is one of the holidays
abbrev pub is_holiday : List ℤ → ℤ → Bool
is_holiday holidays n = is_listed holidays n

-- the day is neither on the weekend nor a holiday
unfoldable pub is_open : Closed → ℤ → Bool
is_open c n = is_workday c.weekend n && not (is_holiday c.holidays n)

-- what the holidays of a calendar are: dates that rise, none of them on the weekend
pub record AreHolidays (weekend : DaySet) (holidays : List ℤ) : Type 0 where
  pub dates : All IsDate holidays
  pub rising : AreRising holidays
  pub workdays : All (λ h. is_workday weekend h ≡ true) holidays

-- how many of the days from a to before b are open; none if b is not after a
abbrev pub open_days : Closed → ℤ → ℤ → ℕ
open_days c a b = count_between (is_open c) a b

-- how many of the days from a to before b are open, negative if b is before a
abbrev pub open_days_signed : Closed → ℤ → ℤ → ℤ
open_days_signed c a b = pos (open_days c a b) -ℤ pos (open_days c b a)

-- e is the n-th open day from the day d on, counted from 0: it is open, and n of the days from d to before it are
pub record IsNthOpenFrom (c : Closed) (d : ℤ) (n : ℕ) (e : ℤ) : Type 0 where
  pub passes : is_open c e ≡ true
  pub not_before : d ≤ℤ e
  pub count : open_days c d e ≡ n

-- e is the n-th open day from the day d back, counted from 0: it is open, and n of the days from behind it to d are
pub record IsNthOpenBack (c : Closed) (d : ℤ) (n : ℕ) (e : ℤ) : Type 0 where
  pub passes : is_open c e ≡ true
  pub not_after : e ≤ℤ d
  pub count : open_days c (e +ℤ pos 1) (d +ℤ pos 1) ≡ n

-- e is the n-th open day after the day d, counted from 1: it is open, and n of the days behind d up to it are
pub record IsNthOpenAfter (c : Closed) (d : ℤ) (n : ℕ) (e : ℤ) : Type 0 where
  pub passes : is_open c e ≡ true
  pub after : d <ℤ e
  pub count : open_days c (d +ℤ pos 1) (e +ℤ pos 1) ≡ n

-- e is the n-th open day before the day d, counted from 1: it is open, and n of the days from it to before d are
pub record IsNthOpenBefore (c : Closed) (d : ℤ) (n : ℕ) (e : ℤ) : Type 0 where
  pub passes : is_open c e ≡ true
  pub before : e <ℤ d
  pub count : open_days c e d ≡ n

-- the day d moved by n open days is e: the n-th open day after d, or before d. By 0 it is the first one from d on. So from
-- a closed day the next open day counts as the first, and the last one before it as the first back. QuantLib (`advance`)
-- and pandas (`BDay`) count so, and Excel (`WORKDAY`) unless n is 0
pub record IsMovedByOpenDays (c : Closed) (d n e : ℤ) : Type 0 where
  pub on : pos 0 <ℤ n → IsNthOpenAfter c d (unsigned_abs n) e
  pub zero : n ≡ pos 0 → IsNthOpenFrom c d 0 e
  pub back : n <ℤ pos 0 → IsNthOpenBefore c d (unsigned_abs n) e

-- the next open day from d on, moved by n open days, is e: e is open, and so are n of the days from d to before e. numpy's
-- `busday_offset` counts so with roll='forward'
pub record IsMovedFromNext (c : Closed) (d n e : ℤ) : Type 0 where
  pub passes : is_open c e ≡ true
  pub count : open_days_signed c d e ≡ n

-- the last open day up to d, moved by n open days, is e: e is open, and so are n of the days after d up to e. numpy's
-- `busday_offset` counts so with roll='backward'
pub record IsMovedFromPrevious (c : Closed) (d n e : ℤ) : Type 0 where
  pub passes : is_open c e ≡ true
  pub count : open_days_signed c (d +ℤ pos 1) (e +ℤ pos 1) ≡ n
