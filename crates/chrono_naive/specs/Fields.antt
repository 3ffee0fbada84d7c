-- What is read of a date besides its names.
use Rattle.std.specs.Prelude.{ℕ, ◌+◌, ◌-◌, ◌/◌, Bool, if◌then◌else◌, int_le, ℤ, pos, neg_ℤ, ◌-ℤ◌, ◌≤ℤ◌, unsigned_abs}
use Rattle.std.specs.Ordering.{int_cmp, nat_cmp, on, then_cmp}
use Rattle.std.specs.declared.cmp.Ordering.{Ordering}
use Rattle.chrono_calendar.specs.Weeks.{iso_year_of, iso_week_of}

-- the number of 1 January 1970, a Thursday
abbrev pub unix_epoch_day : ℤ
unix_epoch_day = pos 719_163

-- the year y lies in the common era, which begins with year 1
abbrev pub is_common_era : ℤ → Bool
is_common_era y = int_le (pos 1) y

-- the year counted from 1 forward in the common era, and from 1 back before it
abbrev pub year_of_era : ℤ → ℕ
year_of_era y = unsigned_abs (if is_common_era y then y else pos 1 -ℤ y)

-- the quarter of the year that the month m lies in: three months each
abbrev pub quarter_of_month : ℕ → ℕ
quarter_of_month m = (m - 1) / 3 + 1

-- the ISO years of the dates: the last of them may lie in the year after their own
abbrev pub IsIsoYear : ℤ → Type 0
IsIsoYear y = (neg_ℤ (pos 262_143) ≤ℤ y) × (y ≤ℤ pos 262_143)

-- an ISO year and a week in it
pub record IsoYearAndWeek : Type 0 where
  pub year : ℤ
  pub week : ℕ

-- the ISO year and the ISO week of the day n
abbrev pub iso_year_and_week_of : ℤ → IsoYearAndWeek
iso_year_and_week_of n = record { year = iso_year_of n; week = iso_week_of n }

-- ISO weeks compared: by ISO year, and then by the week
abbrev pub iso_week_cmp : IsoYearAndWeek → IsoYearAndWeek → Ordering
iso_week_cmp = then_cmp (on (λ w. w.year) int_cmp) (on (λ w. w.week) nat_cmp)
