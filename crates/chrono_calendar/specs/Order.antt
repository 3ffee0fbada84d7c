-- Days compared by their names.
use Rattle.std.specs.Prelude.{ℤ}
use Rattle.std.specs.Ordering.{int_cmp, nat_cmp, ordering_then}
use Rattle.std.specs.declared.cmp.Ordering.{Ordering}
use Rattle.chrono_calendar.specs.Days.{year_of, ordinal_of, month_of, day_of}

-- by year, and then by the place in the year
unfoldable pub ordinal_cmp : ℤ → ℤ → Ordering
ordinal_cmp n m = ordering_then (int_cmp (year_of n) (year_of m)) (nat_cmp (ordinal_of n) (ordinal_of m))

-- by year, then by month, and then by the day of the month
unfoldable pub calendar_cmp : ℤ → ℤ → Ordering
calendar_cmp n m =
    ordering_then (int_cmp (year_of n) (year_of m))
    (ordering_then (nat_cmp (month_of n) (month_of m)) (nat_cmp (day_of n) (day_of m)))
