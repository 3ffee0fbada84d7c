-- Years by the numbers of C, of which holidays are known, and whether a date of them is open.
use Rattle.std.specs.Prelude.{Bool, if◌then◌else◌, ℤ, pos}
use Rattle.chrono_business.specs.KnownYears.{is_known}
use Rattle.chrono_business.specs.OpenDays.{Closed, is_open}
use Rattle.chrono_business.specs.declared.known_years.KnownYears.{KnownYears}
use Rattle.numbers_c.specs.Answers.{none_number}

-- the years from one to another
abbrev pub years_from_c : ℤ → ℤ → KnownYears
years_from_c first last = record { first = first; last = last }

-- 1 for an open date of the years, 0 for a closed one, and none for a date of another year
abbrev pub open_within : KnownYears → Closed → ℤ → ℤ
open_within years c d = if is_known years d then (if is_open c d then pos 1 else pos 0) else none_number
