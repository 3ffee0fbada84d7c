-- The pieces of groups by the dates and times of day that they are of.
use Rattle.std.specs.Prelude.{ℕ, ◌+◌, ◌/◌, List, [], ◌++◌, ◌∷◌, ℤ, take, unsigned_abs}
use Rattle.std.specs.Str.{byte}
use Rattle.chrono_datetime.specs.Days.{month_of}
use Rattle.chrono_datetime.specs.Duration.{nanos_per_second}
use Rattle.chrono_datetime.specs.Month.{month_from_number, month_name}
use Rattle.chrono_datetime.specs.Time.{TimeOfDay, minute_of, second_of}
use Rattle.chrono_pattern.specs.Numbers.{padded, year_sign}
use Rattle.chrono_pattern.specs.declared.item.Padding.TheVariants.{Spaces, Zeros}

-- two digits
unfoldable pub two : ℕ → List ℕ
two n = padded Zeros 2 [] n

-- two digits, the first of them a space where it is a zero
unfoldable pub spaced : ℕ → List ℕ
spaced n = padded Spaces 2 [] n

-- a year of four digits or more
unfoldable pub padded_year : ℤ → List ℕ
padded_year y = padded Zeros 4 (year_sign y) (unsigned_abs y)

-- an hour, a minute and a second
unfoldable pub clock_at : ℕ → TimeOfDay → List ℕ
clock_at hour t = two hour ++ byte ":" ∷ two (minute_of t) ++ byte ":" ∷ two (second_of t + t.fraction / nanos_per_second)

-- the three letters of a month
unfoldable pub letters_of_month : ℤ → List ℕ
letters_of_month n = take 3 (month_name (month_from_number (month_of n)))
