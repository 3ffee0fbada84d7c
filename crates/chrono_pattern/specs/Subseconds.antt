-- The fraction of a second that a pattern writes.
use Rattle.std.specs.Prelude.{ℕ, ◌/◌, ◌%◌, ◌==◌, nat_lt, nat_le, Bool, ◌&&◌, if◌then◌else◌, List, [], ◌++◌, codes, take}
use Rattle.chrono_text.specs.Text.{all_digits}
use Rattle.chrono_datetime.specs.Duration.{nanos_per_second}
use Rattle.chrono_datetime.specs.Time.{TimeOfDay}

-- the nine digits of so many nanoseconds
abbrev pub nine_digits : ℕ → List ℕ
nine_digits n = all_digits 3 (n / 1_000_000) ++ all_digits 3 (n / 1_000 % 1_000) ++ all_digits 3 (n % 1_000)

-- how many digits are written: the number that is asked for, or for 0 none, three, six or nine, the fewest that hold the fraction
abbrev pub digit_count : ℕ → ℕ → ℕ
digit_count count n =
    if nat_lt 0 count then (if nat_le count 9 then count else 9)
    else if n == 0 then 0
    else if n % 1_000_000 == 0 then 3
    else if n % 1_000 == 0 then 6
    else 9

-- a point if it is asked for, unless no digit is behind it, and the first digits of the fraction
abbrev pub fraction_with : Bool → ℕ → ℕ → List ℕ
fraction_with point count n = (if point && nat_lt 0 count then codes "." else []) ++ take count (nine_digits n)

-- the fraction of the second of a time, past a leap second too
unfoldable pub subsecond_of : Bool → ℕ → TimeOfDay → List ℕ
subsecond_of point count t =
    fraction_with point (digit_count count (t.fraction % nanos_per_second)) (t.fraction % nanos_per_second)
