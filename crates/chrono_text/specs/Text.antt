-- The texts of numbers as ISO 8601 writes them: digits, decimals, years, dates, weeks, times of day and durations, as lists of ASCII codes.
-- Such texts are `2024-02-29`, `2024-060`, `2024-W09-4`, `23:59:60.500` and `PT1.5S`.
use Rattle.std.specs.Prelude.{◌≡◌, ℕ, zero, suc, ◌+◌, ◌-◌, ◌/◌, ◌%◌, ◌^◌, ◌==◌, nat_lt, nat_le, Bool, List, [], ◌∷◌, ◌++◌, if◌then◌else◌, codes, ℤ, pos, neg_ℤ, unsigned_abs, refl}
use Rattle.std.specs.Fmt.{decimal, digits, sign_text}
use Rattle.std.specs.Int.{is_negative}
use Rattle.std.specs.Str.{byte}
use Rattle.std.specs.Int.RustNames.{int_lt}
use Rattle.std.specs.Ordering.{int_eq}

-- the nanoseconds of a second, nine digits of which stand behind its point
abbrev pub nanos_per_second : ℕ
nanos_per_second = 1_000_000_000

-- the digits of a fraction of so many places, up to the last that is not 0
abbrev pub fraction_digits : ℕ → ℕ → List ℕ
fraction_digits zero n = []
fraction_digits (suc places) n = if n == 0 then [] else (byte "0" + n / 10 ^ places) ∷ fraction_digits places (n % 10 ^ places)

-- a point and those nine digits of a second, or nothing for a fraction of 0
abbrev pub fraction_text : ℕ → List ℕ
fraction_text n = if n == 0 then [] else codes "." ++ fraction_digits 9 n

-- a duration of so many seconds and nanoseconds past them, with a `-` if it is negative
abbrev pub seconds_text : Bool → ℕ → ℕ → List ℕ
seconds_text negative seconds nanos =
    sign_text negative ++ codes "PT" ++ decimal seconds ++ fraction_text nanos ++ codes "S"

-- a duration of x nanoseconds (ISO 8601 duration): nothing but its name for zero, and else the seconds and the fraction of its size
abbrev pub duration_text : ℤ → List ℕ
duration_text x =
    if int_eq x (pos 0) then codes "P0D"
    else seconds_text (is_negative x) (unsigned_abs x / nanos_per_second) (unsigned_abs x % nanos_per_second)

-- n in two digits
abbrev pub two_digits : ℕ → List ℕ
two_digits n = (byte "0" + n / 10) ∷ (byte "0" + n % 10) ∷ []

-- a colon and the seconds past a minute in two digits, or nothing for 0
abbrev pub colon_seconds_text : ℕ → List ℕ
colon_seconds_text n = if n == 0 then [] else codes ":" ++ two_digits n

-- n in one digit, or in two
abbrev pub number_text : ℕ → List ℕ
number_text n = if nat_lt n 10 then (byte "0" + n) ∷ [] else two_digits n

-- all the digits of a number of so many places
abbrev pub all_digits : ℕ → ℕ → List ℕ
all_digits zero n = []
all_digits (suc places) n = (byte "0" + n / 10 ^ places) ∷ all_digits places (n % 10 ^ places)

-- the size of a year in at least four digits
abbrev pub year_digits : ℕ → List ℕ
year_digits n = if nat_lt n 10_000 then all_digits 4 n else decimal n

-- a year: from 0 to 9999 its four digits, and else a sign before its size
abbrev pub year_text : ℤ → List ℕ
year_text y =
    if int_lt y (pos 0) then codes "-" ++ year_digits (unsigned_abs y)
    else (if int_lt y (pos 10_000) then all_digits 4 (unsigned_abs y) else codes "+" ++ year_digits (unsigned_abs y))

-- a year, a month and a day of the month (ISO 8601 calendar date)
abbrev pub calendar_text : ℤ → ℕ → ℕ → List ℕ
calendar_text y m d = year_text y ++ codes "-" ++ two_digits m ++ codes "-" ++ two_digits d

-- a year and a day of it (ISO 8601 ordinal date)
abbrev pub ordinal_text : ℤ → ℕ → List ℕ
ordinal_text y o = year_text y ++ codes "-" ++ all_digits 3 o

-- a year and a week of it (ISO 8601 week date, without its day)
abbrev pub week_text : ℤ → ℕ → List ℕ
week_text y w = year_text y ++ codes "-W" ++ two_digits w

-- a year, a week of it and a weekday from 1 for Monday (ISO 8601 week date)
abbrev pub week_date_text : ℤ → ℕ → ℕ → List ℕ
week_date_text y w d = week_text y w ++ codes "-" ++ (byte "0" + d) ∷ []

-- a point and the nanoseconds past a second in three, six or nine digits, the fewest that hold them, or nothing for 0
abbrev pub subsecond_text : ℕ → List ℕ
subsecond_text n =
    if n == 0 then []
    else (if n % 1_000_000 == 0 then codes "." ++ all_digits 3 (n / 1_000_000)
    else (if n % 1_000 == 0 then codes "." ++ all_digits 6 (n / 1_000)
    else codes "." ++ all_digits 9 n))

-- the hour, the minute, the second and the nanoseconds past it; a leap fraction counts as one second more
abbrev pub clock_text : ℕ → ℕ → ℕ → ℕ → List ℕ
clock_text hour minute second fraction =
    two_digits hour ++ codes ":" ++ two_digits minute ++ codes ":"
    ++ (if nat_le nanos_per_second fraction then two_digits (second + 1) ++ subsecond_text (fraction - nanos_per_second)
    else two_digits second ++ subsecond_text fraction)

-- known values: 42 days back, 42 ns and zero
duration_text-minus_42_days : duration_text (neg_ℤ (pos 3_628_800_000_000_000)) ≡ codes "-PT3628800S"
unfolding digits
duration_text-minus_42_days = refl

duration_text-42_nanoseconds : duration_text (pos 42) ≡ codes "PT0.000000042S"
unfolding digits
duration_text-42_nanoseconds = refl

duration_text-zero : duration_text (pos 0) ≡ codes "P0D"
duration_text-zero = refl

-- the last number of one digit, and the first of two
number_text-nine : number_text 9 ≡ codes "9"
number_text-nine = refl

number_text-ten : number_text 10 ≡ codes "10"
number_text-ten = refl

-- years at the ends of four digits, and the first of the library's
year_text-zero : year_text (pos 0) ≡ codes "0000"
year_text-zero = refl

year_text-minus_one : year_text (neg_ℤ (pos 1)) ≡ codes "-0001"
year_text-minus_one = refl

year_text-five_digits : year_text (pos 10_000) ≡ codes "+10000"
unfolding digits
year_text-five_digits = refl

calendar_text-first : calendar_text (neg_ℤ (pos 262_143)) 1 1 ≡ codes "-262143-01-01"
unfolding digits
calendar_text-first = refl

calendar_text-leap_day : calendar_text (pos 2_024) 2 29 ≡ codes "2024-02-29"
calendar_text-leap_day = refl

ordinal_text-leap_day : ordinal_text (pos 2_024) 60 ≡ codes "2024-060"
ordinal_text-leap_day = refl

week_date_text-leap_day : week_date_text (pos 2_024) 9 4 ≡ codes "2024-W09-4"
week_date_text-leap_day = refl

clock_text-sixty : clock_text 23 59 59 1_500_000_000 ≡ codes "23:59:60.500"
clock_text-sixty = refl

clock_text-microsecond : clock_text 0 0 0 1_000 ≡ codes "00:00:00.000001"
clock_text-microsecond = refl
