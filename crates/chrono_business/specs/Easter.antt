-- Easter in the Gregorian calendar, by the moon of its tables: the Sunday after the paschal full moon.
use Rattle.std.specs.Prelude.{ℕ, ◌+◌, ◌-◌, ◌*◌, ◌%◌, ◌&&◌, ◌||◌, ◌==◌, nat_lt, if◌then◌else◌, ℤ, pos, ◌+ℤ◌, ◌-ℤ◌, ◌*ℤ◌, unsigned_abs, Option, Some, None}
use Rattle.std.specs.Int.{int_div_euclid, int_rem_euclid}
use Rattle.chrono_datetime.specs.Years.{is_year}
use Rattle.chrono_datetime.specs.Days.{day_number_of_ymd}
use Rattle.chrono_datetime.specs.Weeks.{days_from_sunday_of}

-- the place of the year in the cycle of 19 years after which the moons come again, from 1 on
abbrev pub golden_number : ℤ → ℕ
golden_number y = unsigned_abs (int_rem_euclid y (pos 19)) + 1

-- the hundreds of the year
abbrev pub century_of : ℤ → ℤ
century_of y = int_div_euclid y (pos 100)

-- the leap days that centuries leave out, three in 400 years
abbrev pub solar_correction : ℤ → ℤ
solar_correction y = century_of y -ℤ int_div_euclid (century_of y) (pos 4)

-- the days by which the moons come earlier than the cycle has it, eight in 2,500 years
abbrev pub lunar_correction : ℤ → ℤ
lunar_correction y = int_div_euclid (pos 8 *ℤ century_of y +ℤ pos 13) (pos 25)

-- the epact of the year: the age of the moon as the year begins, eleven days more each year of the cycle
unfoldable pub epact : ℤ → ℕ
epact y = unsigned_abs (int_rem_euclid (pos (11 * (golden_number y - 1)) +ℤ ((pos 8 -ℤ solar_correction y) +ℤ lunar_correction y)) (pos 30))

-- the days from 8 March to the new moon of the golden number g and the epact e. They are also those from 21 March to the
-- 14th day of that moon. The epacts stand at the days from 23 down to 0, and on from 29. The last two of them, 25 and 24,
-- stand a day earlier: 24 always, and 25 in the later years of the cycle
unfoldable pub days_to_moon : ℕ → ℕ → ℕ
days_to_moon g e =
    let days = (53 - e) % 30 in
    if (days == 29) || ((days == 28) && nat_lt 11 g) then days - 1 else days

-- the paschal full moon of the year: the 14th day of the first moon of which that day is not before 21 March
abbrev pub paschal_full_moon : ℤ → ℤ
paschal_full_moon y = day_number_of_ymd y 3 21 +ℤ pos (days_to_moon (golden_number y) (epact y))

-- the Sunday after the day n
abbrev pub sunday_after : ℤ → ℤ
sunday_after n = n +ℤ pos (7 - days_from_sunday_of n)

-- Easter of the year y, as a day number
unfoldable pub easter_day : ℤ → ℤ
easter_day y = sunday_after (paschal_full_moon y)

-- the date of Easter of the year y, if the year is one of the library's
unfoldable pub date_of_easter : ℤ → Option ℤ
date_of_easter y = if is_year y then Some (easter_day y) else None
