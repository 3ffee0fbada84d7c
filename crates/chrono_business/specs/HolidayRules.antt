-- Holidays by rules: which day a rule names in a year, where it goes from a weekend, and the holidays of a year.
use Rattle.std.specs.Prelude.{ℕ, ◌+◌, ◌-◌, ◌*◌, ◌/◌, Bool, ◌&&◌, ◌==◌, int_le, if◌then◌else◌, ℤ, pos, neg_ℤ, ◌+ℤ◌, ◌-ℤ◌, unsigned_abs, Option, None}
use Rattle.std.specs.Option.{option_and_then}
use Rattle.chrono_datetime.specs.Month.{number_from_month}
use Rattle.chrono_datetime.specs.Weekday.{days_from_monday}
use Rattle.chrono_datetime.specs.Days.{date_of_day, date_of_ymd}
use Rattle.chrono_datetime.specs.Weeks.{date_of_last_weekday, date_of_nth_weekday, weekday_of}
use Rattle.chrono_business.specs.Easter.{date_of_easter}
use Rattle.chrono_business.specs.declared.holiday_rule.HolidayDay.{HolidayDay}
use Rattle.chrono_business.specs.declared.holiday_rule.HolidayDay.TheVariants.{Fixed, NthWeekday, LastWeekday, EasterPlus, VernalEquinox, AutumnalEquinox}
use Rattle.chrono_business.specs.declared.holiday_rule.Moved.{Moved}
use Rattle.chrono_business.specs.declared.holiday_rule.Moved.TheVariants.{Stays, SundayToMonday, ToMonday, ToNearer, TwoDaysOn, SundayPlus}
use Rattle.chrono_business.specs.declared.holiday_rule.HolidayRule.{HolidayRule}

-- the date so many days after Easter, or before it
abbrev pub date_of_easter_plus : ℤ → ℤ → Option ℤ
date_of_easter_plus y days = option_and_then (λ e. date_of_day (e +ℤ days)) (date_of_easter y)

-- the formula of the equinoxes was made for the years from 1980 to 2099
abbrev pub has_equinox : ℤ → Bool
has_equinox y = int_le (pos 1_980) y && int_le y (pos 2_099)

-- the day of the month of an equinox in Japan, so many years after 1980, by the formula of Japan's Hydrographic Department.
-- In 1980 it comes at `first`, in millionths of a day, and 0.242194 days later each year. Each leap year takes a day off
abbrev pub day_of_equinox : ℕ → ℕ → ℕ
day_of_equinox first years = (first + 242_194 * years) / 1_000_000 - years / 4

-- the date of an equinox of the year y in Japan, if the formula has the year
abbrev pub date_of_equinox : ℤ → ℕ → ℕ → Option ℤ
date_of_equinox y month first =
    if has_equinox y then date_of_ymd y month (day_of_equinox first (unsigned_abs (y -ℤ pos 1_980))) else None

-- the date that is named in the year y
unfoldable pub holiday_named : HolidayDay → ℤ → Option ℤ
holiday_named (Fixed month day) y = date_of_ymd y (number_from_month month) day
holiday_named (NthWeekday n weekday month) y = date_of_nth_weekday y (number_from_month month) weekday n
holiday_named (LastWeekday weekday month) y = date_of_last_weekday y (number_from_month month) weekday
holiday_named (EasterPlus days) y = date_of_easter_plus y days
holiday_named VernalEquinox y = date_of_equinox y 3 20_843_100
holiday_named AutumnalEquinox y = date_of_equinox y 9 23_248_800

-- the days by which a holiday on Saturday is moved
unfoldable pub from_saturday : Moved → ℤ
from_saturday Stays = pos 0
from_saturday SundayToMonday = pos 0
from_saturday ToMonday = pos 2
from_saturday ToNearer = neg_ℤ (pos 1)
from_saturday TwoDaysOn = pos 2
from_saturday (SundayPlus days) = pos 0

-- the days by which a holiday on Sunday is moved
unfoldable pub from_sunday : Moved → ℤ
from_sunday Stays = pos 0
from_sunday SundayToMonday = pos 1
from_sunday ToMonday = pos 1
from_sunday ToNearer = pos 1
from_sunday TwoDaysOn = pos 2
from_sunday (SundayPlus days) = pos days

-- the days by which a holiday on the day n is moved
abbrev pub moved_by : Moved → ℤ → ℤ
moved_by moved n =
    if days_from_monday (weekday_of n) == 5 then from_saturday moved
    else (if days_from_monday (weekday_of n) == 6 then from_sunday moved else pos 0)

-- the rule of a day, of how it is moved, and of its first and last year
abbrev pub rule_of : HolidayDay → Moved → ℤ → ℤ → HolidayRule
rule_of day moved first last = record { day = day; moved = moved; first_year = first; last_year = last }

-- the rule holds in the year y
abbrev pub holds_in : HolidayRule → ℤ → Bool
holds_in r y = int_le r.first_year y && int_le y r.last_year

-- the date of the rule of the year y: the date that is named there, moved
unfoldable pub date_of_rule : HolidayRule → ℤ → Option ℤ
date_of_rule r y =
    if holds_in r y then option_and_then (λ n. date_of_day (n +ℤ moved_by r.moved n)) (holiday_named r.day y) else None
