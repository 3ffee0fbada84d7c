-- Dates and date-times in the texts of calendars (RFC 5545, sections 3.3.4, 3.3.5 and 3.3.12).
use Rattle.std.specs.Prelude.{ℕ, ◌+◌, ◌==◌, nat_le, nat_lt, min, Bool, ◌&&◌, ◌||◌, if◌then◌else◌, List, ◌++◌, length, take, drop, slice_index, Option, Some, None, ℤ, codes, ◌≡◌, pos, ◌<◌, ◌≤ℤ◌, refl}
use Rattle.std.specs.Option.{option_and_then, option_map}
use Rattle.std.specs.Str.{byte}
use Rattle.chrono_datetime.specs.Days.{year_of}
use Rattle.chrono_datetime.specs.Moment.{Moment, moment}
use Rattle.chrono_datetime.specs.Time.{TimeOfDay, hour_of, minute_of, second_of, seconds_per_day, time_at}
use Rattle.chrono_rules.specs.RuleTexts.{date_of}
use Rattle.chrono_rules.specs.WrittenRules.{basic_date_text}
use Rattle.chrono_text.specs.Numbers.{digits_of, natural_of}
use Rattle.chrono_text.specs.Text.{two_digits}
use Rattle.calendar_text.specs.declared.calendar_time.CalendarTime.{CalendarTime}
use Rattle.calendar_text.specs.declared.calendar_time.CalendarTime.TheVariants.{Date, Local, Utc}

-- hours to 23, minutes to 59, seconds to 60. "Implementations that do not support leap seconds SHOULD interpret the second 60 as equivalent to
-- the second 59."
abbrev pub shown_clock : ℕ → ℕ → ℕ → Option TimeOfDay
shown_clock hour minute second =
    if nat_lt hour 24 && (nat_lt minute 60 && nat_le second 60) then Some (time_at hour minute (min second 59) 0) else None

abbrev pub clock_of_parts : Option ℕ → Option ℕ → Option ℕ → Option TimeOfDay
clock_of_parts hour minute second = option_and_then (λ h. option_and_then (λ m. option_and_then (shown_clock h m) second) minute) hour

-- "time = time-hour time-minute time-second": two digits each
unfoldable pub clock_of : List ℕ → Option TimeOfDay
clock_of text =
    if length text == 6 then clock_of_parts (digits_of 2 (take 2 text)) (digits_of 2 (take 2 (drop 2 text))) (digits_of 2 (drop 4 text)) else None

-- a byte is this capital letter, or the small one: an ABNF's letters have either case
abbrev pub is_letter : ℕ → ℕ → Bool
is_letter letter b = (b == letter) || (b == letter + 32)

abbrev pub moment_of_parts : Option ℤ → Option TimeOfDay → Option Moment
moment_of_parts date time = option_and_then (λ d. option_map (moment d) time) date

-- "date-time = date "T" time"
unfoldable pub moment_of : List ℕ → Option Moment
moment_of text =
    if (length text == 15) && is_letter (byte "T") (slice_index text 8) then moment_of_parts (date_of (take 8 text)) (clock_of (drop 9 text)) else None

-- a date, a local time, or a time in UTC with a `Z` behind it
unfoldable pub time_of : List ℕ → Option CalendarTime
time_of text =
    if length text == 8 then option_map Date (date_of text)
    else if length text == 15 then option_map Local (moment_of text)
    else if (length text == 16) && is_letter (byte "Z") (slice_index text 15) then option_map Utc (moment_of (take 15 text))
    else None

-- ---- times as they are written

-- an hour, a minute and a second in two digits each. A fraction is left out
abbrev pub basic_clock_text : TimeOfDay → List ℕ
basic_clock_text t = (two_digits (hour_of t) ++ two_digits (minute_of t)) ++ two_digits (second_of t)

abbrev pub basic_moment_text : Moment → List ℕ
basic_moment_text m = basic_date_text m.date ++ (codes "T" ++ basic_clock_text m.time)

-- a year outside 0 to 9999 is written in as many digits as it has, and cannot be read
unfoldable pub calendar_time_text : CalendarTime → List ℕ
calendar_time_text (Date d) = basic_date_text d
calendar_time_text (Local m) = basic_moment_text m
calendar_time_text (Utc m) = basic_moment_text m ++ codes "Z"

-- a date that is written in eight digits
abbrev pub HasFourDigits : ℤ → Type 0
HasFourDigits d = (pos 0 ≤ℤ year_of d) × (year_of d ≤ℤ pos 9_999)

-- a date-time that is written so that it can be read: it has no fraction of a second
pub record IsWritableMoment (m : Moment) : Type 0 where
  pub date : HasFourDigits m.date
  pub second : m.time.second < seconds_per_day
  pub whole : m.time.fraction ≡ 0

-- a time that is written so that it can be read: its year has four digits, and a date-time has no fraction of a second
unfoldable pub CanBeReadBack : CalendarTime → Type 0
CanBeReadBack (Date d) = HasFourDigits d
CanBeReadBack (Local m) = IsWritableMoment m
CanBeReadBack (Utc m) = IsWritableMoment m

-- known values: a leap second is the second before it, and hours and seconds that are too many
clock_of-leap : clock_of (codes "235960") ≡ Some (time_at 23 59 59 0)
unfolding clock_of digits_of natural_of
clock_of-leap = refl

clock_of-day : clock_of (codes "240000") ≡ None
unfolding clock_of digits_of natural_of
clock_of-day = refl

clock_of-second : clock_of (codes "235961") ≡ None
unfolding clock_of digits_of natural_of
clock_of-second = refl

-- neither an offset nor a time with no seconds
time_of-offset : time_of (codes "19970714T133000-0500") ≡ None
unfolding time_of
time_of-offset = refl

time_of-minute : time_of (codes "19970714T1330") ≡ None
unfolding time_of
time_of-minute = refl

time_of-colon : time_of (codes "19970714:133000") ≡ None
unfolding time_of moment_of
time_of-colon = refl
