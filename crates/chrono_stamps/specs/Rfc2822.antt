-- The texts of RFC 2822, by the grammar of its sections 3.3 and 4.3: of a local date-time m on a clock x seconds ahead of UTC.
use Rattle.std.specs.Prelude.{◌≡◌, ◌==◌, ◌⊎◌, ◌≤◌, ℕ, ◌+◌, ◌*◌, Bool, ◌&&◌, not, false, List, [], ◌∷◌, ◌++◌, length, take, drop, codes, if◌then◌else◌, nat_lt, ℤ, pos, neg_ℤ, ◌-ℤ◌, Option, Some, None, refl}
use Rattle.std.specs.Char.{is_ascii_alphabetic, to_ascii_lowercase}
use Rattle.std.specs.Str.{byte, str_eq_ignore_ascii_case}
use Rattle.chrono_datetime.specs.Days.{date_of_ymd}
use Rattle.chrono_datetime.specs.Moment.{Moment}
use Rattle.chrono_datetime.specs.Month.{number_from_month}
use Rattle.chrono_datetime.specs.Names.{month_of_letters, weekday_of_letters}
use Rattle.chrono_datetime.specs.Time.{TimeOfDay}
use Rattle.chrono_datetime.specs.Weeks.{weekday_of}
use Rattle.chrono_datetime.specs.Years.{IsYear}
use Rattle.chrono_datetime.specs.declared.Month.{Month}
use Rattle.chrono_instant.specs.Instants.{IsEpochSecond, epoch_second}
use Rattle.chrono_reading.specs.TimeTexts.{IsTimeText}
use Rattle.chrono_stamps.specs.MailWords.{AreMailWords, IsMailGap}
use Rattle.chrono_stamps.specs.Rfc3339.{IsSixBytes}
use Rattle.chrono_text.specs.Numbers.{count_of, digits_of}

-- day-name = "Mon" / "Tue" / .. / "Sun", if there is one: that of the date (3.3: it MUST be the day implied by the date)
abbrev pub IsDayOfWeek : List ℕ → ℤ → Type 0
IsDayOfWeek word n = (word ≡ []) ⊎ (weekday_of_letters 3 word ≡ Some (weekday_of n))

-- The year that so many digits with this value write. Two digits below 50 are of the years 2000 to 2049, and other two digits, and three, are past
-- 1900 (4.3).
abbrev pub year_meant : ℕ → ℕ → ℕ
year_meant places n =
    if places == 2 then (if nat_lt n 50 then 2_000 + n else 1_900 + n)
    else (if places == 3 then 1_900 + n else n)

-- year = 4*DIGIT / obs-year, where obs-year = 2*DIGIT
pub record IsMailYear (word : List ℕ) (year : ℕ) : Type 0 where
  pub number : ℕ
  pub read : count_of word ≡ Some number
  pub long : 2 ≤ length word
  pub meant : year_meant (length word) number ≡ year
  pub in_calendar : IsYear (pos year)

-- date = day month year, where day = 1*2DIGIT and month-name = "Jan" / "Feb" / .. / "Dec"
pub record IsMailDate (day month year : List ℕ) (n : ℤ) : Type 0 where
  pub day_number : ℕ
  pub month_number : Month
  pub year_number : ℕ
  pub day_is : digits_of 2 day ≡ Some day_number
  pub month_is : month_of_letters month ≡ Some month_number
  pub year_is : IsMailYear year year_number
  pub names : date_of_ymd (pos year_number) (number_from_month month_number) day_number ≡ Some n

-- the two digits of a second, which is 0 where it is left out
abbrev pub second_shown : List ℕ → List ℕ
second_shown word = if length word == 0 then codes "00" else word

-- hour, minute and second, 2DIGIT each: the time is that of the text with colons between
pub record IsMailTime (hour minute second : List ℕ) (t : TimeOfDay) : Type 0 where
  pub hour_in_two : length hour ≡ 2
  pub minute_in_two : length minute ≡ 2
  pub second_in_two : (length second ≡ 2) ⊎ (length second ≡ 0)
  pub clock : IsTimeText (hour ++ codes ":" ++ minute ++ codes ":" ++ second_shown second) t

-- zone = ("+" / "-") 4DIGIT: as the hours and the minutes of RFC 3339, but with no colon between
pub record IsZoneDigits (word : List ℕ) (x : ℤ) : Type 0 where
  pub long : length word ≡ 5
  pub six_bytes : IsSixBytes (take 3 word ++ codes ":" ++ drop 3 word) x

-- a letter alone, but no J
abbrev pub is_military : List ℕ → Bool
is_military [] = false
is_military (c ∷ []) = is_ascii_alphabetic c && not (to_ascii_lowercase c == byte "j")
is_military (c ∷ d ∷ more) = false

-- The hours behind UTC of a zone's name (4.3, obs-zone). The letters of the military zones are taken for "-0000", since RFC 822 had their signs wrong.
unfoldable pub hours_behind : List ℕ → Option ℕ
hours_behind name =
    if str_eq_ignore_ascii_case name (codes "UT") then Some 0
    else (if str_eq_ignore_ascii_case name (codes "GMT") then Some 0
    else (if str_eq_ignore_ascii_case name (codes "EDT") then Some 4
    else (if str_eq_ignore_ascii_case name (codes "EST") then Some 5
    else (if str_eq_ignore_ascii_case name (codes "CDT") then Some 5
    else (if str_eq_ignore_ascii_case name (codes "CST") then Some 6
    else (if str_eq_ignore_ascii_case name (codes "MDT") then Some 6
    else (if str_eq_ignore_ascii_case name (codes "MST") then Some 7
    else (if str_eq_ignore_ascii_case name (codes "PDT") then Some 7
    else (if str_eq_ignore_ascii_case name (codes "PST") then Some 8
    else (if is_military name then Some 0 else None))))))))))

-- the zone's name, of three letters at most
pub record IsMailZoneName (word : List ℕ) (x : ℤ) : Type 0 where
  pub hours : ℕ
  pub short : length word ≤ 3
  pub behind : hours_behind word ≡ Some hours
  pub names : neg_ℤ (pos (3_600 * hours)) ≡ x

-- zone = (( "+" / "-" ) 4DIGIT) / obs-zone
abbrev pub IsMailZone : List ℕ → ℤ → Type 0
IsMailZone word x = IsZoneDigits word x ⊎ IsMailZoneName word x

-- a text of the date-time and the offset, at which UTC has a date
pub record IsRfc2822Text (text : List ℕ) (m : Moment) (x : ℤ) : Type 0 where
  pub weekday : List ℕ
  pub day : List ℕ
  pub month : List ℕ
  pub year : List ℕ
  pub hour : List ℕ
  pub minute : List ℕ
  pub second : List ℕ
  pub zone : List ℕ
  pub end : List ℕ
  pub words : AreMailWords text weekday day month year hour minute second zone end
  pub ends : IsMailGap end
  pub weekday_is : IsDayOfWeek weekday m.date
  pub date_is : IsMailDate day month year m.date
  pub time_is : IsMailTime hour minute second m.time
  pub zone_is : IsMailZone zone x
  pub instant : IsEpochSecond (epoch_second m -ℤ x)

-- known values: both sides of the turn of the century, three digits, and four that keep their noughts
year_meant-forty_nine : year_meant 2 49 ≡ 2_049
year_meant-forty_nine = refl

year_meant-fifty : year_meant 2 50 ≡ 1_950
year_meant-fifty = refl

year_meant-three : year_meant 3 112 ≡ 2_012
year_meant-three = refl

year_meant-four : year_meant 4 49 ≡ 49
year_meant-four = refl

-- a name in small letters, the military zones of both ends, and the letter that is none
hours_behind-pdt : hours_behind (codes "pdt") ≡ Some 7
unfolding hours_behind
hours_behind-pdt = refl

hours_behind-z : hours_behind (codes "Z") ≡ Some 0
unfolding hours_behind
hours_behind-z = refl

hours_behind-j : hours_behind (codes "J") ≡ None
unfolding hours_behind
hours_behind-j = refl
