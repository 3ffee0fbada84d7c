-- The texts that are written of a local date-time m, on a clock x seconds ahead of UTC: by RFC 3339 and by RFC 2822.
use Rattle.std.specs.Prelude.{◌≡◌, ℕ, ◌-◌, ◌%◌, ◌/◌, ◌^◌, Bool, ◌&&◌, List, ◌++◌, codes, take, if◌then◌else◌, ℤ, pos, neg_ℤ, ◌≤ℤ◌, unsigned_abs, refl}
use Rattle.std.specs.Int.{is_negative}
use Rattle.std.specs.Ordering.{int_eq}
use Rattle.chrono_datetime.specs.DateText.{date_text}
use Rattle.chrono_datetime.specs.Days.{day_of, month_of, year_of}
use Rattle.chrono_datetime.specs.Duration.{nanos_per_second}
use Rattle.chrono_datetime.specs.Moment.{Moment, moment}
use Rattle.chrono_datetime.specs.Month.{month_from_number, month_name}
use Rattle.chrono_datetime.specs.Weeks.{weekday_of}
use Rattle.chrono_datetime.specs.WeekdayText.{weekday_text}
use Rattle.chrono_text.specs.Text.{all_digits, number_text, two_digits}
use Rattle.chrono_datetime.specs.Time.{FractionFits, TimeOfDay, second_of, time_with_fraction}
use Rattle.chrono_datetime.specs.TimeText.{time_text}
use Rattle.chrono_instant.specs.OffsetText.{offset_text}
use Rattle.chrono_stamps.specs.Fractions.{fraction_in, places_of}
use Rattle.chrono_stamps.specs.declared.seconds_format.SecondsFormat.{SecondsFormat}

-- the year has four digits, the offset whole minutes, and a leap second stands at second 59 of its minute
pub record HasStampText (m : Moment) (x : ℤ) : Type 0 where
  pub year : (pos 0 ≤ℤ year_of m.date) × (year_of m.date ≤ℤ pos 9_999)
  pub offset : unsigned_abs x % 60 ≡ 0
  pub leap : FractionFits (second_of m.time) m.time.fraction

-- the nanoseconds past a second, also past a leap second
abbrev pub nanos_past : TimeOfDay → ℕ
nanos_past t = t.fraction % nanos_per_second

-- the time at the beginning of its second, also of a leap second
abbrev pub whole_second : TimeOfDay → TimeOfDay
whole_second t = time_with_fraction t (t.fraction - nanos_past t)

-- the clock, and as many digits of the fraction as the form has
abbrev pub time_in : SecondsFormat → TimeOfDay → List ℕ
time_in form t = time_text (whole_second t) ++ fraction_in (places_of form (nanos_past t)) (nanos_past t)

-- the offset; that of UTC as "Z" if that is wanted
abbrev pub offset_in : Bool → ℤ → List ℕ
offset_in use_z x = if use_z && int_eq x (pos 0) then codes "Z" else offset_text x

-- the text of RFC 3339 that is written
abbrev pub rfc3339_text : SecondsFormat → Bool → Moment → ℤ → List ℕ
rfc3339_text form use_z m x = date_text m.date ++ codes "T" ++ time_in form m.time ++ offset_in use_z x

-- the date-time with what the form cuts off its fraction
abbrev pub moment_cut : SecondsFormat → Moment → Moment
moment_cut form m =
    let unit = 10 ^ (9 - places_of form (nanos_past m.time)) in
    moment m.date (time_with_fraction m.time (m.time.fraction - nanos_past m.time % unit))

-- ---- RFC 2822, by the grammar of its section 3.3

-- month-name = "Jan" / "Feb" / .. / "Dec": the first three letters of the month's name
abbrev pub month_letters : ℕ → List ℕ
month_letters n = take 3 (month_name (month_from_number n))

-- day-of-week "," date, where date = day month year, day = 1*2DIGIT and year = 4*DIGIT
abbrev pub mail_date_text : ℤ → List ℕ
mail_date_text n =
    weekday_text (weekday_of n) ++ codes ", " ++ number_text (day_of n) ++ codes " " ++ month_letters (month_of n) ++ codes " " ++ all_digits 4 (unsigned_abs (year_of n))

-- zone = ("+" / "-") 4DIGIT: the hours and the minutes
abbrev pub mail_zone_text : ℤ → List ℕ
mail_zone_text x = (if is_negative x then codes "-" else codes "+") ++ two_digits (unsigned_abs x / 3_600) ++ two_digits (unsigned_abs x / 60 % 60)

-- the text of RFC 2822 that is written
abbrev pub rfc2822_text : Moment → ℤ → List ℕ
rfc2822_text m x = mail_date_text m.date ++ codes " " ++ time_text (whole_second m.time) ++ codes " " ++ mail_zone_text x

-- known values
month_letters-nine : month_letters 9 ≡ codes "Sep"
month_letters-nine = refl

mail_zone_text-west : mail_zone_text (neg_ℤ (pos 12_600)) ≡ codes "-0330"
mail_zone_text-west = refl
