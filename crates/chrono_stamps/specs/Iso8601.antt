-- The texts of ISO 8601 in its extended form: of a local date-time m on a clock x seconds ahead of UTC.
use Rattle.std.specs.Prelude.{◌≡◌, ◌==◌, ◌⊎◌, ℕ, ℤ, pos, ◌-ℤ◌, Bool, ◌||◌, not, true, List, [], ◌∷◌, ◌++◌, length, take, drop, codes, if◌then◌else◌, refl}
use Rattle.std.specs.List.{after_first, before_first, prefix_len}
use Rattle.std.specs.Str.{byte}
use Rattle.chrono_datetime.specs.Moment.{Moment}
use Rattle.chrono_datetime.specs.Time.{TimeOfDay}
use Rattle.chrono_instant.specs.Instants.{IsEpochSecond, epoch_second}
use Rattle.chrono_instant.specs.Offsets.{IsOffset}
use Rattle.chrono_instant.specs.OffsetText.{offset_text}
use Rattle.chrono_reading.specs.DateTexts.{IsDateText, IsOrdinalDateText, IsWeekDateText}
use Rattle.chrono_reading.specs.TimeTexts.{IsTimeText}
use Rattle.chrono_text.specs.Lists.{stands_in}

-- ---- parts

-- the date stands before the first `T`
abbrev pub date_part : List ℕ → List ℕ
date_part text = before_first (λ c. c == byte "T") text

abbrev pub behind_date : List ℕ → List ℕ
behind_date text = after_first (λ c. c == byte "T") text

-- `Z` and the signs begin an offset, and no time has them
abbrev pub is_of_time : ℕ → Bool
is_of_time c = not ((c == byte "Z") || ((c == byte "+") || (c == byte "-")))

abbrev pub time_part : List ℕ → List ℕ
time_part text = take (prefix_len is_of_time text) text

abbrev pub offset_part : List ℕ → List ℕ
offset_part text = drop (prefix_len is_of_time text) text

-- ---- the grammar

-- a text of the date n: by its month, by its place in the year, or by its week
abbrev pub IsIsoDate : List ℕ → ℤ → Type 0
IsIsoDate text n = IsDateText text n ⊎ (IsOrdinalDateText text n ⊎ IsWeekDateText text n)

-- the same with a point in front where a comma is
abbrev pub pointed : List ℕ → List ℕ
pointed [] = []
pointed (first ∷ digits) = (if first == byte "," then byte "." else first) ∷ digits

-- The clock that a text of a time shows: an hour and a minute have second 0. A time has 18 bytes at most, so the first 19 tell whether it is one.
unfoldable pub clock_shown : List ℕ → List ℕ
clock_shown text = if length text == 5 then text ++ codes ":00" else take 8 text ++ pointed (drop 8 (take 19 text))

-- hour and minute, or second and fraction too
abbrev pub IsIsoTime : List ℕ → TimeOfDay → Type 0
IsIsoTime text t = IsTimeText (clock_shown text) t

-- the offset that a text of one shows: an hour has minute 0
unfoldable pub offset_shown : List ℕ → List ℕ
offset_shown text = if length text == 3 then text ++ codes ":00" else text

-- a sign and hours, minutes and seconds. "-00:00" is UTC, as in RFC 3339. Seconds stand only where they are not 0
abbrev pub IsSignedOffset : List ℕ → ℤ → Type 0
IsSignedOffset text x = ((text ≡ codes "-00:00") × (x ≡ pos 0)) ⊎ (IsOffset x × (offset_text x ≡ text))

-- `Z`, or a sign and the rest
abbrev pub IsIsoOffset : List ℕ → ℤ → Type 0
IsIsoOffset text x = ((text ≡ codes "Z") × (x ≡ pos 0)) ⊎ IsSignedOffset (offset_shown text) x

-- a text of the date-time and the offset, at which UTC has a date
pub record IsExtendedText (text : List ℕ) (m : Moment) (x : ℤ) : Type 0 where
  pub separated : stands_in (byte "T") text ≡ true
  pub date_is : IsIsoDate (date_part text) m.date
  pub time_is : IsIsoTime (time_part (behind_date text)) m.time
  pub offset_is : IsIsoOffset (offset_part (behind_date text)) x
  pub instant : IsEpochSecond (epoch_second m -ℤ x)

-- known values: a comma, a time with no second, one that is too long, and an offset with no minute
clock_shown-comma : clock_shown (codes "09:30:00,25") ≡ codes "09:30:00.25"
unfolding clock_shown
clock_shown-comma = refl

clock_shown-minute : clock_shown (codes "09:30") ≡ codes "09:30:00"
unfolding clock_shown
clock_shown-minute = refl

clock_shown-long : clock_shown (codes "09:30:00.1234567890123") ≡ codes "09:30:00.1234567890"
unfolding clock_shown
clock_shown-long = refl

offset_shown-hour : offset_shown (codes "+05") ≡ codes "+05:00"
unfolding offset_shown
offset_shown-hour = refl
