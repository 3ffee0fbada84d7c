-- The texts of RFC 3339, by the grammar of its section 5.6: of a local date-time m on a clock x seconds ahead of UTC.
use Rattle.std.specs.Prelude.{◌≡◌, ◌⊎◌, ℕ, List, ◌∷◌, ◌++◌, length, codes, ℤ, pos}
use Rattle.std.specs.Str.{byte}
use Rattle.chrono_datetime.specs.Moment.{Moment}
use Rattle.chrono_instant.specs.Offsets.{IsOffset}
use Rattle.chrono_instant.specs.OffsetText.{offset_text}
use Rattle.chrono_reading.specs.DateTexts.{IsDateText}
use Rattle.chrono_reading.specs.TimeTexts.{IsTimeText}

-- ---- the grammar

-- between date and time: date-time = full-date "T" full-time. The notes of 5.6 allow "t", and a space for readability.
abbrev pub IsStampSeparator : ℕ → Type 0
IsStampSeparator c = (c ≡ byte "T") ⊎ (c ≡ byte "t") ⊎ (c ≡ byte " ")

-- time-offset = "Z" / time-numoffset. The notes of 5.6 allow "z".
abbrev pub IsZulu : List ℕ → Type 0
IsZulu text = (text ≡ codes "Z") ⊎ (text ≡ codes "z")

-- time-numoffset = ("+" / "-") time-hour ":" time-minute: six bytes, so an offset has no seconds
pub record IsNumericOffset (text : List ℕ) (x : ℤ) : Type 0 where
  pub in_range : IsOffset x
  pub written : offset_text x ≡ text
  pub minutes_end_it : length text ≡ 6

-- the six bytes of an offset. "-00:00" is UTC, where the local offset is not known (4.3)
abbrev pub IsSixBytes : List ℕ → ℤ → Type 0
IsSixBytes text x = ((text ≡ codes "-00:00") × (x ≡ pos 0)) ⊎ IsNumericOffset text x

-- a text of the offset
abbrev pub IsOffsetText : List ℕ → ℤ → Type 0
IsOffsetText text x = (IsZulu text × (x ≡ pos 0)) ⊎ IsSixBytes text x

-- a text of the date-time and the offset. full-date = date-fullyear "-" date-month "-" date-mday, where date-fullyear = 4DIGIT: ten
-- bytes. full-time = partial-time time-offset
pub record IsRfc3339Text (text : List ℕ) (m : Moment) (x : ℤ) : Type 0 where
  pub date : List ℕ
  pub separator : ℕ
  pub time : List ℕ
  pub offset : List ℕ
  pub date_written : IsDateText date m.date
  pub year_has_four_digits : length date ≡ 10
  pub between : IsStampSeparator separator
  pub time_written : IsTimeText time m.time
  pub offset_written : IsOffsetText offset x
  pub written : date ++ separator ∷ time ++ offset ≡ text
