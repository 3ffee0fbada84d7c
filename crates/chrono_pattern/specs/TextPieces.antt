-- Which texts a pattern reads: pieces in a row, one for each item. How long a name is, how long the name of UTC is, and how a part is put to
-- others is said by the definitions of the reader.
use Rattle.std.specs.Prelude.{◌≡◌, ℕ, ◌+◌, ◌-◌, ◌*◌, ◌^◌, ◌<◌, ◌⊎◌, min, Bool, true, false, if◌then◌else◌, List, [], ◌∷◌, ◌++◌, length, take, ℤ, pos, Option, Some, None, Ok}
use Rattle.std.specs.List.{list_all}
use Rattle.std.specs.Str.{byte}
use Rattle.chrono_datetime.specs.Month.{month_name, number_from_month}
use Rattle.chrono_datetime.specs.Names.{month_of_letters, weekday_name, weekday_of_letters}
use Rattle.chrono_datetime.specs.Weekday.{number_from_monday}
use Rattle.chrono_datetime.specs.declared.Month.{Month as MonthOf}
use Rattle.chrono_datetime.specs.declared.Weekday.{Weekday}
use Rattle.chrono_text.specs.Numbers.{digits_of, signed}
use Rattle.chrono_text.specs.Text.{two_digits}
use Rattle.chrono_pattern.specs.NumberReads.{has_sign, most_digits, number_put}
use Rattle.chrono_pattern.specs.OffsetReads.{at_rest, behind_colons, has_seconds, may_miss_minutes, utc_len}
use Rattle.chrono_pattern.specs.Parts.{no_parts, put, put_stamp}
use Rattle.chrono_pattern.specs.Progress.{Progress, class_len, is_of, is_pattern_blank}
use Rattle.chrono_pattern.specs.WordReads.{half_of, name_len}
use Rattle.chrono_pattern.specs.declared.class.Class.{Class}
use Rattle.chrono_pattern.specs.declared.class.Class.TheVariants.{Blank, Digit, Gap, Shown}
use Rattle.chrono_pattern.specs.declared.item.GroupField.{GroupField}
use Rattle.chrono_pattern.specs.declared.item.GroupField.TheVariants.{YearMonthDay, MonthDayYear, HourMinute, HourMinuteSecond, HalfClock, DayMonthYear, DateAndTime}
use Rattle.chrono_pattern.specs.declared.item.Item.{Item}
use Rattle.chrono_pattern.specs.declared.item.Item.TheVariants.{Empty, Byte, Number, Word, Group, Subsecond, Zoned}
use Rattle.chrono_pattern.specs.declared.item.NumberField.{NumberField}
use Rattle.chrono_pattern.specs.declared.item.NumberField.TheVariants.{Year, YearOfCentury, Month, Day, SpacedDay, Hour, HalfHour, Minute, Second}
use Rattle.chrono_pattern.specs.declared.item.OffsetForm.{OffsetForm}
use Rattle.chrono_pattern.specs.declared.item.OffsetForm.TheVariants.{Plain, Colon, Seconds, Hours, Loose}
use Rattle.chrono_pattern.specs.declared.item.Padding.TheVariants.{Usual}
use Rattle.chrono_pattern.specs.declared.item.WordField.{WordField}
use Rattle.chrono_pattern.specs.declared.item.WordField.TheVariants.{MonthName, MonthLetters, WeekdayName, WeekdayLetters, Half, SmallHalf}
use Rattle.chrono_pattern.specs.declared.item.ZonedField.{ZonedField}
use Rattle.chrono_pattern.specs.declared.item.ZonedField.TheVariants.{Offset, ZoneName, Stamp, Iso8601}
use Rattle.chrono_pattern.specs.declared.parsed.Parsed.{Parsed}
use Rattle.chrono_pattern.specs.declared.parsed.Part.TheVariants.{DayOfWeek, HourDiv12, MonthOfYear, NanosecondOfSecond, OffsetFromUtc}

-- Each relation is between what is left of a text and the parts, in front of a piece and behind it.

-- bytes of a class alone
abbrev pub AllOf : Class → List ℕ → Type 0
AllOf class bytes = list_all (is_of class) bytes ≡ true

-- no byte of the class is in front of the text
abbrev pub NoneOf : Class → List ℕ → Type 0
NoneOf class text = class_len class text ≡ 0

-- ---- bytes

-- all bytes of a class that stand there, and they give nothing
pub record SkipsAll (class : Class) (r q : Progress) : Type 0 where
  pub bytes : List ℕ
  pub all : AllOf class bytes
  pub ends : NoneOf class q.rest
  pub written : r.rest ≡ bytes ++ q.rest
  pub same : q.parsed ≡ r.parsed

-- the byte itself
pub record IsByte (c : ℕ) (r q : Progress) : Type 0 where
  pub written : r.rest ≡ c ∷ q.rest
  pub same : q.parsed ≡ r.parsed

-- a blank stands for any blanks and for none
abbrev pub ReadsBlank : Bool → ℕ → Progress → Progress → Type 0
ReadsBlank true c r q = SkipsAll Blank r q
ReadsBlank false c r q = IsByte c r q

abbrev pub ReadsByte : ℕ → Progress → Progress → Type 0
ReadsByte c r q = ReadsBlank (is_pattern_blank c) c r q

-- ---- numbers

-- a sign or none: of a number below 0, or of another
abbrev pub sign_text : Option Bool → List ℕ
sign_text None = []
sign_text (Some negative) = (if negative then byte "-" else byte "+") ∷ []

abbrev pub is_below : Option Bool → Bool
is_below None = false
is_below (Some negative) = negative

-- the number may have this sign, or none
abbrev pub may_have : NumberField → Option Bool → Bool
may_have field None = true
may_have field (Some negative) = has_sign field

-- the most digits of a number with this sign or none
abbrev pub most_with : NumberField → Option Bool → ℕ
most_with field None = most_digits field
most_with field (Some negative) = 9

-- One digit or more, at most so many, in front of the rest: their number is n. All that stand there are taken, as far as they may be.
pub record AreFrontDigits (most : ℕ) (digits rest : List ℕ) (n : ℕ) : Type 0 where
  pub value : digits_of most digits ≡ Some n
  pub ends : length digits < most → NoneOf Digit rest

-- blanks or none, a sign or none, and digits
pub record ReadsNumber (field : NumberField) (r q : Progress) : Type 0 where
  pub blanks : List ℕ
  pub sign : Option Bool
  pub digits : List ℕ
  pub n : ℕ
  pub space : AllOf Blank blanks
  pub may : may_have field sign ≡ true
  pub are : AreFrontDigits (most_with field sign) digits q.rest n
  pub written : r.rest ≡ blanks ++ (sign_text sign ++ (digits ++ q.rest))
  pub given : number_put field (signed (is_below sign) n) r.parsed ≡ Ok q.parsed

-- ---- words

-- letters of any case that name a month: its whole name, where it stands there and may be read, or its first three letters
pub record ReadsMonth (whole : Bool) (r q : Progress) : Type 0 where
  pub month : MonthOf
  pub name : List ℕ
  pub letters : month_of_letters (take 3 r.rest) ≡ Some month
  pub long : length name ≡ name_len whole (month_name month) r.rest
  pub written : r.rest ≡ name ++ q.rest
  pub given : put MonthOfYear (pos (number_from_month month)) r.parsed ≡ Ok q.parsed

-- the same of a weekday
pub record ReadsWeekday (whole : Bool) (r q : Progress) : Type 0 where
  pub day : Weekday
  pub name : List ℕ
  pub letters : weekday_of_letters 3 (take 3 r.rest) ≡ Some day
  pub long : length name ≡ name_len whole (weekday_name day) r.rest
  pub written : r.rest ≡ name ++ q.rest
  pub given : put DayOfWeek (pos (number_from_monday day)) r.parsed ≡ Ok q.parsed

-- two letters of any case that name a half of the day
pub record ReadsHalf (r q : Progress) : Type 0 where
  pub half : ℤ
  pub name : List ℕ
  pub letters : half_of name ≡ Some half
  pub long : length name ≡ 2
  pub written : r.rest ≡ name ++ q.rest
  pub given : put HourDiv12 half r.parsed ≡ Ok q.parsed

abbrev pub ReadsWord : WordField → Progress → Progress → Type 0
ReadsWord MonthName r q = ReadsMonth true r q
ReadsWord MonthLetters r q = ReadsMonth false r q
ReadsWord WeekdayName r q = ReadsWeekday true r q
ReadsWord WeekdayLetters r q = ReadsWeekday false r q
ReadsWord Half r q = ReadsHalf r q
ReadsWord SmallHalf r q = ReadsHalf r q

-- ---- fractions of a second

-- so many digits, which are worth that many nanoseconds
pub record ReadsPlaces (places : ℕ) (r q : Progress) : Type 0 where
  pub digits : List ℕ
  pub n : ℕ
  pub value : digits_of places digits ≡ Some n
  pub long : length digits ≡ places
  pub written : r.rest ≡ digits ++ q.rest
  pub given : put NanosecondOfSecond (pos (n * 10 ^ (9 - places))) r.parsed ≡ Ok q.parsed

-- a point and all digits behind it; those behind the ninth count for nothing
pub record ReadsPoint (r q : Progress) : Type 0 where
  pub digits : List ℕ
  pub n : ℕ
  pub all : AllOf Digit digits
  pub value : digits_of (min (length digits) 9) (take (min (length digits) 9) digits) ≡ Some n
  pub ends : NoneOf Digit q.rest
  pub written : r.rest ≡ byte "." ∷ (digits ++ q.rest)
  pub given : put NanosecondOfSecond (pos (n * 10 ^ (9 - min (length digits) 9))) r.parsed ≡ Ok q.parsed

-- nothing, where the text does not begin with the byte
pub record IsNothing (c : ℕ) (r q : Progress) : Type 0 where
  pub none : (text : List ℕ) → r.rest ≡ c ∷ text → ⊥
  pub same : q ≡ r

abbrev pub ReadsSubsecond : Bool → ℕ → Progress → Progress → Type 0
ReadsSubsecond true count r q = ReadsPoint r q ⊎ IsNothing (byte ".") r q
ReadsSubsecond false count r q = ReadsPlaces (min count 9) r q

-- ---- offsets from UTC

-- minutes behind colons and blanks or nothing
pub record AreMinutes (text rest : List ℕ) (minutes : ℕ) : Type 0 where
  pub between : List ℕ
  pub gap : AllOf Gap between
  pub hour : minutes < 60
  pub written : text ≡ between ++ (two_digits minutes ++ rest)

-- minutes that are left out: no digit is behind the colons and blanks
pub record NoMinutesAre (text rest : List ℕ) (minutes : ℕ) : Type 0 where
  pub zero : minutes ≡ 0
  pub ends : NoneOf Digit (behind_colons text)
  pub same : rest ≡ text

abbrev pub MinutesAre : Bool → List ℕ → List ℕ → ℕ → Type 0
MinutesAre missing text rest minutes = AreMinutes text rest minutes ⊎ ((missing ≡ true) × NoMinutesAre text rest minutes)

-- seconds behind a colon
pub record AreSeconds (text rest : List ℕ) (seconds : ℕ) : Type 0 where
  pub minute : seconds < 60
  pub written : text ≡ byte ":" ∷ (two_digits seconds ++ rest)

-- seconds that are left out: no colon is there
pub record NoSecondsAre (asked : Bool) (text rest : List ℕ) (seconds : ℕ) : Type 0 where
  pub zero : seconds ≡ 0
  pub none : asked ≡ true → (behind : List ℕ) → text ≡ byte ":" ∷ behind → ⊥
  pub same : rest ≡ text

abbrev pub SecondsAre : Bool → List ℕ → List ℕ → ℕ → Type 0
SecondsAre asked text rest seconds = ((asked ≡ true) × AreSeconds text rest seconds) ⊎ NoSecondsAre asked text rest seconds

-- a sign, hours of two digits, minutes and seconds, behind blanks or none
pub record ReadsSigned (form : OffsetForm) (r q : Progress) : Type 0 where
  pub blanks : List ℕ
  pub negative : Bool
  pub hours : ℕ
  pub minutes : ℕ
  pub seconds : ℕ
  pub behind_hours : List ℕ
  pub behind_minutes : List ℕ
  pub space : AllOf Blank blanks
  pub written : r.rest ≡ blanks ++ ((if negative then byte "-" else byte "+") ∷ (two_digits hours ++ behind_hours))
  pub day : hours < 100
  pub minute : MinutesAre (may_miss_minutes form) behind_hours behind_minutes minutes
  pub second : SecondsAre (has_seconds form) behind_minutes q.rest seconds
  pub given : put OffsetFromUtc (signed negative ((hours * 60 + minutes) * 60 + seconds)) r.parsed ≡ Ok q.parsed

-- a name of UTC behind blanks or none: `Z` or `z`, and also `UTC` in any case if it may stand there
pub record ReadsUtc (named : Bool) (r q : Progress) : Type 0 where
  pub blanks : List ℕ
  pub name : List ℕ
  pub space : AllOf Blank blanks
  pub some : 0 < length name
  pub apart : NoneOf Blank (name ++ q.rest)
  pub long : length name ≡ utc_len named (name ++ q.rest)
  pub written : r.rest ≡ blanks ++ (name ++ q.rest)
  pub given : put OffsetFromUtc (pos 0) r.parsed ≡ Ok q.parsed

abbrev pub ReadsOffset : OffsetForm → Progress → Progress → Type 0
ReadsOffset Plain r q = ReadsSigned Plain r q
ReadsOffset Colon r q = ReadsSigned Colon r q
ReadsOffset Seconds r q = ReadsSigned Seconds r q
ReadsOffset Hours r q = ReadsSigned Hours r q
ReadsOffset Loose r q = ReadsUtc false r q ⊎ ReadsSigned Loose r q

-- ---- the seconds from 1970

-- blanks or none, a sign or none, and all digits that stand there, at most 18
pub record ReadsStamp (r q : Progress) : Type 0 where
  pub blanks : List ℕ
  pub sign : Option Bool
  pub digits : List ℕ
  pub n : ℕ
  pub space : AllOf Blank blanks
  pub value : digits_of 18 digits ≡ Some n
  pub ends : NoneOf Digit q.rest
  pub written : r.rest ≡ blanks ++ (sign_text sign ++ (digits ++ q.rest))
  pub given : put_stamp (signed (is_below sign) n) r.parsed ≡ Ok q.parsed

-- ---- pieces in a row

-- a byte, a number or a word
abbrev pub ReadsSimple : Item → Progress → Progress → Type 0
ReadsSimple Empty r q = q ≡ r
ReadsSimple (Byte c) r q = ReadsByte c r q
ReadsSimple (Number field padding) r q = ReadsNumber field r q
ReadsSimple (Word word) r q = ReadsWord word r q
ReadsSimple (Group group) r q = ⊥
ReadsSimple (Subsecond point count) r q = ⊥
ReadsSimple (Zoned field) r q = ⊥

-- one piece behind another
pub record Both (First Second : Progress → Progress → Type 0) (r q : Progress) : Type 0 where
  pub between : Progress
  pub first : First r between
  pub second : Second between q

-- pieces of these items, one behind another
abbrev pub InRow : (Item → Progress → Progress → Type 0) → List Item → Progress → Progress → Type 0
InRow Piece [] r q = q ≡ r
InRow Piece (item ∷ items) r q = Both (Piece item) (InRow Piece items) r q

-- a number with the padding of its own specifier
abbrev pub usual : NumberField → Item
usual field = Number field Usual

abbrev pub clock_items : NumberField → List Item
clock_items hour = usual hour ∷ Byte (byte ":") ∷ usual Minute ∷ Byte (byte ":") ∷ usual Second ∷ []

-- the numbers, the words and the bytes of a group
abbrev pub group_items : GroupField → List Item
group_items YearMonthDay = usual Year ∷ Byte (byte "-") ∷ usual Month ∷ Byte (byte "-") ∷ usual Day ∷ []
group_items MonthDayYear = usual Month ∷ Byte (byte "/") ∷ usual Day ∷ Byte (byte "/") ∷ usual YearOfCentury ∷ []
group_items HourMinute = usual Hour ∷ Byte (byte ":") ∷ usual Minute ∷ []
group_items HourMinuteSecond = clock_items Hour
group_items HalfClock = clock_items HalfHour ++ Byte (byte " ") ∷ Word Half ∷ []
group_items DayMonthYear = usual SpacedDay ∷ Byte (byte "-") ∷ Word MonthLetters ∷ Byte (byte "-") ∷ usual Year ∷ []
group_items DateAndTime =
    Word WeekdayLetters ∷ Byte (byte " ") ∷ Word MonthLetters ∷ Byte (byte " ") ∷ usual SpacedDay ∷ Byte (byte " ")
    ∷ (clock_items Hour ++ Byte (byte " ") ∷ usual Year ∷ [])

abbrev pub ReadsGroup : GroupField → Progress → Progress → Type 0
ReadsGroup group r q = InRow ReadsSimple (group_items group) r q

-- the byte between a date and a time of day (RFC 3339, 5.6)
abbrev pub ReadsBetween : Progress → Progress → Type 0
ReadsBetween r q = IsByte (byte "T") r q ⊎ (IsByte (byte "t") r q ⊎ IsByte (byte " ") r q)

-- a date, a time of day, a fraction or none, and an offset or a name of UTC
pub record ReadsIso (r q : Progress) : Type 0 where
  pub behind_date : Progress
  pub before_time : Progress
  pub behind_time : Progress
  pub before_offset : Progress
  pub date : ReadsGroup YearMonthDay r behind_date
  pub between : ReadsBetween behind_date before_time
  pub time : ReadsGroup HourMinuteSecond before_time behind_time
  pub fraction : ReadsSubsecond true 0 behind_time before_offset
  pub offset : ReadsUtc true before_offset q ⊎ ReadsSigned Colon before_offset q

abbrev pub ReadsZoned : ZonedField → Progress → Progress → Type 0
ReadsZoned (Offset form) r q = ReadsOffset form r q
ReadsZoned ZoneName r q = SkipsAll Shown r q
ReadsZoned Stamp r q = ReadsStamp r q
ReadsZoned Iso8601 r q = ReadsIso r q

-- the piece of an item
abbrev pub ReadsItem : Item → Progress → Progress → Type 0
ReadsItem Empty r q = q ≡ r
ReadsItem (Byte c) r q = ReadsByte c r q
ReadsItem (Number field padding) r q = ReadsNumber field r q
ReadsItem (Word word) r q = ReadsWord word r q
ReadsItem (Group group) r q = ReadsGroup group r q
ReadsItem (Subsecond point count) r q = ReadsSubsecond point count r q
ReadsItem (Zoned field) r q = ReadsZoned field r q

-- A text whose front the items of a pattern read, the parts that this gives, and the rest: the front is their pieces in a row.
abbrev pub ReadsFront : List Item → List ℕ → Parsed → List ℕ → Type 0
ReadsFront items text parts rest = InRow ReadsItem items (at_rest text no_parts) (at_rest rest parts)

-- a text that they read: nothing is behind its front
abbrev pub Reads : List Item → List ℕ → Parsed → Type 0
Reads items text parts = ReadsFront items text parts []
