-- The two forms of the texts of ISO 8601. A text of the basic form has no `-` in its date and no `:`, and is meant as the one of the extended form that has them.
use Rattle.std.specs.Prelude.{◌≡◌, ◌==◌, ◌-◌, ℕ, ℤ, Bool, ◌||◌, List, ◌++◌, length, take, drop, codes, if◌then◌else◌, nat_le, nat_lt, refl}
use Rattle.std.specs.Str.{byte}
use Rattle.chrono_datetime.specs.Moment.{Moment}
use Rattle.chrono_reading.specs.DateErrors.{error_at}
use Rattle.chrono_reading.specs.Fitting.{fitting}
use Rattle.chrono_reading.specs.declared.error.ReadError.{ReadError}
use Rattle.chrono_text.specs.Lists.{stands_in}
use Rattle.chrono_stamps.specs.Iso8601.{IsExtendedText, behind_date, date_part, offset_part, time_part}
use Rattle.chrono_stamps.specs.IsoErrors.{IsExtendedError}
use Rattle.chrono_text.specs.Lists.{part_place}

-- the text is of the basic form: behind four digits stands one more, or the letter of a week
unfoldable pub is_basic : List ℕ → Bool
is_basic text = (fitting (codes "ddddd") text == 5) || (fitting (codes "ddddW") text == 5)

-- ---- with the bytes of the extended form

-- A date with its hyphens: seven bytes are a year and a day of it, and else a week or a month and a day stand behind the year. A date has eight bytes at
-- most, so the first nine tell whether it is one.
unfoldable pub hyphened : List ℕ → List ℕ
hyphened text =
    let year = take 4 text in
    let rest = drop 4 (take 9 text) in
    if length text == 7 then year ++ codes "-" ++ rest
    else (if fitting (codes "ddddW") text == 5 then year ++ codes "-" ++ take 3 rest ++ codes "-" ++ drop 3 rest
    else year ++ codes "-" ++ take 2 rest ++ codes "-" ++ drop 2 rest)

-- A time with its colons: hour and minute, or second and fraction too. It has sixteen bytes at most.
unfoldable pub coloned : List ℕ → List ℕ
coloned text =
    let hour = take 2 text in
    let rest = drop 2 (take 17 text) in
    if nat_le (length text) 4 then hour ++ codes ":" ++ rest
    else hour ++ codes ":" ++ take 2 rest ++ codes ":" ++ drop 2 rest

-- An offset with its colons: a letter, or a sign and the hour alone, or the minute and the second too. It has seven bytes at most.
unfoldable pub coloned_offset : List ℕ → List ℕ
coloned_offset text =
    let hour = take 3 text in
    let rest = drop 3 (take 8 text) in
    if nat_le (length text) 3 then hour
    else (if nat_le (length text) 5 then hour ++ codes ":" ++ rest
    else hour ++ codes ":" ++ take 2 rest ++ codes ":" ++ drop 2 rest)

-- the text of the extended form that one of the basic form is meant as
unfoldable pub with_separators : List ℕ → List ℕ
with_separators text =
    if stands_in (byte "T") text
    then hyphened (date_part text) ++ codes "T" ++ coloned (time_part (behind_date text)) ++ coloned_offset (offset_part (behind_date text))
    else hyphened text

-- the text of the extended form: that which a text is meant as, or is
abbrev pub extended_form : List ℕ → List ℕ
extended_form text = if is_basic text then with_separators text else text

-- a text of the date-time and the offset, in either form
abbrev pub IsIso8601Text : List ℕ → Moment → ℤ → Type 0
IsIso8601Text text m x = IsExtendedText (extended_form text) m x

-- ---- where an error is

-- where a byte stands that has none, one or both of these places in front, at which bytes were put in
abbrev pub passed : ℕ → ℕ → ℕ → ℕ
passed first second bytes = if nat_lt second bytes then bytes - 2 else (if nat_lt first bytes then bytes - 1 else bytes)

-- the same of a date, of a time and of an offset. Where nothing is put in a second time, no byte is so far
unfoldable pub date_byte : List ℕ → ℕ → ℕ
date_byte text bytes =
    if length text == 7 then passed 4 99 bytes
    else (if fitting (codes "ddddW") text == 5 then passed 4 8 bytes else passed 4 7 bytes)

unfoldable pub time_byte : List ℕ → ℕ → ℕ
time_byte text bytes = if nat_le (length text) 4 then passed 2 99 bytes else passed 2 5 bytes

unfoldable pub offset_byte : List ℕ → ℕ → ℕ
offset_byte text bytes =
    if nat_le (length text) 3 then bytes
    else (if nat_le (length text) 5 then passed 3 99 bytes else passed 3 6 bytes)

-- where a byte of the extended form stands in a text of the basic form: in the date or behind it, in the time or behind it, or in the offset
unfoldable pub basic_byte : List ℕ → ℕ → ℕ
basic_byte text bytes =
    let time = time_part (behind_date text) in
    let offset = offset_part (behind_date text) in
    let in_time = bytes - length (hyphened (date_part text)) - 1 in
    if stands_in (byte "T") text
    then (if nat_le bytes (length (hyphened (date_part text))) then date_byte (date_part text) bytes
    else (if nat_le in_time (length (coloned time)) then part_place text (behind_date text) (time_byte time in_time)
    else part_place text offset (offset_byte offset (in_time - length (coloned time)))))
    else date_byte text bytes

-- the error of a text, by that of the extended form
abbrev pub error_back : List ℕ → ReadError → ReadError
error_back text e = if is_basic text then error_at e.cause (basic_byte text e.byte) else e

-- the error of a text, in either form
abbrev pub IsIso8601Error : List ℕ → ReadError → Type 0
IsIso8601Error text e = (f : ReadError) × IsExtendedError (extended_form text) f × (e ≡ error_back text f)

-- known values: a date of each kind, times and offsets, and where an error of each is
hyphened-calendar : hyphened (codes "20240229") ≡ codes "2024-02-29"
unfolding hyphened fitting
hyphened-calendar = refl

hyphened-ordinal : hyphened (codes "2024060") ≡ codes "2024-060"
unfolding hyphened fitting
hyphened-ordinal = refl

hyphened-week : hyphened (codes "2024W094") ≡ codes "2024-W09-4"
unfolding hyphened fitting
hyphened-week = refl

with_separators-fraction : with_separators (codes "20240229T093000,25+0530") ≡ codes "2024-02-29T09:30:00,25+05:30"
unfolding with_separators hyphened coloned coloned_offset fitting
with_separators-fraction = refl

with_separators-minute : with_separators (codes "2024060T0930Z") ≡ codes "2024-060T09:30Z"
unfolding with_separators hyphened coloned coloned_offset fitting
with_separators-minute = refl

basic_byte-day : basic_byte (codes "20230229T0930Z") 8 ≡ 6
unfolding basic_byte hyphened date_byte fitting
basic_byte-day = refl

basic_byte-minute : basic_byte (codes "20240229T0960Z") 14 ≡ 11
unfolding basic_byte hyphened coloned time_byte fitting
basic_byte-minute = refl

basic_byte-offset : basic_byte (codes "20240229T0930+0560") 20 ≡ 16
unfolding basic_byte hyphened coloned offset_byte fitting
basic_byte-offset = refl
