-- How an offset from UTC, the name of a zone and a number of seconds from 1970 are read.
use Rattle.std.specs.Prelude.{ℕ, ◌+◌, ◌*◌, ◌==◌, Bool, true, false, ◌&&◌, ◌||◌, if◌then◌else◌, nat_lt, List, [], ◌∷◌, codes, drop, length, take, pos, Option, Some, None, Result, Ok, Err}
use Rattle.std.specs.Str.{byte, str_eq_ignore_ascii_case}
use Rattle.chrono_text.specs.Numbers.{digits_of, signed}
use Rattle.chrono_pattern.specs.Parts.{put, put_stamp}
use Rattle.chrono_pattern.specs.Progress.{Progress, behind_blanks, class_len, fault_without, progress, put_behind, stopped}
use Rattle.chrono_pattern.specs.declared.class.Class.TheVariants.{Digit, Gap, Shown}
use Rattle.chrono_pattern.specs.declared.error.ReadFault.{ReadFault}
use Rattle.chrono_pattern.specs.declared.error.ReadFault.TheVariants.{Invalid, OutOfRange, TooShort}
use Rattle.chrono_pattern.specs.declared.item.OffsetForm.{OffsetForm}
use Rattle.chrono_pattern.specs.declared.item.OffsetForm.TheVariants.{Seconds, Hours, Loose}
use Rattle.chrono_pattern.specs.declared.parsed.Parsed.{Parsed}
use Rattle.chrono_pattern.specs.declared.parsed.Part.TheVariants.{OffsetFromUtc}
use Rattle.chrono_pattern.specs.declared.stop.Stop.{Stop}

-- a number that is read, and what is read behind it; or where a reader stops
abbrev pub Taken : Type 0
Taken = Result (ℕ × Progress) Stop

-- the same parts, and this rest of the text
abbrev pub at_rest : List ℕ → Parsed → Progress
at_rest text p = record { rest = text; parsed = p }

-- two digits, which write at most so much
abbrev pub within_two : Option ℕ → ℕ → Progress → Taken
within_two None most r = Err (stopped Invalid r.rest)
within_two (Some n) most r = if nat_lt most n then Err (stopped OutOfRange r.rest) else Ok (n, at_rest (drop 2 r.rest) r.parsed)

unfoldable pub two_taken : ℕ → Progress → Taken
two_taken most r =
    if nat_lt (length r.rest) 2 then Err (stopped TooShort r.rest) else within_two (digits_of 2 (take 2 r.rest)) most r

-- the text behind the colons and blanks in front
abbrev pub behind_colons : List ℕ → List ℕ
behind_colons text = drop (class_len Gap text) text

-- minutes behind colons, blanks or nothing; these are left alone if the minutes may be missing, and no digit is there
unfoldable pub minutes_taken : Bool → Progress → Taken
minutes_taken missing r =
    if missing && class_len Digit (behind_colons r.rest) == 0 then Ok (0, r)
    else two_taken 59 (at_rest (behind_colons r.rest) r.parsed)

-- seconds behind a colon, if they may stand there and a colon is there
abbrev pub seconds_behind : Bool → List ℕ → Parsed → Taken
seconds_behind asked [] p = Ok (0, at_rest [] p)
seconds_behind asked (c ∷ text) p = if asked && c == byte ":" then two_taken 59 (at_rest text p) else Ok (0, at_rest (c ∷ text) p)

abbrev pub seconds_taken : Bool → Progress → Taken
seconds_taken asked r = seconds_behind asked r.rest r.parsed

-- the minutes may be missing where only hours are written
abbrev pub may_miss_minutes : OffsetForm → Bool
may_miss_minutes Hours = true
may_miss_minutes Loose = true
may_miss_minutes _ = false

abbrev pub has_seconds : OffsetForm → Bool
has_seconds Seconds = true
has_seconds _ = false

-- so many minutes and the seconds behind them, in seconds
abbrev pub with_seconds : Taken → ℕ → Taken
with_seconds (Err e) minutes = Err e
with_seconds (Ok t) minutes = Ok (minutes * 60 + t.0, t.1)

-- so many hours and what is behind them
abbrev pub with_minutes : Taken → OffsetForm → ℕ → Taken
with_minutes (Err e) form hours = Err e
with_minutes (Ok t) form hours = with_seconds (seconds_taken (has_seconds form) t.1) (hours * 60 + t.0)

abbrev pub with_hours : Taken → OffsetForm → Taken
with_hours (Err e) form = Err e
with_hours (Ok t) form = with_minutes (minutes_taken (may_miss_minutes form) t.1) form t.0

-- hours, minutes and seconds without their sign, in seconds
unfoldable pub size_taken : OffsetForm → Progress → Taken
size_taken form r = with_hours (two_taken 99 r) form

-- they are given as an offset of this sign
abbrev pub size_put : Taken → Bool → List ℕ → Result Progress Stop
size_put (Err e) negative text = Err e
size_put (Ok t) negative text = progress (put OffsetFromUtc (signed negative t.0) t.1.parsed) t.1.rest text

-- a sign, and the size of the offset behind it
unfoldable pub signed_offset_read : OffsetForm → List ℕ → Parsed → Result Progress Stop
signed_offset_read form [] p = Err (stopped TooShort [])
signed_offset_read form (c ∷ digits) p =
    if c == byte "-" then size_put (size_taken form (at_rest digits p)) true (c ∷ digits)
    else if c == byte "+" then size_put (size_taken form (at_rest digits p)) false (c ∷ digits)
    else Err (stopped Invalid (c ∷ digits))

-- how many bytes of a text name UTC: `Z` in either case, and also `UTC` if it may stand there
abbrev pub utc_len : Bool → List ℕ → ℕ
utc_len named [] = 0
utc_len named (c ∷ rest) =
    if (c == byte "Z") || (c == byte "z") then 1
    else if named && str_eq_ignore_ascii_case (take 3 (c ∷ rest)) (codes "utc") then 3
    else 0

-- UTC by its name, or an offset
unfoldable pub utc_or_offset : Bool → OffsetForm → List ℕ → Parsed → Result Progress Stop
utc_or_offset named form text p =
    if nat_lt 0 (utc_len named text) then put_behind (utc_len named text) text OffsetFromUtc (pos 0) p
    else signed_offset_read form text p

-- an offset behind blanks or none
unfoldable pub offset_read : OffsetForm → Progress → Result Progress Stop
offset_read Loose r = utc_or_offset false Loose (behind_blanks r.rest) r.parsed
offset_read form r = signed_offset_read form (behind_blanks r.rest) r.parsed

-- a name gives nothing: all bytes up to a blank
abbrev pub name_read : Progress → Result Progress Stop
name_read r = Ok (at_rest (drop (class_len Shown r.rest) r.rest) r.parsed)

-- the digits in front of a text, all of them, and at most 18
abbrev pub stamp_fault : List ℕ → ReadFault
stamp_fault text = if class_len Digit text == 0 then fault_without 1 text else OutOfRange

abbrev pub stamp_value : Option ℕ → Bool → List ℕ → Parsed → Result Progress Stop
stamp_value None negative text p = Err (stopped (stamp_fault text) text)
stamp_value (Some n) negative text p = progress (put_stamp (signed negative n) p) (drop (class_len Digit text) text) text

unfoldable pub stamp_digits : Bool → List ℕ → Parsed → Result Progress Stop
stamp_digits negative text p = stamp_value (digits_of 18 (take (class_len Digit text) text)) negative text p

-- a number of seconds, which may have a sign
unfoldable pub signed_stamp : List ℕ → Parsed → Result Progress Stop
signed_stamp [] p = Err (stopped TooShort [])
signed_stamp (c ∷ digits) p =
    if c == byte "-" then stamp_digits true digits p
    else if c == byte "+" then stamp_digits false digits p
    else stamp_digits false (c ∷ digits) p

-- the same behind blanks or none
abbrev pub stamp_read : Progress → Result Progress Stop
stamp_read r = signed_stamp (behind_blanks r.rest) r.parsed
