-- What a pattern writes of an offset from UTC, and of the seconds from 1970.
use Rattle.std.specs.Prelude.{ℕ, ◌/◌, ◌%◌, if◌then◌else◌, List, [], ◌++◌, ◌∷◌, codes, ℤ, ◌-ℤ◌, unsigned_abs, Bool, true, false}
use Rattle.std.specs.Fmt.{decimal}
use Rattle.std.specs.Int.{is_negative}
use Rattle.std.specs.Str.{byte}
use Rattle.chrono_text.specs.Text.{two_digits}
use Rattle.chrono_datetime.specs.Moment.{Moment}
use Rattle.chrono_instant.specs.Instants.{epoch_second}
use Rattle.chrono_instant.specs.OffsetText.{offset_text}
use Rattle.chrono_pattern.specs.Groups.{group_text}
use Rattle.chrono_pattern.specs.Subseconds.{subsecond_of}
use Rattle.chrono_pattern.specs.declared.item.GroupField.TheVariants.{YearMonthDay, HourMinuteSecond}
use Rattle.chrono_pattern.specs.declared.item.OffsetForm.{OffsetForm}
use Rattle.chrono_pattern.specs.declared.item.OffsetForm.TheVariants.{Plain, Colon, Seconds, Hours, Loose}
use Rattle.chrono_pattern.specs.declared.item.Item.{Item}
use Rattle.chrono_pattern.specs.declared.item.Item.TheVariants.{Zoned}
use Rattle.chrono_pattern.specs.declared.item.ZonedField.{ZonedField}
use Rattle.chrono_pattern.specs.declared.item.ZonedField.TheVariants.{Offset, ZoneName, Stamp, Iso8601}

-- the sign and the whole hours of an offset of x seconds; a second behind UTC has the sign of one behind
unfoldable pub hours_piece : ℤ → List ℕ
hours_piece x = (if is_negative x then codes "-" else codes "+") ++ two_digits (unsigned_abs x / 3_600)

-- its whole minutes past the hour
abbrev pub minutes_piece : ℤ → List ℕ
minutes_piece x = two_digits (unsigned_abs x / 60 % 60)

-- hours and minutes with a colon
abbrev pub colon_piece : ℤ → List ℕ
colon_piece x = hours_piece x ++ byte ":" ∷ minutes_piece x

-- an offset of x seconds; what is smaller than its last number is left out
unfoldable pub offset_piece : OffsetForm → ℤ → List ℕ
offset_piece Plain x = hours_piece x ++ minutes_piece x
offset_piece Colon x = colon_piece x
offset_piece Seconds x = colon_piece x ++ byte ":" ∷ two_digits (unsigned_abs x % 60)
offset_piece Hours x = hours_piece x
offset_piece Loose x = hours_piece x ++ minutes_piece x

-- a number of seconds
unfoldable pub stamp_piece : ℤ → List ℕ
stamp_piece s = (if is_negative s then codes "-" else []) ++ decimal (unsigned_abs s)

-- a date, a time of day with as few digits of its fraction as hold it, and an offset (RFC 3339, 5.6)
unfoldable pub iso_piece : Moment → ℤ → List ℕ
iso_piece m x =
    group_text YearMonthDay m ++ byte "T" ∷ group_text HourMinuteSecond m ++ subsecond_of true 0 m.time ++ offset_piece Colon x

-- the piece of a local date-time, where the clock is x seconds ahead of UTC
abbrev pub zoned_piece : ZonedField → Moment → ℤ → List ℕ
zoned_piece (Offset form) m x = offset_piece form x
zoned_piece ZoneName m x = offset_text x
zoned_piece Stamp m x = stamp_piece (epoch_second m -ℤ x)
zoned_piece Iso8601 m x = iso_piece m x

-- the piece is no date and time of day, so it has at most 20 bytes
abbrev pub is_short_piece : ZonedField → Bool
is_short_piece Iso8601 = false
is_short_piece _ = true

-- the item has at most 31 bytes
abbrev pub is_short : Item → Bool
is_short (Zoned field) = is_short_piece field
is_short _ = true
