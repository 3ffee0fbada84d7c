-- Why a text is none of RFC 2822, and at which byte: what is wrong first, from left to right.
use Rattle.std.specs.Prelude.{◌≡◌, ◌==◌, ◌+◌, ◌-◌, ℕ, ℤ, pos, Bool, true, false, ◌&&◌, List, [], ◌∷◌, length, take, drop, codes, if◌then◌else◌, nat_le, nat_lt, Option, Some, None, refl}
use Rattle.std.specs.Char.{is_ascii_alphabetic}
use Rattle.std.specs.List.{prefix_len}
use Rattle.std.specs.Option.{option_and_then}
use Rattle.std.specs.Str.{byte}
use Rattle.chrono_datetime.specs.Days.{date_of_ymd}
use Rattle.chrono_datetime.specs.Month.{number_from_month}
use Rattle.chrono_datetime.specs.Names.{month_of_letters, weekday_of_letters}
use Rattle.chrono_datetime.specs.Weekday.{number_from_monday}
use Rattle.chrono_datetime.specs.Weeks.{weekday_of}
use Rattle.chrono_datetime.specs.Years.{month_length}
use Rattle.chrono_datetime.specs.declared.Month.{Month}
use Rattle.chrono_datetime.specs.declared.Weekday.{Weekday}
use Rattle.chrono_reading.specs.DateErrors.{error_at}
use Rattle.chrono_reading.specs.Fitting.{fitting, leading_digits}
use Rattle.chrono_reading.specs.NameErrors.{in_common, month_error, more_of, weekday_error}
use Rattle.chrono_reading.specs.declared.error.ReadCause.{ReadCause}
use Rattle.chrono_reading.specs.declared.error.ReadCause.TheVariants.{DateOutOfRange, DayAbove, DayZero, HourAbove23, MinuteAbove59, NotThisForm, SecondAbove60, UnknownName, YearOutOfRange}
use Rattle.chrono_reading.specs.declared.error.ReadError.{ReadError}
use Rattle.chrono_text.specs.Lists.{is_of_word, part_place}
use Rattle.chrono_text.specs.Numbers.{count_of, digits_of, natural_of, up_to}
use Rattle.chrono_stamps.specs.MailWords.{behind_gap, gap_end}
use Rattle.chrono_stamps.specs.Rfc2822.{hours_behind, year_meant}
use Rattle.chrono_stamps.specs.StampErrors.{two_written}

-- ---- parts of a text

-- the error of a text, by that of the word in front of a part
abbrev pub error_in : List ℕ → List ℕ → ReadError → ReadError
error_in text part e = error_at e.cause (part_place text part e.byte)

-- the word in front of a part, which is as long as can be, and what stands behind it
abbrev pub front_word : List ℕ → List ℕ
front_word part = take (prefix_len is_of_word part) part

abbrev pub behind_word : List ℕ → List ℕ
behind_word part = drop (prefix_len is_of_word part) part

-- where the next part begins: behind that word, and behind white space and comments
unfoldable pub next_part : List ℕ → List ℕ
next_part part = behind_gap (behind_word part)

-- the part behind a sign, and behind white space and comments, if that sign stands in front
unfoldable pub behind_sign : ℕ → List ℕ → Option (List ℕ)
behind_sign sign [] = None
behind_sign sign (first ∷ rest) = if first == sign then Some (behind_gap rest) else None

-- a letter stands in front, as one does only where a weekday is
abbrev pub begins_with_letter : List ℕ → Bool
begins_with_letter [] = false
begins_with_letter (first ∷ rest) = is_ascii_alphabetic first

-- ---- words

-- A name has three letters. The error of a word that is none begins at the first byte that no name has there.
unfoldable pub weekday_word_error : List ℕ → ReadError
weekday_word_error word = elim (weekday_of_letters 3 (take 3 word)) [ None ↦ weekday_error (take 3 word) | Some d ↦ error_at UnknownName 3 ]

unfoldable pub month_word_error : List ℕ → ReadError
month_word_error word = elim (month_of_letters (take 3 word)) [ None ↦ month_error (take 3 word) | Some m ↦ error_at UnknownName 3 ]

-- the year that a word of two digits or more means, if the calendar has it
unfoldable pub year_of_word : List ℕ → Option ℕ
year_of_word word = if nat_le 2 (length word) then option_and_then (λ n. up_to 262_142 (year_meant (length word) n)) (count_of word) else None

-- the error of a word that is no year: it is not two digits or more, or it is out of range
unfoldable pub year_word_error : List ℕ → ReadError
year_word_error word =
    if nat_le 2 (length word) && leading_digits word == length word then error_at YearOutOfRange 0
    else error_at NotThisForm (leading_digits word)

-- the error of a day that the month has not
unfoldable pub day_error : ℕ → Month → ℕ → ReadError
day_error year month day = if day == 0 then error_at DayZero 0 else error_at (DayAbove (month_length (pos year) (number_from_month month))) 0

-- no weekday is given, or that of the date
unfoldable pub names_day : Option Weekday → ℤ → Bool
names_day None n = true
names_day (Some d) n = number_from_monday d == number_from_monday (weekday_of n)

-- what is wrong with a word of two digits, of which the number may be so great
unfoldable pub two_digits_fault : ReadCause → ℕ → List ℕ → Option ReadError
two_digits_fault above most word =
    let fit = fitting (codes "dd") word in
    if length word == 2
    then (if fit == 2
    then (if nat_lt most (two_written word) then Some (error_at above 0) else None)
    else Some (error_at NotThisForm fit))
    else Some (error_at NotThisForm fit)

-- what is wrong with the four digits behind the sign of a zone
unfoldable pub zone_digits_fault : List ℕ → Option ReadError
zone_digits_fault digits =
    let fit = fitting (codes "dddd") digits in
    if length digits == 4
    then (if fit == 4
    then (if nat_lt 23 (two_written digits) then Some (error_at HourAbove23 1)
    else (if nat_lt 59 (two_written (drop 2 digits)) then Some (error_at MinuteAbove59 3) else None))
    else Some (error_at NotThisForm (fit + 1)))
    else Some (error_at NotThisForm (fit + 1))

-- the word is the name of a zone
abbrev pub is_mail_zone_name : List ℕ → Bool
is_mail_zone_name word = elim (hours_behind word) [ None ↦ false | Some hours ↦ true ]

-- How many bytes of a word are as a zone's name begins: a name of one letter, one of two, or one of three, which ends in `T`.
unfoldable pub fitting_one : ℕ → ℕ
fitting_one a = if is_mail_zone_name (a ∷ []) then 1 else 0

unfoldable pub fitting_two : ℕ → ℕ → ℕ
fitting_two a b = if is_mail_zone_name (a ∷ b ∷ []) then 2 else (if is_mail_zone_name (a ∷ b ∷ codes "T") then 2 else fitting_one a)

unfoldable pub fitting_zone : List ℕ → ℕ
fitting_zone [] = 0
fitting_zone (a ∷ []) = fitting_one a
fitting_zone (a ∷ b ∷ []) = fitting_two a b
fitting_zone (a ∷ b ∷ c ∷ more) = if is_mail_zone_name (a ∷ b ∷ c ∷ []) then 3 else fitting_two a b

-- what is wrong with the word of a zone: with the digits behind its sign, or with its name
unfoldable pub zone_fault : List ℕ → Option ReadError
zone_fault [] = Some (error_at UnknownName 0)
zone_fault (first ∷ rest) =
    if first == byte "+" then zone_digits_fault rest
    else (if first == byte "-" then zone_digits_fault rest
    else (if is_mail_zone_name (first ∷ rest) then None else Some (error_at UnknownName (fitting_zone (first ∷ rest)))))

-- ---- from left to right

-- behind the zone: something stands there, or a comment has no end, or UTC has no date then
unfoldable pub error_from_end : List ℕ → List ℕ → ReadError
error_from_end text rest =
    let left = gap_end 0 false rest in
    if left.0 == 0
    then (if length left.1 == 0 then error_at DateOutOfRange 0 else error_at NotThisForm (part_place text left.1 0))
    else error_at NotThisForm (part_place text left.1 0)

unfoldable pub error_from_zone : List ℕ → List ℕ → ReadError
error_from_zone text part = elim (zone_fault (front_word part)) [
  | None ↦ error_from_end text (behind_word part)
  | Some e ↦ error_in text part e
]

unfoldable pub error_from_second : List ℕ → List ℕ → ReadError
error_from_second text part = elim (two_digits_fault SecondAbove60 60 (front_word part)) [
  | None ↦ error_from_zone text (next_part part)
  | Some e ↦ error_in text part e
]

-- behind the minute a colon and a second may stand
unfoldable pub error_from_minute : List ℕ → List ℕ → ReadError
error_from_minute text part = elim (two_digits_fault MinuteAbove59 59 (front_word part)) [
  | None ↦ elim (behind_sign (byte ":") (next_part part)) [ None ↦ error_from_zone text (next_part part) | Some second ↦ error_from_second text second ]
  | Some e ↦ error_in text part e
]

unfoldable pub error_from_hour : List ℕ → List ℕ → ReadError
error_from_hour text part = elim (two_digits_fault HourAbove23 23 (front_word part)) [
  | None ↦ elim (behind_sign (byte ":") (next_part part)) [ None ↦ error_at NotThisForm (part_place text (next_part part) 0) | Some minute ↦ error_from_minute text minute ]
  | Some e ↦ error_in text part e
]

-- A day that its month has not is an error at the day, and a weekday that is not the date's one at the weekday.
unfoldable pub error_from_year : List ℕ → Option Weekday → List ℕ → ℕ → Month → List ℕ → ReadError
error_from_year text weekday day_part day month part = elim (year_of_word (front_word part)) [
  | None ↦ error_in text part (year_word_error (front_word part))
  | Some year ↦ elim (date_of_ymd (pos year) (number_from_month month) day) [
    | None ↦ error_in text day_part (day_error year month day)
    | Some n ↦ if names_day weekday n then error_from_hour text (next_part part) else error_at NotThisForm (part_place text (behind_gap text) 0)
  ]
]

unfoldable pub error_from_month : List ℕ → Option Weekday → List ℕ → ℕ → List ℕ → ReadError
error_from_month text weekday day_part day part = elim (month_of_letters (front_word part)) [
  | None ↦ error_in text part (month_word_error (front_word part))
  | Some month ↦ error_from_year text weekday day_part day month (next_part part)
]

-- the day of the month has one digit or two
unfoldable pub error_from_day : List ℕ → Option Weekday → List ℕ → ReadError
error_from_day text weekday part = elim (digits_of 2 (front_word part)) [
  | None ↦ error_at NotThisForm (part_place text part (fitting (codes "dd") (front_word part)))
  | Some day ↦ error_from_month text weekday part day (next_part part)
]

-- the error of a text that is none of RFC 2822. A weekday stands in front, and a comma behind it, or there is none
unfoldable pub rfc2822_error : List ℕ → ReadError
rfc2822_error text =
    let part = behind_gap text in
    if begins_with_letter part
    then elim (weekday_of_letters 3 (front_word part)) [
      | None ↦ error_in text part (weekday_word_error (front_word part))
      | Some d ↦ elim (behind_sign (byte ",") (next_part part)) [ None ↦ error_at NotThisForm (part_place text (next_part part) 0) | Some day ↦ error_from_day text (Some d) day ]
    ]
    else error_from_day text None part

-- known values: a name with a letter too many, and one that no name has
month_word_error-four : month_word_error (codes "Nove") ≡ error_at UnknownName 3
unfolding month_word_error month_of_letters
month_word_error-four = refl

weekday_word_error-letter : weekday_word_error (codes "tux") ≡ error_at UnknownName 2
unfolding weekday_word_error weekday_of_letters weekday_error in_common more_of
weekday_word_error-letter = refl

-- a year of one digit, and one past the calendar
year_word_error-one : year_word_error (codes "7") ≡ error_at NotThisForm 1
unfolding year_word_error leading_digits
year_word_error-one = refl

year_of_word-above : year_of_word (codes "262143") ≡ None
unfolding year_of_word count_of natural_of
year_of_word-above = refl

-- minute 60, and a minute of one digit
two_digits_fault-sixty : two_digits_fault MinuteAbove59 59 (codes "60") ≡ Some (error_at MinuteAbove59 0)
unfolding two_digits_fault fitting digits_of natural_of
two_digits_fault-sixty = refl

two_digits_fault-one : two_digits_fault MinuteAbove59 59 (codes "6") ≡ Some (error_at NotThisForm 1)
unfolding two_digits_fault fitting
two_digits_fault-one = refl

-- zones: hour 24, minute 60, a name with a wrong last letter, the letter that is none, and names that are
zone_fault-hour : zone_fault (codes "+2400") ≡ Some (error_at HourAbove23 1)
unfolding zone_fault zone_digits_fault fitting digits_of natural_of
zone_fault-hour = refl

zone_fault-minute : zone_fault (codes "-2360") ≡ Some (error_at MinuteAbove59 3)
unfolding zone_fault zone_digits_fault fitting digits_of natural_of
zone_fault-minute = refl

zone_fault-letter : zone_fault (codes "GMX") ≡ Some (error_at UnknownName 2)
unfolding zone_fault fitting_zone fitting_two fitting_one hours_behind
zone_fault-letter = refl

zone_fault-j : zone_fault (codes "J") ≡ Some (error_at UnknownName 0)
unfolding zone_fault fitting_zone fitting_one hours_behind
zone_fault-j = refl

zone_fault-pdt : zone_fault (codes "pdt") ≡ None
unfolding zone_fault hours_behind
zone_fault-pdt = refl

-- texts that end early, one in a comment, and one with no comma behind its weekday
rfc2822_error-short : rfc2822_error (codes "21 Nov (1997") ≡ error_at NotThisForm 12
unfolding rfc2822_error error_from_day error_from_month error_from_year next_part gap_end digits_of natural_of month_of_letters year_of_word count_of year_word_error leading_digits
rfc2822_error-short = refl

rfc2822_error-comma : rfc2822_error (codes "Fri 21 Nov") ≡ error_at NotThisForm 4
unfolding rfc2822_error weekday_of_letters next_part behind_sign gap_end
rfc2822_error-comma = refl
