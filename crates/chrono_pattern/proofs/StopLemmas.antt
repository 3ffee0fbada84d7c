-- No text stops a reader because fields are missing: that is told of the parts alone.
use Rattle.std.proofs.Common.{◌≡◌, ℕ, Bool, true, false, ◌&&◌, ◌||◌, ◌*◌, ◌+◌, neg_ℤ, ◌==◌, List, [], ◌∷◌, length, take, Option, None, Some, Result, Ok, Err, IfErr, ℤ, pos, refl, ap, sym, subst, ◌∙◌, if◌then◌else◌}
use Rattle.std.proofs.lemmas.Bool.{true≢false}
use Rattle.std.specs.Int.{int_div_euclid}
use Rattle.std.specs.Int.RustNames.{int_lt}
use Rattle.std.specs.Ordering.{int_eq}
use Rattle.std.specs.Prelude.{min, nat_lt}
use Rattle.std.specs.Str.{byte}
use Rattle.chrono_text.specs.Numbers.{digits_of, signed}
use Rattle.chrono_datetime.specs.Month.{number_from_month}
use Rattle.chrono_datetime.specs.Names.{month_of_letters, weekday_of_letters}
use Rattle.chrono_datetime.specs.Weekday.{number_from_monday}
use Rattle.chrono_datetime.specs.declared.Month.{Month as MonthOf}
use Rattle.chrono_datetime.specs.declared.Weekday.{Weekday}
use Rattle.chrono_pattern.specs.ItemReads.{behind_read, between_behind, between_read, clock_year_read, day_read, group_read, iso_offset_read, iso_read, item_read, three_read, two_read, word_behind_read, zoned_read}
use Rattle.chrono_pattern.specs.NumberReads.{digits_in, digits_read, half_put, has_sign, most_digits, number_part, number_put, number_read, part_put, signed_read, value_read}
use Rattle.chrono_pattern.specs.OffsetReads.{Taken, at_rest, behind_colons, has_seconds, may_miss_minutes, minutes_taken, offset_read, seconds_behind, seconds_taken, signed_offset_read, signed_stamp, size_put, size_taken, stamp_digits, stamp_fault, stamp_value, two_taken, utc_len, utc_or_offset, with_hours, with_minutes, with_seconds, within_two}
use Rattle.chrono_pattern.specs.Parts.{no_parts, part_of, part_range, put, put_stamp, with_part, with_stamp}
use Rattle.chrono_pattern.specs.PatternSteps.{pattern_step}
use Rattle.chrono_pattern.specs.Progress.{Progress, behind_blanks, byte_behind, class_len, fault_without, is_pattern_blank, literal_read, progress, stopped, then_read}
use Rattle.chrono_pattern.specs.Reads.{end_read, front_read, read_from, text_read}
use Rattle.chrono_pattern.specs.SubsecondReads.{places_read, places_value, point_behind, subsecond_read}
use Rattle.chrono_pattern.specs.WordReads.{half_behind, half_of, half_read, least_letters, letters_read, month_behind, month_read, weekday_behind, weekday_read, word_read}
use Rattle.chrono_pattern.specs.declared.class.Class.TheVariants.{Digit}
use Rattle.chrono_pattern.specs.declared.error.ReadFault.{ReadFault}
use Rattle.chrono_pattern.specs.declared.error.ReadFault.TheVariants.{Impossible, Invalid, NotEnough, OutOfRange, TooLong, TooShort}
use Rattle.chrono_pattern.specs.declared.item.GroupField.{GroupField}
use Rattle.chrono_pattern.specs.declared.item.GroupField.TheVariants.{YearMonthDay, MonthDayYear, HourMinute, HourMinuteSecond, HalfClock, DayMonthYear, DateAndTime}
use Rattle.chrono_pattern.specs.declared.item.Item.{Item}
use Rattle.chrono_pattern.specs.declared.item.Item.TheVariants.{Empty, Byte, Number, Word, Group, Subsecond, Zoned}
use Rattle.chrono_pattern.specs.declared.item.NumberField.{NumberField}
use Rattle.chrono_pattern.specs.declared.item.NumberField.TheVariants.{Year, Century, YearOfCentury, Quarter, Month, Day, SpacedDay, DayOfYear, FromMonday, FromSunday, IsoYear, IsoYearOfCentury, IsoWeek, WeekFromSunday, WeekFromMonday, Hour, SpacedHour, HalfHour, SpacedHalfHour, Minute, Second, Nanosecond}
use Rattle.chrono_pattern.specs.declared.item.OffsetForm.{OffsetForm}
use Rattle.chrono_pattern.specs.declared.item.OffsetForm.TheVariants.{Plain, Colon, Seconds, Hours, Loose}
use Rattle.chrono_pattern.specs.declared.item.State.{State}
use Rattle.chrono_pattern.specs.declared.item.State.TheVariants.{Outside}
use Rattle.chrono_pattern.specs.declared.item.WordField.{WordField}
use Rattle.chrono_pattern.specs.declared.item.WordField.TheVariants.{MonthName, MonthLetters, WeekdayName, WeekdayLetters, Half, SmallHalf}
use Rattle.chrono_pattern.specs.declared.item.ZonedField.{ZonedField}
use Rattle.chrono_pattern.specs.declared.item.ZonedField.TheVariants.{Offset, ZoneName, Stamp, Iso8601}
use Rattle.chrono_pattern.specs.declared.parsed.Parsed.{Parsed}
use Rattle.chrono_pattern.specs.declared.parsed.Part.{Part}
use Rattle.chrono_pattern.specs.declared.parsed.Part.TheVariants.{HourDiv12, MonthOfYear, DayOfWeek, NanosecondOfSecond, OffsetFromUtc}
use Rattle.chrono_pattern.specs.declared.stop.Stop.{Stop}

-- a cause that is told at a place of the text
abbrev pub is_of_text : ReadFault → Bool
is_of_text TooShort = true
is_of_text TooLong = true
is_of_text Invalid = true
is_of_text OutOfRange = true
is_of_text Impossible = true
is_of_text NotEnough = false

abbrev PutFair : Result Parsed ReadFault → Type 0
PutFair o = IfErr o (λ k. is_of_text k ≡ true)

abbrev Fair : Result Progress Stop → Type 0
Fair o = IfErr o (λ s. is_of_text s.cause ≡ true)

abbrev TakenFair : Taken → Type 0
TakenFair o = IfErr o (λ s. is_of_text s.cause ≡ true)

if_put : (b : Bool) (x y : Result Parsed ReadFault) → PutFair x → PutFair y → PutFair (if b then x else y)
if_put true x y hx hy = hx
if_put false x y hx hy = hy

if_fair : (b : Bool) (x y : Result Progress Stop) → Fair x → Fair y → Fair (if b then x else y)
if_fair true x y hx hy = hx
if_fair false x y hx hy = hy

if_taken : (b : Bool) (x y : Taken) → TakenFair x → TakenFair y → TakenFair (if b then x else y)
if_taken true x y hx hy = hx
if_taken false x y hx hy = hy

if_cause : (b : Bool) (x y : ReadFault) → is_of_text x ≡ true → is_of_text y ≡ true → is_of_text (if b then x else y) ≡ true
if_cause true x y hx hy = hx
if_cause false x y hx hy = hy

-- ---- parts

found_fair : (part : Part) (v : ℤ) (p : Parsed) (o : Option ℤ)
    → PutFair (elim o as (λ _. Result Parsed ReadFault) [ None ↦ Ok (with_part part v p) | Some w ↦ if int_eq w v then Ok p else Err Impossible ])
found_fair part v p None = tt
found_fair part v p (Some w) = if_put (int_eq w v) (Ok p) (Err Impossible) tt refl

put_fair : (part : Part) (v : ℤ) (p : Parsed) → PutFair (put part v p)
unfolding put
put_fair part v p =
    if_put (int_lt v (part_range part).0) (Err OutOfRange) _ refl
    (if_put (int_lt (part_range part).1 v) (Err OutOfRange) _ refl (found_fair part v p (part_of part p)))

stamp_found_fair : (v : ℤ) (p : Parsed) (o : Option ℤ)
    → PutFair (elim o as (λ _. Result Parsed ReadFault) [ None ↦ Ok (with_stamp v p) | Some w ↦ if int_eq w v then Ok p else Err Impossible ])
stamp_found_fair v p None = tt
stamp_found_fair v p (Some w) = if_put (int_eq w v) (Ok p) (Err Impossible) tt refl

put_stamp_fair : (v : ℤ) (p : Parsed) → PutFair (put_stamp v p)
unfolding put_stamp
put_stamp_fair v p =
    if_put (int_lt v (neg_ℤ (pos 8_334_601_228_800))) (Err OutOfRange) _ refl
    (if_put (int_lt (pos 8_210_266_876_799) v) (Err OutOfRange) _ refl (stamp_found_fair v p p.timestamp))

progress_fair : (o : Result Parsed ReadFault) (rest text : List ℕ) → PutFair o → Fair (progress o rest text)
progress_fair (Ok p) rest text h = tt
progress_fair (Err cause) rest text h = h

-- ---- a number

half_fair : (field : NumberField) (v : ℤ) (p : Parsed) → PutFair (half_put field v p)
half_fair Year v p = tt
half_fair Century v p = tt
half_fair YearOfCentury v p = tt
half_fair Quarter v p = tt
half_fair Month v p = tt
half_fair Day v p = tt
half_fair SpacedDay v p = tt
half_fair DayOfYear v p = tt
half_fair FromMonday v p = tt
half_fair FromSunday v p = tt
half_fair IsoYear v p = tt
half_fair IsoYearOfCentury v p = tt
half_fair IsoWeek v p = tt
half_fair WeekFromSunday v p = tt
half_fair WeekFromMonday v p = tt
half_fair Hour v p = put_fair HourDiv12 (int_div_euclid v (pos 12)) p
half_fair SpacedHour v p = put_fair HourDiv12 (int_div_euclid v (pos 12)) p
half_fair HalfHour v p = tt
half_fair SpacedHalfHour v p = tt
half_fair Minute v p = tt
half_fair Second v p = tt
half_fair Nanosecond v p = tt

part_fair : (o : Result Parsed ReadFault) (field : NumberField) (v : ℤ) → PutFair o → PutFair (part_put o field v)
part_fair (Ok p) field v h = put_fair (number_part field v).0 (number_part field v).1 p
part_fair (Err cause) field v h = h

number_put_fair : (field : NumberField) (v : ℤ) (p : Parsed) → PutFair (number_put field v p)
unfolding number_put
number_put_fair field v p = part_fair (half_put field v p) field v (half_fair field v p)

without_fair : (least : ℕ) (text : List ℕ) → is_of_text (fault_without least text) ≡ true
without_fair least text = if_cause (nat_lt (length text) least) TooShort Invalid refl refl

value_fair : (o : Option ℕ) (field : NumberField) (most : ℕ) (negative : Bool) (text : List ℕ) (p : Parsed) → Fair (value_read o field most negative text p)
value_fair None field most negative text p = without_fair 1 text
value_fair (Some n) field most negative text p =
    progress_fair (number_put field (signed negative n) p) _ text (number_put_fair field (signed negative n) p)

digits_fair : (field : NumberField) (most : ℕ) (negative : Bool) (text : List ℕ) (p : Parsed) → Fair (digits_read field most negative text p)
unfolding digits_read
digits_fair field most negative text p = value_fair (digits_of most (take (digits_in most text) text)) field most negative text p

signed_fair : (field : NumberField) (text : List ℕ) (p : Parsed) → Fair (signed_read field text p)
unfolding signed_read
signed_fair field [] p = refl
signed_fair field (c ∷ digits) p =
    if_fair (c == byte "-") _ _ (digits_fair field 9 true digits p)
    (if_fair (c == byte "+") _ _ (digits_fair field 9 false digits p) (digits_fair field (most_digits field) false (c ∷ digits) p))

number_fair : (field : NumberField) (r : Progress) → Fair (number_read field r)
unfolding number_read
number_fair field r =
    if_fair (has_sign field) _ _ (signed_fair field (behind_blanks r.rest) r.parsed)
    (digits_fair field (most_digits field) false (behind_blanks r.rest) r.parsed)

-- ---- a word

month_fair : (o : Option MonthOf) (whole : Bool) (text : List ℕ) (p : Parsed) → Fair (month_behind o whole text p)
month_fair None whole text p = refl
month_fair (Some m) whole text p =
    progress_fair (put MonthOfYear (pos (number_from_month m)) p) _ text (put_fair MonthOfYear (pos (number_from_month m)) p)

weekday_fair : (o : Option Weekday) (whole : Bool) (text : List ℕ) (p : Parsed) → Fair (weekday_behind o whole text p)
weekday_fair None whole text p = refl
weekday_fair (Some d) whole text p =
    progress_fair (put DayOfWeek (pos (number_from_monday d)) p) _ text (put_fair DayOfWeek (pos (number_from_monday d)) p)

half_of_day_fair : (o : Option ℤ) (text : List ℕ) (p : Parsed) → Fair (half_behind o text p)
half_of_day_fair None text p = refl
half_of_day_fair (Some half) text p = progress_fair (put HourDiv12 half p) _ text (put_fair HourDiv12 half p)

letters_fair : (word : WordField) (r : Progress) → Fair (letters_read word r)
unfolding month_read weekday_read half_read
letters_fair MonthName r = month_fair (month_of_letters (take 3 r.rest)) true r.rest r.parsed
letters_fair MonthLetters r = month_fair (month_of_letters (take 3 r.rest)) false r.rest r.parsed
letters_fair WeekdayName r = weekday_fair (weekday_of_letters 3 (take 3 r.rest)) true r.rest r.parsed
letters_fair WeekdayLetters r = weekday_fair (weekday_of_letters 3 (take 3 r.rest)) false r.rest r.parsed
letters_fair Half r = half_of_day_fair (half_of (take 2 r.rest)) r.rest r.parsed
letters_fair SmallHalf r = half_of_day_fair (half_of (take 2 r.rest)) r.rest r.parsed

word_fair : (word : WordField) (r : Progress) → Fair (word_read word r)
unfolding word_read
word_fair word r = if_fair (nat_lt (length r.rest) (least_letters word)) _ _ refl (letters_fair word r)

-- ---- bytes and groups

then_fair : (o : Result Progress Stop) (next : Progress → Result Progress Stop) → Fair o → ((r : Progress) → Fair (next r)) → Fair (then_read o next)
then_fair (Ok r) next h more = more r
then_fair (Err k) next h more = h

byte_fair : (c : ℕ) (text : List ℕ) (p : Parsed) → Fair (byte_behind c text p)
byte_fair c [] p = refl
byte_fair c (d ∷ rest) p = if_fair (d == c) _ (Err (stopped Invalid (d ∷ rest))) tt refl

literal_fair : (c : ℕ) (r : Progress) → Fair (literal_read c r)
unfolding literal_read
literal_fair c r = if_fair (is_pattern_blank c) _ _ tt (byte_fair c r.rest r.parsed)

behind_fair : (c : ℕ) (field : NumberField) (r : Progress) → Fair (behind_read c field r)
behind_fair c field r = then_fair (literal_read c r) (number_read field) (literal_fair c r) (number_fair field)

word_behind_fair : (c : ℕ) (word : WordField) (r : Progress) → Fair (word_behind_read c word r)
word_behind_fair c word r = then_fair (literal_read c r) (word_read word) (literal_fair c r) (word_fair word)

two_fair : (first : NumberField) (c : ℕ) (second : NumberField) (r : Progress) → Fair (two_read first c second r)
two_fair first c second r = then_fair (number_read first r) (behind_read c second) (number_fair first r) (behind_fair c second)

three_fair : (first : NumberField) (c : ℕ) (second third : NumberField) (r : Progress) → Fair (three_read first c second third r)
three_fair first c second third r = then_fair (two_read first c second r) (behind_read c third) (two_fair first c second r) (behind_fair c third)

day_fair : (r : Progress) → Fair (day_read r)
day_fair r =
    then_fair (then_read (word_read WeekdayLetters r) (word_behind_read (byte " ") MonthLetters)) (behind_read (byte " ") SpacedDay)
    (then_fair (word_read WeekdayLetters r) (word_behind_read (byte " ") MonthLetters) (word_fair WeekdayLetters r) (word_behind_fair (byte " ") MonthLetters))
    (behind_fair (byte " ") SpacedDay)

clock_year_fair : (r : Progress) → Fair (clock_year_read r)
clock_year_fair r =
    let hour = behind_fair (byte " ") Hour r in
    let minute = then_fair (behind_read (byte " ") Hour r) (behind_read (byte ":") Minute) hour (behind_fair (byte ":") Minute) in
    let second = then_fair (then_read (behind_read (byte " ") Hour r) (behind_read (byte ":") Minute)) (behind_read (byte ":") Second) minute (behind_fair (byte ":") Second) in
    then_fair (then_read (then_read (behind_read (byte " ") Hour r) (behind_read (byte ":") Minute)) (behind_read (byte ":") Second)) (behind_read (byte " ") Year)
    second (behind_fair (byte " ") Year)

group_fair : (group : GroupField) (r : Progress) → Fair (group_read group r)
unfolding group_read
group_fair YearMonthDay r = three_fair Year (byte "-") Month Day r
group_fair MonthDayYear r = three_fair Month (byte "/") Day YearOfCentury r
group_fair HourMinute r = two_fair Hour (byte ":") Minute r
group_fair HourMinuteSecond r = three_fair Hour (byte ":") Minute Second r
group_fair HalfClock r =
    then_fair (three_read HalfHour (byte ":") Minute Second r) (word_behind_read (byte " ") Half) (three_fair HalfHour (byte ":") Minute Second r) (word_behind_fair (byte " ") Half)
group_fair DayMonthYear r =
    then_fair (then_read (number_read SpacedDay r) (word_behind_read (byte "-") MonthLetters)) (behind_read (byte "-") Year)
    (then_fair (number_read SpacedDay r) (word_behind_read (byte "-") MonthLetters) (number_fair SpacedDay r) (word_behind_fair (byte "-") MonthLetters))
    (behind_fair (byte "-") Year)
group_fair DateAndTime r = then_fair (day_read r) clock_year_read (day_fair r) clock_year_fair

-- ---- a fraction

places_value_fair : (o : Option ℕ) (places count : ℕ) (text : List ℕ) (p : Parsed) → Fair (places_value o places count text p)
places_value_fair None places count text p = without_fair 1 text
places_value_fair (Some n) places count text p = progress_fair (put NanosecondOfSecond _ p) _ text (put_fair NanosecondOfSecond _ p)

places_fair : (places count : ℕ) (text : List ℕ) (p : Parsed) → Fair (places_read places count text p)
unfolding places_read
places_fair places count text p = places_value_fair (digits_of places (take places text)) places count text p

point_fair : (text : List ℕ) (p : Parsed) → Fair (point_behind text p)
point_fair [] p = tt
point_fair (c ∷ digits) p =
    if_fair (c == byte ".") _ _ (places_fair (min (class_len Digit digits) 9) (class_len Digit digits) digits p) tt

subsecond_fair : (point : Bool) (count : ℕ) (r : Progress) → Fair (subsecond_read point count r)
unfolding subsecond_read
subsecond_fair point count r =
    if_fair point _ _ (point_fair r.rest r.parsed)
    (if_fair (nat_lt (length r.rest) (min count 9)) _ _ refl (places_fair (min count 9) (min count 9) r.rest r.parsed))

-- ---- an offset and the seconds from 1970

within_fair : (o : Option ℕ) (most : ℕ) (r : Progress) → TakenFair (within_two o most r)
within_fair None most r = refl
within_fair (Some n) most r = if_taken (nat_lt most n) _ _ refl tt

two_digits_fair : (most : ℕ) (r : Progress) → TakenFair (two_taken most r)
unfolding two_taken
two_digits_fair most r = if_taken (nat_lt (length r.rest) 2) _ _ refl (within_fair (digits_of 2 (take 2 r.rest)) most r)

minutes_fair : (missing : Bool) (r : Progress) → TakenFair (minutes_taken missing r)
unfolding minutes_taken
minutes_fair missing r =
    if_taken (missing && class_len Digit (behind_colons r.rest) == 0) _ _ tt (two_digits_fair 59 (at_rest (behind_colons r.rest) r.parsed))

seconds_fair : (asked : Bool) (text : List ℕ) (p : Parsed) → TakenFair (seconds_behind asked text p)
seconds_fair asked [] p = tt
seconds_fair asked (c ∷ text) p = if_taken (asked && c == byte ":") _ _ (two_digits_fair 59 (at_rest text p)) tt

with_seconds_fair : (o : Taken) (minutes : ℕ) → TakenFair o → TakenFair (with_seconds o minutes)
with_seconds_fair (Err k) minutes h = h
with_seconds_fair (Ok t) minutes h = tt

with_minutes_fair : (o : Taken) (form : OffsetForm) (hours : ℕ) → TakenFair o → TakenFair (with_minutes o form hours)
with_minutes_fair (Err k) form hours h = h
with_minutes_fair (Ok t) form hours h =
    with_seconds_fair (seconds_taken (has_seconds form) t.1) (hours * 60 + t.0) (seconds_fair (has_seconds form) t.1.rest t.1.parsed)

with_hours_fair : (o : Taken) (form : OffsetForm) → TakenFair o → TakenFair (with_hours o form)
with_hours_fair (Err k) form h = h
with_hours_fair (Ok t) form h = with_minutes_fair (minutes_taken (may_miss_minutes form) t.1) form t.0 (minutes_fair (may_miss_minutes form) t.1)

size_fair : (form : OffsetForm) (r : Progress) → TakenFair (size_taken form r)
unfolding size_taken
size_fair form r = with_hours_fair (two_taken 99 r) form (two_digits_fair 99 r)

size_put_fair : (o : Taken) (negative : Bool) (text : List ℕ) → TakenFair o → Fair (size_put o negative text)
size_put_fair (Err k) negative text h = h
size_put_fair (Ok t) negative text h =
    progress_fair (put OffsetFromUtc (signed negative t.0) t.1.parsed) _ text (put_fair OffsetFromUtc (signed negative t.0) t.1.parsed)

signed_offset_fair : (form : OffsetForm) (text : List ℕ) (p : Parsed) → Fair (signed_offset_read form text p)
unfolding signed_offset_read
signed_offset_fair form [] p = refl
signed_offset_fair form (c ∷ digits) p =
    let size = size_fair form (at_rest digits p) in
    if_fair (c == byte "-") _ _ (size_put_fair (size_taken form (at_rest digits p)) true (c ∷ digits) size)
    (if_fair (c == byte "+") _ _ (size_put_fair (size_taken form (at_rest digits p)) false (c ∷ digits) size) refl)

utc_fair : (named : Bool) (form : OffsetForm) (text : List ℕ) (p : Parsed) → Fair (utc_or_offset named form text p)
unfolding utc_or_offset
utc_fair named form text p =
    if_fair (nat_lt 0 (utc_len named text)) _ _ (progress_fair (put OffsetFromUtc (pos 0) p) _ text (put_fair OffsetFromUtc (pos 0) p))
    (signed_offset_fair form text p)

offset_fair : (form : OffsetForm) (r : Progress) → Fair (offset_read form r)
unfolding offset_read
offset_fair Plain r = signed_offset_fair Plain (behind_blanks r.rest) r.parsed
offset_fair Colon r = signed_offset_fair Colon (behind_blanks r.rest) r.parsed
offset_fair Seconds r = signed_offset_fair Seconds (behind_blanks r.rest) r.parsed
offset_fair Hours r = signed_offset_fair Hours (behind_blanks r.rest) r.parsed
offset_fair Loose r = utc_fair false Loose (behind_blanks r.rest) r.parsed

stamp_cause : (text : List ℕ) → is_of_text (stamp_fault text) ≡ true
stamp_cause text = if_cause (class_len Digit text == 0) (fault_without 1 text) OutOfRange (without_fair 1 text) refl

stamp_value_fair : (o : Option ℕ) (negative : Bool) (text : List ℕ) (p : Parsed) → Fair (stamp_value o negative text p)
stamp_value_fair None negative text p = stamp_cause text
stamp_value_fair (Some n) negative text p = progress_fair (put_stamp (signed negative n) p) _ text (put_stamp_fair (signed negative n) p)

stamp_digits_fair : (negative : Bool) (text : List ℕ) (p : Parsed) → Fair (stamp_digits negative text p)
unfolding stamp_digits
stamp_digits_fair negative text p = stamp_value_fair (digits_of 18 (take (class_len Digit text) text)) negative text p

signed_stamp_fair : (text : List ℕ) (p : Parsed) → Fair (signed_stamp text p)
unfolding signed_stamp
signed_stamp_fair [] p = refl
signed_stamp_fair (c ∷ digits) p =
    if_fair (c == byte "-") _ _ (stamp_digits_fair true digits p)
    (if_fair (c == byte "+") _ _ (stamp_digits_fair false digits p) (stamp_digits_fair false (c ∷ digits) p))

between_fair : (text : List ℕ) (p : Parsed) → Fair (between_behind text p)
between_fair [] p = refl
between_fair (c ∷ rest) p = if_fair ((c == byte "T") || (c == byte "t") || (c == byte " ")) _ (Err (stopped Invalid (c ∷ rest))) tt refl

iso_fair : (r : Progress) → Fair (iso_read r)
unfolding iso_read
iso_fair r =
    let date = then_fair (group_read YearMonthDay r) between_read (group_fair YearMonthDay r) (λ t. between_fair t.rest t.parsed) in
    let clock = then_fair (then_read (group_read YearMonthDay r) between_read) (group_read HourMinuteSecond) date (group_fair HourMinuteSecond) in
    let fraction = then_fair (then_read (then_read (group_read YearMonthDay r) between_read) (group_read HourMinuteSecond)) (subsecond_read true 0) clock (subsecond_fair true 0) in
    then_fair (then_read (then_read (then_read (group_read YearMonthDay r) between_read) (group_read HourMinuteSecond)) (subsecond_read true 0)) iso_offset_read
    fraction (λ t. utc_fair true Colon (behind_blanks t.rest) t.parsed)

zoned_fair : (field : ZonedField) (r : Progress) → Fair (zoned_read field r)
zoned_fair (Offset form) r = offset_fair form r
zoned_fair ZoneName r = tt
zoned_fair Stamp r = signed_stamp_fair (behind_blanks r.rest) r.parsed
zoned_fair Iso8601 r = iso_fair r

-- ---- all items

item_fair : (item : Item) (r : Progress) → Fair (item_read item r)
item_fair Empty r = tt
item_fair (Byte c) r = literal_fair c r
item_fair (Number field padding) r = number_fair field r
item_fair (Word word) r = word_fair word r
item_fair (Group group) r = group_fair group r
item_fair (Subsecond point count) r = subsecond_fair point count r
item_fair (Zoned field) r = zoned_fair field r

abbrev FromFair : List ℕ → Type 0
FromFair bytes = (s : State) (r : Progress) → Fair (read_from s bytes r)

behind_item_fair : (bytes : List ℕ) → FromFair bytes → (s : State) (a : Result Progress Stop) → Fair a
    → Fair (elim a as (λ _. Result Progress Stop) [ Ok t ↦ read_from s bytes t | Err k ↦ Err k ])
behind_item_fair bytes rest s (Ok t) h = rest s t
behind_item_fair bytes rest s (Err k) h = h

step_fair : (bytes : List ℕ) → FromFair bytes → (r : Progress) (o : Option (State × Item))
    → Fair (elim o as (λ _. Result Progress Stop) [ None ↦ Ok r | Some n ↦ elim (item_read n.1 r) as (λ _. Result Progress Stop) [ Ok t ↦ read_from n.0 bytes t | Err k ↦ Err k ] ])
step_fair bytes rest r None = tt
step_fair bytes rest r (Some n) = behind_item_fair bytes rest n.0 (item_read n.1 r) (item_fair n.1 r)

from_fair : (bytes : List ℕ) → FromFair bytes
unfolding read_from
from_fair [] s r = tt
from_fair (c ∷ bytes) s r = step_fair bytes (from_fair bytes) r (pattern_step s c)

abbrev EndFair : Result Parsed Stop → Type 0
EndFair o = IfErr o (λ s. is_of_text s.cause ≡ true)

if_end : (b : Bool) (x y : Result Parsed Stop) → EndFair x → EndFair y → EndFair (if b then x else y)
if_end true x y hx hy = hx
if_end false x y hx hy = hy

end_fair : (o : Result Progress Stop) → Fair o → EndFair (end_read o)
end_fair (Ok r) h = if_end (length r.rest == 0) (Ok r.parsed) (Err (stopped TooLong r.rest)) tt refl
end_fair (Err k) h = h

not_missing : (cause : ReadFault) → is_of_text cause ≡ true → cause ≡ NotEnough → ⊥
not_missing cause h e = true≢false (sym h ∙ ap (λ (k : ReadFault). is_of_text k) e)

pub text_stop : (bytes text : List ℕ) (stop : Stop) → text_read bytes text ≡ Err stop → stop.cause ≡ NotEnough → ⊥
text_stop bytes text stop e =
    not_missing stop.cause (subst (λ (o : Result Parsed Stop). EndFair o) e (end_fair (front_read bytes text) (from_fair bytes Outside (at_rest text no_parts))))

pub front_stop : (bytes text : List ℕ) (stop : Stop) → front_read bytes text ≡ Err stop → stop.cause ≡ NotEnough → ⊥
front_stop bytes text stop e =
    not_missing stop.cause (subst (λ (o : Result Progress Stop). Fair o) e (from_fair bytes Outside (at_rest text no_parts)))
