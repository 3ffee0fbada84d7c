-- The text of a pattern of ASCII bytes is ASCII.
use Rattle.std.proofs.Common.{◌≡◌, ℕ, suc, ◌-◌, ◌/◌, ◌%◌, ◌^◌, ◌<◌, ◌==◌, nat_lt, Bool, true, false, ◌&&◌, if◌then◌else◌, List, [], ◌∷◌, ◌++◌, codes, take, length, Option, None, Some, ℤ, pos, refl, sym, subst, arith}
use Rattle.std.proofs.lemmas.Bool.{and_parts, ltb-true}
use Rattle.std.proofs.lemmas.Fmt.{IsAscii-decimal}
use Rattle.std.proofs.lemmas.Str.{IsAscii-append, IsAscii-take}
use Rattle.std.proofs.lemmas.Str.Ascii.{IsAscii-cons, IsAscii-nil}
use Rattle.std.specs.Fmt.{decimal}
use Rattle.std.specs.Int.RustNames.{int_lt}
use Rattle.std.specs.Int.{is_negative}
use Rattle.std.specs.Prelude.{⊤, ◌-ℤ◌, unsigned_abs}
use Rattle.std.specs.Str.{IsAscii, byte}
use Rattle.chrono_calendar.proofs.IsoDates.{before_monday-bound, iso_week_of-bounds}
use Rattle.chrono_calendar.proofs.IsoWeeks.{iso_year_of-range}
use Rattle.chrono_calendar.proofs.MonthMoveLaws.{year_of-range}
use Rattle.chrono_calendar.proofs.NamedDates.{calendar_name-exists, day_of-small}
use Rattle.chrono_calendar.proofs.Names.{year_length_bounds}
use Rattle.chrono_calendar.proofs.Signed.{signed}
use Rattle.chrono_datetime.proofs.SetTexts.{IsAscii-weekday_text}
use Rattle.chrono_text.proofs.AsciiTexts.{IsAscii-all_digits, IsAscii-two_digits}
use Rattle.chrono_text.specs.Text.{all_digits, colon_seconds_text, two_digits}
use Rattle.chrono_instant.specs.Instants.{epoch_second}
use Rattle.chrono_instant.specs.OffsetText.{offset_size_text, offset_text}
use Rattle.chrono_instant.specs.Offsets.{IsOffset}
use Rattle.chrono_datetime.specs.Days.{IsDate, month_of, year_of}
use Rattle.chrono_datetime.specs.Duration.{nanos_per_second}
use Rattle.chrono_datetime.specs.Moment.{Moment}
use Rattle.chrono_datetime.specs.Month.{month_from_number, month_name}
use Rattle.chrono_datetime.specs.Names.{weekday_name}
use Rattle.chrono_datetime.specs.Time.{IsTime, TimeOfDay, hour_of}
use Rattle.chrono_datetime.specs.Weeks.{iso_year_of, weekday_of}
use Rattle.chrono_datetime.specs.declared.Month.{Month as MonthOf}
use Rattle.chrono_datetime.specs.declared.Month.TheVariants.{January, February, March, April, May, June, July, August, September, October, November, December}
use Rattle.chrono_datetime.specs.declared.Weekday.{Weekday}
use Rattle.chrono_datetime.specs.declared.Weekday.TheVariants.{Mon, Tue, Wed, Thu, Fri, Sat, Sun}
use Rattle.chrono_pattern.specs.Groups.{clock_with, group_text, usual_text}
use Rattle.chrono_pattern.specs.Numbers.{field_text, least_digits, padded, padding_of, sign_of, size_of, year_sign}
use Rattle.chrono_pattern.specs.PatternItems.{IsAsciiItem}
use Rattle.chrono_pattern.specs.Patterns.{text_at_offset, text_from, text_of_item}
use Rattle.chrono_pattern.specs.PatternSteps.{colon_step, date_number_at, digits_at, group_at, grouped_step, named_step, opened_step, padding_at, pattern_step, single_step, stamped_step, time_number_at, timed_step, unless_padded, unpadded_step, word_at, zoned_step}
use Rattle.chrono_pattern.specs.Subseconds.{digit_count, fraction_with, nine_digits, subsecond_of}
use Rattle.chrono_pattern.specs.Words.{word_text}
use Rattle.chrono_pattern.specs.ZonedPieces.{colon_piece, hours_piece, iso_piece, minutes_piece, offset_piece, stamp_piece, zoned_piece}
use Rattle.chrono_pattern.specs.declared.item.GroupField.{GroupField}
use Rattle.chrono_pattern.specs.declared.item.GroupField.TheVariants.{YearMonthDay, MonthDayYear, HourMinute, HourMinuteSecond, HalfClock, DayMonthYear, DateAndTime}
use Rattle.chrono_pattern.specs.declared.item.Item.{Item}
use Rattle.chrono_pattern.specs.declared.item.Item.TheVariants.{Empty, Byte, Number, Word, Group, Subsecond, Zoned}
use Rattle.chrono_pattern.specs.declared.item.NumberField.{NumberField}
use Rattle.chrono_pattern.specs.declared.item.NumberField.TheVariants.{Year, Century, YearOfCentury, Quarter, Month, Day, SpacedDay, DayOfYear, FromMonday, FromSunday, IsoYear, IsoYearOfCentury, IsoWeek, WeekFromSunday, WeekFromMonday, Hour, SpacedHour, HalfHour, SpacedHalfHour, Minute, Second, Nanosecond}
use Rattle.chrono_pattern.specs.declared.item.Padding.{Padding}
use Rattle.chrono_pattern.specs.declared.item.Padding.TheVariants.{Usual, Nothing, Spaces, Zeros}
use Rattle.chrono_pattern.specs.declared.item.OffsetForm.{OffsetForm}
use Rattle.chrono_pattern.specs.declared.item.OffsetForm.TheVariants.{Plain, Colon, Seconds, Hours, Loose}
use Rattle.chrono_pattern.specs.declared.item.ZonedField.{ZonedField}
use Rattle.chrono_pattern.specs.declared.item.ZonedField.TheVariants.{Offset, ZoneName, Stamp, Iso8601}
use Rattle.chrono_pattern.specs.declared.item.State.{State}
use Rattle.chrono_pattern.specs.declared.item.State.TheVariants.{Outside, Opened, Digits, Marked}
use Rattle.chrono_pattern.specs.declared.item.WordField.{WordField}
use Rattle.chrono_pattern.specs.declared.item.WordField.TheVariants.{MonthName, MonthLetters, WeekdayName, WeekdayLetters, Half, SmallHalf}
use Rattle.chrono_pattern.proofs.PatternLemmas.{text_from-more, text_from-none, text_from-nothing}
use Rattle.chrono_pattern.proofs.YearWeekLemmas.{ordinal_bounds, weekday_bounds, weeks_few}

-- ---- texts that are written out

abbrev all_small : List ℕ → Bool
all_small [] = true
all_small (b ∷ bs) = nat_lt b 128 && all_small bs

ascii : (bs : List ℕ) → all_small bs ≡ true → IsAscii bs
ascii [] h = IsAscii-nil
ascii (b ∷ bs) h =
    let both = and_parts (nat_lt b 128) (all_small bs) h in
    IsAscii-cons b bs (ltb-true b 128 both.0) (ascii bs both.1)

month_ascii : (d : MonthOf) → IsAscii (month_name d)
month_ascii January = ascii (codes "January") refl
month_ascii February = ascii (codes "February") refl
month_ascii March = ascii (codes "March") refl
month_ascii April = ascii (codes "April") refl
month_ascii May = ascii (codes "May") refl
month_ascii June = ascii (codes "June") refl
month_ascii July = ascii (codes "July") refl
month_ascii August = ascii (codes "August") refl
month_ascii September = ascii (codes "September") refl
month_ascii October = ascii (codes "October") refl
month_ascii November = ascii (codes "November") refl
month_ascii December = ascii (codes "December") refl

weekday_ascii : (d : Weekday) → IsAscii (weekday_name d)
weekday_ascii Mon = ascii (codes "Monday") refl
weekday_ascii Tue = ascii (codes "Tuesday") refl
weekday_ascii Wed = ascii (codes "Wednesday") refl
weekday_ascii Thu = ascii (codes "Thursday") refl
weekday_ascii Fri = ascii (codes "Friday") refl
weekday_ascii Sat = ascii (codes "Saturday") refl
weekday_ascii Sun = ascii (codes "Sunday") refl

either : (b : Bool) (x y : List ℕ) → IsAscii x → IsAscii y → IsAscii (if b then x else y)
either true x y hx hy = hx
either false x y hx hy = hy

either_small : (b : Bool) (x y : ℕ) → x < 2 ^ 64 → y < 2 ^ 64 → (if b then x else y) < 2 ^ 64
either_small true x y hx hy = hx
either_small false x y hx hy = hy

word_ascii : (w : WordField) (m : Moment) → IsAscii (word_text w m)
unfolding word_text
word_ascii MonthName m = month_ascii (month_from_number (month_of m.date))
word_ascii MonthLetters m = IsAscii-take (month_name (month_from_number (month_of m.date))) 3 (month_ascii (month_from_number (month_of m.date)))
word_ascii WeekdayName m = weekday_ascii (weekday_of m.date)
word_ascii WeekdayLetters m = IsAscii-weekday_text (weekday_of m.date)
word_ascii Half m = either (nat_lt (hour_of m.time) 12) (codes "AM") (codes "PM") (ascii (codes "AM") refl) (ascii (codes "PM") refl)
word_ascii SmallHalf m = either (nat_lt (hour_of m.time) 12) (codes "am") (codes "pm") (ascii (codes "am") refl) (ascii (codes "pm") refl)

-- ---- numbers

padded_ascii : (p : Padding) (least : ℕ) (sign : List ℕ) (n : ℕ) → IsAscii sign → n < 2 ^ 64 → IsAscii (padded p least sign n)
padded_ascii Spaces least sign n signed small =
    let spaces = codes "         " in
    let missing = least - length (decimal n) in
    IsAscii-append (take missing spaces ++ sign) (decimal n)
    (IsAscii-append (take missing spaces) sign (IsAscii-take spaces missing (ascii spaces refl)) signed) (IsAscii-decimal n small)
padded_ascii Zeros least sign n signed small =
    let zeros = codes "000000000" in
    let missing = least - length (decimal n) in
    IsAscii-append (sign ++ take missing zeros) (decimal n)
    (IsAscii-append sign (take missing zeros) signed (IsAscii-take zeros missing (ascii zeros refl))) (IsAscii-decimal n small)
padded_ascii Nothing least sign n signed small = IsAscii-append sign (decimal n) signed (IsAscii-decimal n small)
padded_ascii Usual least sign n signed small = IsAscii-append sign (decimal n) signed (IsAscii-decimal n small)

year_sign_ascii : (y : ℤ) → IsAscii (year_sign y)
year_sign_ascii y =
    either (int_lt y (pos 0)) (codes "-") (if int_lt (pos 9_999) y then codes "+" else []) (ascii (codes "-") refl)
    (either (int_lt (pos 9_999) y) (codes "+") [] (ascii (codes "+") refl) IsAscii-nil)

sign_ascii : (field : NumberField) (m : Moment) → IsAscii (sign_of field m)
sign_ascii Year m = year_sign_ascii (year_of m.date)
sign_ascii IsoYear m = year_sign_ascii (iso_year_of m.date)
sign_ascii Century m = either (int_lt (year_of m.date) (pos 0)) (codes "-") [] (ascii (codes "-") refl) IsAscii-nil
sign_ascii YearOfCentury m = IsAscii-nil
sign_ascii Quarter m = IsAscii-nil
sign_ascii Month m = IsAscii-nil
sign_ascii Day m = IsAscii-nil
sign_ascii SpacedDay m = IsAscii-nil
sign_ascii DayOfYear m = IsAscii-nil
sign_ascii FromMonday m = IsAscii-nil
sign_ascii FromSunday m = IsAscii-nil
sign_ascii IsoYearOfCentury m = IsAscii-nil
sign_ascii IsoWeek m = IsAscii-nil
sign_ascii WeekFromSunday m = IsAscii-nil
sign_ascii WeekFromMonday m = IsAscii-nil
sign_ascii Hour m = IsAscii-nil
sign_ascii SpacedHour m = IsAscii-nil
sign_ascii HalfHour m = IsAscii-nil
sign_ascii SpacedHalfHour m = IsAscii-nil
sign_ascii Minute m = IsAscii-nil
sign_ascii Second m = IsAscii-nil
sign_ascii Nanosecond m = IsAscii-nil

size_small : (field : NumberField) (m : Moment) → IsDate m.date → IsTime m.time → size_of field m < 2 ^ 64
size_small Year m date time = omega (arith, signed, (year_of-range m.date date).0, (year_of-range m.date date).1)
size_small Century m date time = omega (arith, signed, (year_of-range m.date date).0, (year_of-range m.date date).1)
size_small YearOfCentury m date time = omega (arith, signed)
size_small Quarter m date time = omega (arith, (calendar_name-exists m.date).0)
size_small Month m date time = omega (arith, (calendar_name-exists m.date).0)
size_small Day m date time = omega (arith, day_of-small m.date)
size_small SpacedDay m date time = omega (arith, day_of-small m.date)
size_small DayOfYear m date time = omega (arith, ordinal_bounds m.date)
size_small FromMonday m date time = omega (arith, weekday_bounds m.date)
size_small FromSunday m date time = omega arith
size_small IsoYear m date time = omega (arith, signed, (iso_year_of-range m.date date).0, (iso_year_of-range m.date date).1)
size_small IsoYearOfCentury m date time = omega (arith, signed)
size_small IsoWeek m date time = omega (arith, iso_week_of-bounds m.date, year_length_bounds (iso_year_of m.date), before_monday-bound (iso_year_of m.date))
size_small WeekFromSunday m date time = omega (arith, weeks_few 0 m.date (omega arith))
size_small WeekFromMonday m date time = omega (arith, weeks_few 1 m.date (omega arith))
size_small Hour m date time = omega (arith, time.second)
size_small SpacedHour m date time = omega (arith, time.second)
size_small HalfHour m date time = either_small (hour_of m.time % 12 == 0) 12 (hour_of m.time % 12) (omega arith) (omega arith)
size_small SpacedHalfHour m date time = either_small (hour_of m.time % 12 == 0) 12 (hour_of m.time % 12) (omega arith) (omega arith)
size_small Minute m date time = omega arith
size_small Second m date time = omega (arith, time.fraction)
size_small Nanosecond m date time = omega arith

number_ascii : (field : NumberField) (p : Padding) (m : Moment) → IsDate m.date → IsTime m.time → IsAscii (field_text field p m)
unfolding field_text
number_ascii field p m date time =
    padded_ascii (padding_of field p) (least_digits field (length (sign_of field m))) (sign_of field m) (size_of field m) (sign_ascii field m) (size_small field m date time)

-- ---- groups

behind : (text : List ℕ) (c : ℕ) (next : List ℕ) → IsAscii text → c < 128 → IsAscii next → IsAscii (text ++ (c ∷ next))
behind text c next first small second = IsAscii-append text (c ∷ next) first (IsAscii-cons c next small second)

usual_ascii : (field : NumberField) (m : Moment) → IsDate m.date → IsTime m.time → IsAscii (usual_text field m)
usual_ascii field m date time = number_ascii field Usual m date time

three_ascii : (first : NumberField) (c : ℕ) (second third : NumberField) (m : Moment) → c < 128 → IsDate m.date → IsTime m.time
    → IsAscii ((usual_text first m ++ (c ∷ usual_text second m)) ++ (c ∷ usual_text third m))
three_ascii first c second third m small date time =
    behind (usual_text first m ++ (c ∷ usual_text second m)) c (usual_text third m)
    (behind (usual_text first m) c (usual_text second m) (usual_ascii first m date time) small (usual_ascii second m date time)) small (usual_ascii third m date time)

day_ascii : (m : Moment) → IsDate m.date → IsTime m.time
    → IsAscii ((word_text WeekdayLetters m ++ (32 ∷ word_text MonthLetters m)) ++ (32 ∷ usual_text SpacedDay m))
day_ascii m date time =
    behind (word_text WeekdayLetters m ++ (32 ∷ word_text MonthLetters m)) 32 (usual_text SpacedDay m)
    (behind (word_text WeekdayLetters m) 32 (word_text MonthLetters m) (word_ascii WeekdayLetters m) (omega arith) (word_ascii MonthLetters m))
    (omega arith) (usual_ascii SpacedDay m date time)

clock_ascii : (hour : NumberField) (m : Moment) → IsDate m.date → IsTime m.time → IsAscii (clock_with hour m)
clock_ascii hour m date time = three_ascii hour 58 Minute Second m (omega arith) date time

group_ascii : (g : GroupField) (m : Moment) → IsDate m.date → IsTime m.time → IsAscii (group_text g m)
unfolding group_text
group_ascii YearMonthDay m date time = three_ascii Year 45 Month Day m (omega arith) date time
group_ascii MonthDayYear m date time = three_ascii Month 47 Day YearOfCentury m (omega arith) date time
group_ascii HourMinute m date time =
    behind (usual_text Hour m) 58 (usual_text Minute m) (usual_ascii Hour m date time) (omega arith) (usual_ascii Minute m date time)
group_ascii HourMinuteSecond m date time = clock_ascii Hour m date time
group_ascii HalfClock m date time =
    behind (clock_with HalfHour m) 32 (word_text Half m) (clock_ascii HalfHour m date time) (omega arith) (word_ascii Half m)
group_ascii DayMonthYear m date time =
    behind (usual_text SpacedDay m ++ (45 ∷ word_text MonthLetters m)) 45 (usual_text Year m)
    (behind (usual_text SpacedDay m) 45 (word_text MonthLetters m) (usual_ascii SpacedDay m date time) (omega arith) (word_ascii MonthLetters m))
    (omega arith) (usual_ascii Year m date time)
group_ascii DateAndTime m date time =
    let day = (word_text WeekdayLetters m ++ (32 ∷ word_text MonthLetters m)) ++ (32 ∷ usual_text SpacedDay m) in
    behind (day ++ (32 ∷ clock_with Hour m)) 32 (usual_text Year m)
    (behind day 32 (clock_with Hour m) (day_ascii m date time) (omega arith) (clock_ascii Hour m date time)) (omega arith) (usual_ascii Year m date time)

-- ---- the fraction of a second

nine_ascii : (n : ℕ) → n < nanos_per_second → IsAscii (nine_digits n)
nine_ascii n small =
    IsAscii-append (all_digits 3 (n / 1_000_000) ++ all_digits 3 (n / 1_000 % 1_000)) (all_digits 3 (n % 1_000))
    (IsAscii-append (all_digits 3 (n / 1_000_000)) (all_digits 3 (n / 1_000 % 1_000)) (IsAscii-all_digits 3 (n / 1_000_000) (omega (arith, small)))
    (IsAscii-all_digits 3 (n / 1_000 % 1_000) (omega arith)))
    (IsAscii-all_digits 3 (n % 1_000) (omega arith))

fraction_ascii : (point : Bool) (count n : ℕ) → n < nanos_per_second → IsAscii (fraction_with point count n)
fraction_ascii point count n small =
    IsAscii-append (if point && nat_lt 0 count then codes "." else []) (take count (nine_digits n))
    (either (point && nat_lt 0 count) (codes ".") [] (ascii (codes ".") refl) IsAscii-nil) (IsAscii-take (nine_digits n) count (nine_ascii n small))

subsecond_ascii : (point : Bool) (count : ℕ) (t : TimeOfDay) → IsAscii (subsecond_of point count t)
unfolding subsecond_of
subsecond_ascii point count t =
    fraction_ascii point (digit_count count (t.fraction % nanos_per_second)) (t.fraction % nanos_per_second) (omega arith)

-- ---- items, whose bytes are the pattern's own or a line feed, a tab or `%`

abbrev pub Steps : Option (State × Item) → Type 0
Steps None = ⊤
Steps (Some next) = IsAsciiItem next.1

if_steps : (b : Bool) (x y : Option (State × Item)) → Steps x → Steps y → Steps (if b then x else y)
if_steps true x y hx hy = hx
if_steps false x y hx hy = hy

digits_small : (point : Bool) (c : ℕ) → Steps (digits_at point c)
digits_small point c =
    if_steps (c == byte "3") _ _ tt (if_steps (c == byte "6") _ _ tt (if_steps (c == byte "9") _ _ tt tt))

zoned_small : (c : ℕ) → Steps (zoned_step c)
zoned_small c =
    if_steps (c == byte "z") _ _ tt
    (if_steps (c == byte "Z") _ _ tt
    (if_steps (c == byte "+") _ _ tt
    (if_steps (c == byte ":") _ _ tt (if_steps (c == byte "#") _ _ tt (digits_small false c)))))

colon_small : (form : OffsetForm) → Steps (colon_step form)
colon_small Plain = tt
colon_small Colon = tt
colon_small Seconds = tt
colon_small Hours = tt
colon_small Loose = tt

single_small : (c : ℕ) → Steps (single_step c)
single_small c =
    if_steps (c == byte "%") _ _ (omega arith)
    (if_steps (c == byte "n") _ _ (omega arith) (if_steps (c == byte "t") _ _ (omega arith) (if_steps (c == byte ".") _ _ tt (zoned_small c))))

grouped_small : (c : ℕ) (o : Option GroupField) → Steps (elim o as (λ _. Option (State × Item)) [ None ↦ single_step c | Some g ↦ Some (Outside, Group g) ])
grouped_small c None = single_small c
grouped_small c (Some g) = tt

named_small : (c : ℕ) (o : Option WordField) → Steps (elim o as (λ _. Option (State × Item)) [ None ↦ grouped_step c | Some w ↦ Some (Outside, Word w) ])
named_small c None = grouped_small c (group_at c)
named_small c (Some w) = tt

unpadded_small : (c : ℕ) (o : Option Padding) → Steps (elim o as (λ _. Option (State × Item)) [ None ↦ named_step c | Some p ↦ Some (Opened p, Empty) ])
unpadded_small c None = named_small c (word_at c)
unpadded_small c (Some p) = tt

padded_small : (p : Padding) (c : ℕ) → Steps (unless_padded p c)
unfolding unpadded_step
padded_small Usual c = unpadded_small c (padding_at c)
padded_small Nothing c = tt
padded_small Spaces c = tt
padded_small Zeros c = tt

stamped_small : (p : Padding) (c : ℕ) → Steps (stamped_step p c)
stamped_small p c = if_steps (c == byte "s") _ _ tt (padded_small p c)

timed_small : (p : Padding) (c : ℕ) (o : Option NumberField)
    → Steps (elim o as (λ _. Option (State × Item)) [ None ↦ stamped_step p c | Some n ↦ Some (Outside, Number n p) ])
timed_small p c None = stamped_small p c
timed_small p c (Some n) = tt

opened_small : (p : Padding) (c : ℕ) (o : Option NumberField)
    → Steps (elim o as (λ _. Option (State × Item)) [ None ↦ timed_step p c | Some n ↦ Some (Outside, Number n p) ])
opened_small p c None = timed_small p c (time_number_at c)
opened_small p c (Some n) = tt

pub step_small : (s : State) (c : ℕ) → c < 128 → Steps (pattern_step s c)
unfolding opened_step
step_small Outside c small = if_steps (c == byte "%") _ _ tt small
step_small (Opened p) c small = opened_small p c (date_number_at c)
step_small (Digits point count) c small =
    if_steps (c == byte "f") _ _ tt (if_steps (count == 0) _ _ (digits_small point c) tt)
step_small (Marked form) c small = if_steps (c == byte "z") _ _ tt (if_steps (c == byte ":") _ _ (colon_small form) tt)

-- ---- an offset and the seconds from 1970

sign_piece_ascii : (x : ℤ) → IsAscii (if is_negative x then codes "-" else codes "+")
sign_piece_ascii x = either (is_negative x) (codes "-") (codes "+") (ascii (codes "-") refl) (ascii (codes "+") refl)

hours_ascii : (x : ℤ) → IsOffset x → IsAscii (hours_piece x)
unfolding hours_piece
hours_ascii x near =
    IsAscii-append (if is_negative x then codes "-" else codes "+") (two_digits (unsigned_abs x / 3_600)) (sign_piece_ascii x)
    (IsAscii-two_digits (unsigned_abs x / 3_600) (omega (arith, near)))

colon_ascii : (x : ℤ) → IsOffset x → IsAscii (colon_piece x)
colon_ascii x near = behind (hours_piece x) 58 (minutes_piece x) (hours_ascii x near) (omega arith) (IsAscii-two_digits (unsigned_abs x / 60 % 60) (omega arith))

plain_ascii : (x : ℤ) → IsOffset x → IsAscii (hours_piece x ++ minutes_piece x)
plain_ascii x near = IsAscii-append (hours_piece x) (minutes_piece x) (hours_ascii x near) (IsAscii-two_digits (unsigned_abs x / 60 % 60) (omega arith))

offset_ascii : (form : OffsetForm) (x : ℤ) → IsOffset x → IsAscii (offset_piece form x)
unfolding offset_piece
offset_ascii Plain x near = plain_ascii x near
offset_ascii Colon x near = colon_ascii x near
offset_ascii Seconds x near = behind (colon_piece x) 58 (two_digits (unsigned_abs x % 60)) (colon_ascii x near) (omega arith) (IsAscii-two_digits (unsigned_abs x % 60) (omega arith))
offset_ascii Hours x near = hours_ascii x near
offset_ascii Loose x near = plain_ascii x near

zone_ascii : (x : ℤ) → IsOffset x → IsAscii (offset_text x)
zone_ascii x near =
    let n = unsigned_abs x in
    let sign = if is_negative x then codes "-" else codes "+" in
    let hours = two_digits (n / 3_600) in
    let minutes = two_digits (n / 60 % 60) in
    let seconds = two_digits (n % 60) in
    IsAscii-append sign (offset_size_text n) (sign_piece_ascii x)
    (IsAscii-append (hours ++ codes ":" ++ minutes) (colon_seconds_text (n % 60))
    (IsAscii-append (hours ++ codes ":") minutes
    (IsAscii-append hours (codes ":") (IsAscii-two_digits (n / 3_600) (omega (arith, near))) (ascii (codes ":") refl)) (IsAscii-two_digits (n / 60 % 60) (omega arith)))
    (either (n % 60 == 0) [] (codes ":" ++ seconds) IsAscii-nil (IsAscii-append (codes ":") seconds (ascii (codes ":") refl) (IsAscii-two_digits (n % 60) (omega arith)))))

stamp_ascii : (s : ℤ) → unsigned_abs s < 2 ^ 64 → IsAscii (stamp_piece s)
unfolding stamp_piece
stamp_ascii s small =
    IsAscii-append (if is_negative s then codes "-" else []) (decimal (unsigned_abs s))
    (either (is_negative s) (codes "-") [] (ascii (codes "-") refl) IsAscii-nil) (IsAscii-decimal (unsigned_abs s) small)

stamp_small : (m : Moment) (x : ℤ) → IsOffset x → IsDate m.date → IsTime m.time → unsigned_abs (epoch_second m -ℤ x) < 2 ^ 64
stamp_small m x near date time = omega (arith, signed, near, date, time.second)

iso_ascii : (m : Moment) (x : ℤ) → IsOffset x → IsDate m.date → IsTime m.time → IsAscii (iso_piece m x)
unfolding iso_piece
iso_ascii m x near date time =
    let clock = group_text HourMinuteSecond m in
    let fraction = subsecond_of true 0 m.time in
    IsAscii-append (group_text YearMonthDay m ++ (84 ∷ clock) ++ fraction) (offset_piece Colon x)
    (IsAscii-append (group_text YearMonthDay m ++ (84 ∷ clock)) fraction
    (behind (group_text YearMonthDay m) 84 clock (group_ascii YearMonthDay m date time) (omega arith) (group_ascii HourMinuteSecond m date time))
    (subsecond_ascii true 0 m.time)) (offset_ascii Colon x near)

zoned_ascii : (field : ZonedField) (m : Moment) (x : ℤ) → IsOffset x → IsDate m.date → IsTime m.time → IsAscii (zoned_piece field m x)
zoned_ascii (Offset form) m x near date time = offset_ascii form x near
zoned_ascii ZoneName m x near date time = zone_ascii x near
zoned_ascii Stamp m x near date time = stamp_ascii (epoch_second m -ℤ x) (stamp_small m x near date time)
zoned_ascii Iso8601 m x near date time = iso_ascii m x near date time

pub item_ascii : (item : Item) (m : Moment) (x : ℤ) → IsOffset x → IsAsciiItem item → IsDate m.date → IsTime m.time → IsAscii (text_of_item item m x)
item_ascii Empty m x near small date time = IsAscii-nil
item_ascii (Byte c) m x near small date time = IsAscii-cons c [] small IsAscii-nil
item_ascii (Number field p) m x near small date time = number_ascii field p m date time
item_ascii (Word w) m x near small date time = word_ascii w m
item_ascii (Group g) m x near small date time = group_ascii g m date time
item_ascii (Subsecond point count) m x near small date time = subsecond_ascii point count m.time
item_ascii (Zoned field) m x near small date time = zoned_ascii field m x near date time

-- ---- a pattern

abbrev WritesAscii : List ℕ → Moment → ℤ → Type 0
WritesAscii bytes m x = (s : State) → IsAscii (text_from s bytes m x)

step_ascii : (c : ℕ) (bytes : List ℕ) (m : Moment) (x : ℤ) → IsOffset x → c < 128 → IsDate m.date → IsTime m.time → WritesAscii bytes m x → (s : State)
    → (o : Option (State × Item)) → pattern_step s c ≡ o → IsAscii (text_from s (c ∷ bytes) m x)
step_ascii c bytes m x near small date time rest s None e = subst IsAscii (sym (text_from-none s c bytes m x e)) IsAscii-nil
step_ascii c bytes m x near small date time rest s (Some next) e =
    let item : IsAsciiItem next.1 = subst Steps e (step_small s c small) in
    subst IsAscii (sym (text_from-more s c bytes m x next e))
    (IsAscii-append (text_of_item next.1 m x) (text_from next.0 bytes m x) (item_ascii next.1 m x near item date time) (rest next.0))

text_ascii : (bytes : List ℕ) (m : Moment) (x : ℤ) → IsOffset x → IsAscii bytes → IsDate m.date → IsTime m.time → WritesAscii bytes m x
text_ascii [] m x near are date time s = subst IsAscii (sym (text_from-nothing s m x)) IsAscii-nil
text_ascii (c ∷ bytes) m x near are date time s =
    step_ascii c bytes m x near (are 0) date time (text_ascii bytes m x near (λ i. are (suc i)) date time) s (pattern_step s c) refl

pub ascii_text : (bytes : List ℕ) (m : Moment) (x : ℤ) → IsOffset x → IsAscii bytes → IsDate m.date → IsTime m.time → IsAscii (text_at_offset bytes m x)
ascii_text bytes m x near are date time = text_ascii bytes m x near are date time Outside
