-- What a separable pattern loses it loses for good: a value that is read back writes the same text.
use Rattle.std.proofs.Common.{◌≡◌, ℕ, ◌+◌, ◌/◌, ◌%◌, ◌<◌, ◌≤◌, ◌==◌, Bool, true, false, ◌||◌, if◌then◌else◌, nat_lt, List, [], ◌∷◌, ◌++◌, codes, length, take, Option, Some, None, Ok, ℤ, pos, negsuc, ◌+ℤ◌, ◌-ℤ◌, ◌*ℤ◌, refl, ap, sym, subst, ◌∙◌, arith}
use Rattle.std.proofs.lemmas.Bool.{and_parts, false≢true}
use Rattle.std.proofs.lemmas.Bool.Decides.{Decides-int_eq, nat_tests}
use Rattle.std.proofs.lemmas.Option.{same_Some}
use Rattle.std.specs.Int.{int_div_euclid, int_rem_euclid}
use Rattle.std.specs.Int.RustNames.{int_lt}
use Rattle.std.specs.Ordering.{int_eq}
use Rattle.std.specs.Prelude.{unsigned_abs}
use Rattle.chrono_calendar.proofs.Signed.{signed}
use Rattle.chrono_text.proofs.AnswerLemmas.{same_Ok}
use Rattle.chrono_datetime.specs.Days.{day_of, month_of, ordinal_of, year_of}
use Rattle.chrono_datetime.specs.Duration.{nanos_per_second}
use Rattle.chrono_datetime.specs.Fields.{quarter_of_month, unix_epoch_day}
use Rattle.chrono_datetime.specs.Moment.{Moment, moment}
use Rattle.chrono_datetime.specs.Month.{month_from_number, month_name}
use Rattle.chrono_datetime.specs.Names.{weekday_name}
use Rattle.chrono_datetime.specs.Time.{IsTime, TimeOfDay, hour_of, is_leap, minute_of, second_of}
use Rattle.chrono_datetime.specs.Weekday.{days_from_sunday, number_from_monday}
use Rattle.chrono_datetime.specs.WeekdayText.{weekday_text}
use Rattle.chrono_datetime.specs.Weeks.{iso_week_of, iso_year_of, weekday_of}
use Rattle.chrono_datetime.specs.declared.Weekday.{Weekday}
use Rattle.chrono_instant.specs.Instants.{epoch_second}
use Rattle.chrono_pattern.specs.DateParts.{date_fits, day_fits, is_present, says, week_fits, weekday_at_number, year_fits, year_week_fits}
use Rattle.chrono_pattern.specs.Groups.{clock_with, group_text}
use Rattle.chrono_pattern.specs.Kept.{LosesNothing, given_parts}
use Rattle.chrono_pattern.specs.NamedParts.{named_from, named_parts, with_clock, with_group, with_half, with_item, with_named, with_number_field, word_part}
use Rattle.chrono_pattern.specs.NumberReads.{number_part}
use Rattle.chrono_pattern.specs.Numbers.{field_text, least_digits, padded, padding_of, size_of, year_sign}
use Rattle.chrono_pattern.specs.Parses.{IsDateBy, IsMomentBy, IsTimeBy, IsZonedBy}
use Rattle.chrono_pattern.specs.Parts.{no_parts}
use Rattle.chrono_pattern.specs.Patterns.{pattern_text, text_at_offset, text_from, text_of_item}
use Rattle.chrono_pattern.specs.PatternSteps.{pattern_step}
use Rattle.chrono_pattern.specs.ReadBack.{if_named, parts_of}
use Rattle.chrono_pattern.specs.Reads.{text_read}
use Rattle.chrono_pattern.specs.Separable.{bar_behind, shows_ends, is_separable_from, takes_item}
use Rattle.chrono_pattern.specs.Subseconds.{digit_count, fraction_with, subsecond_of}
use Rattle.chrono_pattern.specs.TimeParts.{IsClockTime, clock_fits, counts, second_fits, time_fits}
use Rattle.chrono_pattern.specs.Words.{word_text}
use Rattle.chrono_pattern.specs.YearWeeks.{week_from_monday, week_from_sunday}
use Rattle.chrono_pattern.specs.ZonedParts.{fits_by, is_next_to, is_stamp_of, moment_fits, shows_second, stamped_time_fits, zoned_fits}
use Rattle.chrono_pattern.specs.ZonedPieces.{iso_piece, offset_piece, stamp_piece}
use Rattle.chrono_pattern.specs.declared.item.Bar.{Bar}
use Rattle.chrono_pattern.specs.declared.item.Bar.TheVariants.{Free}
use Rattle.chrono_pattern.specs.declared.item.GroupField.{GroupField}
use Rattle.chrono_pattern.specs.declared.item.GroupField.TheVariants.{YearMonthDay, MonthDayYear, HourMinute, HourMinuteSecond, HalfClock, DayMonthYear, DateAndTime}
use Rattle.chrono_pattern.specs.declared.item.Item.{Item}
use Rattle.chrono_pattern.specs.declared.item.Item.TheVariants.{Empty, Byte, Number, Word, Group, Subsecond, Zoned}
use Rattle.chrono_pattern.specs.declared.item.NumberField.{NumberField}
use Rattle.chrono_pattern.specs.declared.item.NumberField.TheVariants.{Year, Century, YearOfCentury, Quarter, Month, Day, SpacedDay, DayOfYear, FromMonday, FromSunday, IsoYear, IsoYearOfCentury, IsoWeek, WeekFromSunday, WeekFromMonday, Hour, SpacedHour, HalfHour, SpacedHalfHour, Minute, Second, Nanosecond}
use Rattle.chrono_pattern.specs.declared.item.OffsetForm.TheVariants.{Colon}
use Rattle.chrono_pattern.specs.declared.item.Padding.{Padding}
use Rattle.chrono_pattern.specs.declared.item.Padding.TheVariants.{Usual}
use Rattle.chrono_pattern.specs.declared.item.State.{State}
use Rattle.chrono_pattern.specs.declared.item.State.TheVariants.{Outside}
use Rattle.chrono_pattern.specs.declared.item.WordField.{WordField}
use Rattle.chrono_pattern.specs.declared.item.WordField.TheVariants.{MonthName, MonthLetters, WeekdayName, WeekdayLetters, Half, SmallHalf}
use Rattle.chrono_pattern.specs.declared.item.ZonedField.TheVariants.{Offset, ZoneName, Stamp, Iso8601}
use Rattle.chrono_pattern.specs.declared.parsed.Parsed.{Parsed}
use Rattle.chrono_pattern.specs.declared.parsed.Part.{Part}
use Rattle.chrono_pattern.specs.declared.parsed.Part.TheVariants.{FullYear, YearDiv100, YearMod100, FullIsoYear, IsoYearMod100, QuarterOfYear, MonthOfYear, WeekOfIsoYear, WeekFromSun, WeekFromMon, DayOfWeek, OrdinalDay, DayOfMonth, HourDiv12, HourMod12, MinuteOfHour, SecondOfMinute, NanosecondOfSecond, OffsetFromUtc}
use Rattle.chrono_pattern.proofs.BackPatterns.{parts_back}
use Rattle.chrono_pattern.proofs.BackSubseconds.{fraction_of}
use Rattle.chrono_pattern.proofs.BackValues.{given_all, kept_like, kept_parts}
use Rattle.chrono_pattern.proofs.DatePartLemmas.{numbered}
use Rattle.chrono_pattern.proofs.FieldLemmas.{named_from-more, named_from-nothing}
use Rattle.chrono_pattern.proofs.PatternLemmas.{text_from-more, text_from-nothing}
use Rattle.chrono_pattern.proofs.SeparableLemmas.{separable-more, separable-none}
use Rattle.chrono_pattern.proofs.ShapeLemmas.{Like, mark}

-- ---- two date-times with the same named parts

abbrev pub Same : Parsed → Moment → ℤ → Moment → ℤ → Type 0
Same q m x w y = parts_of q m x ≡ parts_of q w y

-- the value of a part that is given, if the part is named
abbrev keep : Option ℤ → Option ℤ → Option ℤ
keep None o = None
keep (Some a) o = o

keep_is : (o : Option ℤ) (v : ℤ) → keep o (Some v) ≡ if_named o v
keep_is None v = refl
keep_is (Some a) v = refl

-- fewer parts are the same
fewer_part : (part : Part) (q : Parsed) (m : Moment) (x : ℤ) (w : Moment) (y : ℤ) → Same (with_named part q) m x w y → Same q m x w y
fewer_part FullYear q m x w y e =
    ap (λ (o : Option ℤ). record (parts_of q m x) { year = o }) (sym (keep_is q.year (year_of m.date)))
    ∙ ap (λ (p : Parsed). record p { year = keep q.year p.year }) e
    ∙ ap (λ (o : Option ℤ). record (parts_of q w y) { year = o }) (keep_is q.year (year_of w.date))
fewer_part YearDiv100 q m x w y e =
    ap (λ (o : Option ℤ). record (parts_of q m x) { year_div_100 = o }) (sym (keep_is q.year_div_100 (int_div_euclid (year_of m.date) (pos 100))))
    ∙ ap (λ (p : Parsed). record p { year_div_100 = keep q.year_div_100 p.year_div_100 }) e
    ∙ ap (λ (o : Option ℤ). record (parts_of q w y) { year_div_100 = o }) (keep_is q.year_div_100 (int_div_euclid (year_of w.date) (pos 100)))
fewer_part YearMod100 q m x w y e =
    ap (λ (o : Option ℤ). record (parts_of q m x) { year_mod_100 = o }) (sym (keep_is q.year_mod_100 (int_rem_euclid (year_of m.date) (pos 100))))
    ∙ ap (λ (p : Parsed). record p { year_mod_100 = keep q.year_mod_100 p.year_mod_100 }) e
    ∙ ap (λ (o : Option ℤ). record (parts_of q w y) { year_mod_100 = o }) (keep_is q.year_mod_100 (int_rem_euclid (year_of w.date) (pos 100)))
fewer_part FullIsoYear q m x w y e =
    ap (λ (o : Option ℤ). record (parts_of q m x) { isoyear = o }) (sym (keep_is q.isoyear (iso_year_of m.date)))
    ∙ ap (λ (p : Parsed). record p { isoyear = keep q.isoyear p.isoyear }) e
    ∙ ap (λ (o : Option ℤ). record (parts_of q w y) { isoyear = o }) (keep_is q.isoyear (iso_year_of w.date))
fewer_part IsoYearMod100 q m x w y e =
    ap (λ (o : Option ℤ). record (parts_of q m x) { isoyear_mod_100 = o }) (sym (keep_is q.isoyear_mod_100 (int_rem_euclid (iso_year_of m.date) (pos 100))))
    ∙ ap (λ (p : Parsed). record p { isoyear_mod_100 = keep q.isoyear_mod_100 p.isoyear_mod_100 }) e
    ∙ ap (λ (o : Option ℤ). record (parts_of q w y) { isoyear_mod_100 = o }) (keep_is q.isoyear_mod_100 (int_rem_euclid (iso_year_of w.date) (pos 100)))
fewer_part QuarterOfYear q m x w y e =
    ap (λ (o : Option ℤ). record (parts_of q m x) { quarter = o }) (sym (keep_is q.quarter (pos (quarter_of_month (month_of m.date)))))
    ∙ ap (λ (p : Parsed). record p { quarter = keep q.quarter p.quarter }) e
    ∙ ap (λ (o : Option ℤ). record (parts_of q w y) { quarter = o }) (keep_is q.quarter (pos (quarter_of_month (month_of w.date))))
fewer_part MonthOfYear q m x w y e =
    ap (λ (o : Option ℤ). record (parts_of q m x) { month = o }) (sym (keep_is q.month (pos (month_of m.date))))
    ∙ ap (λ (p : Parsed). record p { month = keep q.month p.month }) e
    ∙ ap (λ (o : Option ℤ). record (parts_of q w y) { month = o }) (keep_is q.month (pos (month_of w.date)))
fewer_part WeekOfIsoYear q m x w y e =
    ap (λ (o : Option ℤ). record (parts_of q m x) { isoweek = o }) (sym (keep_is q.isoweek (pos (iso_week_of m.date))))
    ∙ ap (λ (p : Parsed). record p { isoweek = keep q.isoweek p.isoweek }) e
    ∙ ap (λ (o : Option ℤ). record (parts_of q w y) { isoweek = o }) (keep_is q.isoweek (pos (iso_week_of w.date)))
fewer_part WeekFromSun q m x w y e =
    ap (λ (o : Option ℤ). record (parts_of q m x) { week_from_sun = o }) (sym (keep_is q.week_from_sun (pos (week_from_sunday m.date))))
    ∙ ap (λ (p : Parsed). record p { week_from_sun = keep q.week_from_sun p.week_from_sun }) e
    ∙ ap (λ (o : Option ℤ). record (parts_of q w y) { week_from_sun = o }) (keep_is q.week_from_sun (pos (week_from_sunday w.date)))
fewer_part WeekFromMon q m x w y e =
    ap (λ (o : Option ℤ). record (parts_of q m x) { week_from_mon = o }) (sym (keep_is q.week_from_mon (pos (week_from_monday m.date))))
    ∙ ap (λ (p : Parsed). record p { week_from_mon = keep q.week_from_mon p.week_from_mon }) e
    ∙ ap (λ (o : Option ℤ). record (parts_of q w y) { week_from_mon = o }) (keep_is q.week_from_mon (pos (week_from_monday w.date)))
fewer_part DayOfWeek q m x w y e =
    ap (λ (o : Option ℤ). record (parts_of q m x) { weekday = o }) (sym (keep_is q.weekday (pos (number_from_monday (weekday_of m.date)))))
    ∙ ap (λ (p : Parsed). record p { weekday = keep q.weekday p.weekday }) e
    ∙ ap (λ (o : Option ℤ). record (parts_of q w y) { weekday = o }) (keep_is q.weekday (pos (number_from_monday (weekday_of w.date))))
fewer_part OrdinalDay q m x w y e =
    ap (λ (o : Option ℤ). record (parts_of q m x) { ordinal = o }) (sym (keep_is q.ordinal (pos (ordinal_of m.date))))
    ∙ ap (λ (p : Parsed). record p { ordinal = keep q.ordinal p.ordinal }) e
    ∙ ap (λ (o : Option ℤ). record (parts_of q w y) { ordinal = o }) (keep_is q.ordinal (pos (ordinal_of w.date)))
fewer_part DayOfMonth q m x w y e =
    ap (λ (o : Option ℤ). record (parts_of q m x) { day = o }) (sym (keep_is q.day (pos (day_of m.date))))
    ∙ ap (λ (p : Parsed). record p { day = keep q.day p.day }) e
    ∙ ap (λ (o : Option ℤ). record (parts_of q w y) { day = o }) (keep_is q.day (pos (day_of w.date)))
fewer_part HourDiv12 q m x w y e =
    ap (λ (o : Option ℤ). record (parts_of q m x) { hour_div_12 = o }) (sym (keep_is q.hour_div_12 (pos (hour_of m.time / 12))))
    ∙ ap (λ (p : Parsed). record p { hour_div_12 = keep q.hour_div_12 p.hour_div_12 }) e
    ∙ ap (λ (o : Option ℤ). record (parts_of q w y) { hour_div_12 = o }) (keep_is q.hour_div_12 (pos (hour_of w.time / 12)))
fewer_part HourMod12 q m x w y e =
    ap (λ (o : Option ℤ). record (parts_of q m x) { hour_mod_12 = o }) (sym (keep_is q.hour_mod_12 (pos (hour_of m.time % 12))))
    ∙ ap (λ (p : Parsed). record p { hour_mod_12 = keep q.hour_mod_12 p.hour_mod_12 }) e
    ∙ ap (λ (o : Option ℤ). record (parts_of q w y) { hour_mod_12 = o }) (keep_is q.hour_mod_12 (pos (hour_of w.time % 12)))
fewer_part MinuteOfHour q m x w y e =
    ap (λ (o : Option ℤ). record (parts_of q m x) { minute = o }) (sym (keep_is q.minute (pos (minute_of m.time))))
    ∙ ap (λ (p : Parsed). record p { minute = keep q.minute p.minute }) e
    ∙ ap (λ (o : Option ℤ). record (parts_of q w y) { minute = o }) (keep_is q.minute (pos (minute_of w.time)))
fewer_part SecondOfMinute q m x w y e =
    ap (λ (o : Option ℤ). record (parts_of q m x) { second = o }) (sym (keep_is q.second (pos (second_of m.time + m.time.fraction / nanos_per_second))))
    ∙ ap (λ (p : Parsed). record p { second = keep q.second p.second }) e
    ∙ ap (λ (o : Option ℤ). record (parts_of q w y) { second = o }) (keep_is q.second (pos (second_of w.time + w.time.fraction / nanos_per_second)))
fewer_part NanosecondOfSecond q m x w y e =
    ap (λ (o : Option ℤ). record (parts_of q m x) { nanosecond = o }) (sym (keep_is q.nanosecond (pos (m.time.fraction % nanos_per_second))))
    ∙ ap (λ (p : Parsed). record p { nanosecond = keep q.nanosecond p.nanosecond }) e
    ∙ ap (λ (o : Option ℤ). record (parts_of q w y) { nanosecond = o }) (keep_is q.nanosecond (pos (w.time.fraction % nanos_per_second)))
fewer_part OffsetFromUtc q m x w y e =
    ap (λ (o : Option ℤ). record (parts_of q m x) { offset = o }) (sym (keep_is q.offset (x)))
    ∙ ap (λ (p : Parsed). record p { offset = keep q.offset p.offset }) e
    ∙ ap (λ (o : Option ℤ). record (parts_of q w y) { offset = o }) (keep_is q.offset (y))

fewer_half : (field : NumberField) (q : Parsed) (m : Moment) (x : ℤ) (w : Moment) (y : ℤ) → Same (with_half field q) m x w y → Same q m x w y
fewer_half Year q m x w y e = e
fewer_half Century q m x w y e = e
fewer_half YearOfCentury q m x w y e = e
fewer_half Quarter q m x w y e = e
fewer_half Month q m x w y e = e
fewer_half Day q m x w y e = e
fewer_half SpacedDay q m x w y e = e
fewer_half DayOfYear q m x w y e = e
fewer_half FromMonday q m x w y e = e
fewer_half FromSunday q m x w y e = e
fewer_half IsoYear q m x w y e = e
fewer_half IsoYearOfCentury q m x w y e = e
fewer_half IsoWeek q m x w y e = e
fewer_half WeekFromSunday q m x w y e = e
fewer_half WeekFromMonday q m x w y e = e
fewer_half Hour q m x w y e = fewer_part HourDiv12 q m x w y e
fewer_half SpacedHour q m x w y e = fewer_part HourDiv12 q m x w y e
fewer_half HalfHour q m x w y e = e
fewer_half SpacedHalfHour q m x w y e = e
fewer_half Minute q m x w y e = e
fewer_half Second q m x w y e = e
fewer_half Nanosecond q m x w y e = e

fewer_number : (field : NumberField) (q : Parsed) (m : Moment) (x : ℤ) (w : Moment) (y : ℤ) → Same (with_number_field field q) m x w y → Same q m x w y
fewer_number field q m x w y e = fewer_half field q m x w y (fewer_part (number_part field (pos 0)).0 (with_half field q) m x w y e)

fewer_clock : (hour : NumberField) (q : Parsed) (m : Moment) (x : ℤ) (w : Moment) (y : ℤ) → Same (with_clock hour q) m x w y → Same q m x w y
fewer_clock hour q m x w y e =
    fewer_number hour q m x w y (fewer_number Minute (with_number_field hour q) m x w y (fewer_number Second (with_number_field Minute (with_number_field hour q)) m x w y e))

fewer_group : (g : GroupField) (q : Parsed) (m : Moment) (x : ℤ) (w : Moment) (y : ℤ) → Same (with_group g q) m x w y → Same q m x w y
unfolding with_group
fewer_group YearMonthDay q m x w y e =
    fewer_number Year q m x w y (fewer_number Month (with_number_field Year q) m x w y (fewer_number Day (with_number_field Month (with_number_field Year q)) m x w y e))
fewer_group MonthDayYear q m x w y e =
    fewer_number Month q m x w y (fewer_number Day (with_number_field Month q) m x w y (fewer_number YearOfCentury (with_number_field Day (with_number_field Month q)) m x w y e))
fewer_group HourMinute q m x w y e = fewer_number Hour q m x w y (fewer_number Minute (with_number_field Hour q) m x w y e)
fewer_group HourMinuteSecond q m x w y e = fewer_clock Hour q m x w y e
fewer_group HalfClock q m x w y e = fewer_clock HalfHour q m x w y (fewer_part HourDiv12 (with_clock HalfHour q) m x w y e)
fewer_group DayMonthYear q m x w y e =
    let day = with_number_field SpacedDay q in
    fewer_number SpacedDay q m x w y (fewer_part MonthOfYear day m x w y (fewer_number Year (with_named MonthOfYear day) m x w y e))
fewer_group DateAndTime q m x w y e =
    let month = with_named MonthOfYear (with_named DayOfWeek q) in
    let day = with_number_field SpacedDay month in
    fewer_part DayOfWeek q m x w y (fewer_part MonthOfYear (with_named DayOfWeek q) m x w y
    (fewer_number SpacedDay month m x w y (fewer_clock Hour day m x w y (fewer_number Year (with_clock Hour day) m x w y e))))

-- nothing reads the name of a zone
abbrev zone_free : Item → Bool
zone_free (Zoned ZoneName) = false
zone_free _ = true

fewer_stamp : (q : Parsed) (m : Moment) (x : ℤ) (w : Moment) (y : ℤ) → Same (with_item (Zoned Stamp) q) m x w y → Same q m x w y
fewer_stamp q m x w y e =
    ap (λ (o : Option ℤ). record (parts_of q m x) { timestamp = o }) (sym (keep_is q.timestamp (epoch_second m -ℤ x)))
    ∙ ap (λ (p : Parsed). record p { timestamp = keep q.timestamp p.timestamp }) e
    ∙ ap (λ (o : Option ℤ). record (parts_of q w y) { timestamp = o }) (keep_is q.timestamp (epoch_second w -ℤ y))

fewer_item : (item : Item) (q : Parsed) (m : Moment) (x : ℤ) (w : Moment) (y : ℤ) → zone_free item ≡ true → Same (with_item item q) m x w y → Same q m x w y
fewer_item Empty q m x w y free e = e
fewer_item (Byte c) q m x w y free e = e
fewer_item (Number field padding) q m x w y free e = fewer_number field q m x w y e
fewer_item (Word word) q m x w y free e = fewer_part (word_part word) q m x w y e
fewer_item (Group g) q m x w y free e = fewer_group g q m x w y e
fewer_item (Subsecond point count) q m x w y free e = fewer_part NanosecondOfSecond q m x w y e
fewer_item (Zoned (Offset form)) q m x w y free e = fewer_part OffsetFromUtc q m x w y e
fewer_item (Zoned ZoneName) q m x w y free e = e
fewer_item (Zoned Stamp) q m x w y free e = fewer_stamp q m x w y e
fewer_item (Zoned Iso8601) q m x w y free e =
    let date = with_group YearMonthDay q in
    let clock = with_group HourMinuteSecond date in
    fewer_group YearMonthDay q m x w y (fewer_group HourMinuteSecond date m x w y
    (fewer_part NanosecondOfSecond clock m x w y (fewer_part OffsetFromUtc (with_named NanosecondOfSecond clock) m x w y e)))

-- ---- a number writes the same of both

same_pos : (a b : ℕ) → pos a ≡ pos b → a ≡ b
same_pos a b e = ap (λ (z : ℤ). unsigned_abs z) e

same_size : (a b : ℕ) → Some (pos a) ≡ Some (pos b) → a ≡ b
same_size a b e = same_pos a b (same_Some _ _ e)

hours_same : (t u : TimeOfDay) → hour_of t / 12 ≡ hour_of u / 12 → hour_of t % 12 ≡ hour_of u % 12 → hour_of t ≡ hour_of u
hours_same t u half hour = omega (arith, half, hour)

weekdays_same : (c d : Weekday) → number_from_monday c ≡ number_from_monday d → c ≡ d
weekdays_same c d e = sym (numbered c) ∙ ap (λ (k : ℕ). weekday_at_number (pos k)) e ∙ numbered d

below_zero : (y z : ℤ) → int_div_euclid y (pos 100) ≡ int_div_euclid z (pos 100) → int_lt y (pos 0) ≡ int_lt z (pos 0)
below_zero y z e = by_signs (int_lt y (pos 0)) (int_lt z (pos 0)) refl refl
  where
    by_signs : (a b : Bool) → int_lt y (pos 0) ≡ a → int_lt z (pos 0) ≡ b → a ≡ b
    by_signs true true h k = refl
    by_signs false false h k = refl
    by_signs true false h k = grind (arith, signed, e, h, k)
    by_signs false true h k = grind (arith, signed, e, h, k)

abbrev century_text : Padding → Bool → ℕ → List ℕ
century_text padding before n =
    padded (padding_of Century padding) (least_digits Century (length (if before then codes "-" else []))) (if before then codes "-" else []) n

pub number_same : (field : NumberField) (padding : Padding) (q : Parsed) (m : Moment) (x : ℤ) (w : Moment) (y : ℤ) → Same (with_number_field field q) m x w y
    → field_text field padding m ≡ field_text field padding w
unfolding field_text
number_same Year padding q m x w y e =
    ap (λ (z : ℤ). padded (padding_of Year padding) 4 (year_sign z) (unsigned_abs z)) (same_Some _ _ (ap (λ (p : Parsed). p.year) e))
number_same IsoYear padding q m x w y e =
    ap (λ (z : ℤ). padded (padding_of IsoYear padding) 4 (year_sign z) (unsigned_abs z)) (same_Some _ _ (ap (λ (p : Parsed). p.isoyear) e))
number_same Century padding q m x w y e =
    let century = same_Some _ _ (ap (λ (p : Parsed). p.year_div_100) e) in
    ap (λ (b : Bool). century_text padding b (size_of Century m)) (below_zero (year_of m.date) (year_of w.date) century)
    ∙ ap (λ (z : ℤ). century_text padding (int_lt (year_of w.date) (pos 0)) (unsigned_abs z)) century
number_same YearOfCentury padding q m x w y e =
    ap (λ (z : ℤ). padded (padding_of YearOfCentury padding) 2 [] (unsigned_abs z)) (same_Some _ _ (ap (λ (p : Parsed). p.year_mod_100) e))
number_same IsoYearOfCentury padding q m x w y e =
    ap (λ (z : ℤ). padded (padding_of IsoYearOfCentury padding) 2 [] (unsigned_abs z)) (same_Some _ _ (ap (λ (p : Parsed). p.isoyear_mod_100) e))
number_same Quarter padding q m x w y e =
    ap (λ (n : ℕ). padded (padding_of Quarter padding) 1 [] n) (same_size (size_of Quarter m) (size_of Quarter w) (ap (λ (p : Parsed). p.quarter) e))
number_same Month padding q m x w y e =
    ap (λ (n : ℕ). padded (padding_of Month padding) 2 [] n) (same_size (size_of Month m) (size_of Month w) (ap (λ (p : Parsed). p.month) e))
number_same Day padding q m x w y e =
    ap (λ (n : ℕ). padded (padding_of Day padding) 2 [] n) (same_size (size_of Day m) (size_of Day w) (ap (λ (p : Parsed). p.day) e))
number_same SpacedDay padding q m x w y e =
    ap (λ (n : ℕ). padded (padding_of SpacedDay padding) 2 [] n) (same_size (size_of SpacedDay m) (size_of SpacedDay w) (ap (λ (p : Parsed). p.day) e))
number_same DayOfYear padding q m x w y e =
    ap (λ (n : ℕ). padded (padding_of DayOfYear padding) 3 [] n) (same_size (size_of DayOfYear m) (size_of DayOfYear w) (ap (λ (p : Parsed). p.ordinal) e))
number_same FromMonday padding q m x w y e =
    ap (λ (n : ℕ). padded (padding_of FromMonday padding) 1 [] n) (same_size (size_of FromMonday m) (size_of FromMonday w) (ap (λ (p : Parsed). p.weekday) e))
number_same IsoWeek padding q m x w y e =
    ap (λ (n : ℕ). padded (padding_of IsoWeek padding) 2 [] n) (same_size (size_of IsoWeek m) (size_of IsoWeek w) (ap (λ (p : Parsed). p.isoweek) e))
number_same WeekFromSunday padding q m x w y e =
    ap (λ (n : ℕ). padded (padding_of WeekFromSunday padding) 2 [] n) (same_size (size_of WeekFromSunday m) (size_of WeekFromSunday w) (ap (λ (p : Parsed). p.week_from_sun) e))
number_same WeekFromMonday padding q m x w y e =
    ap (λ (n : ℕ). padded (padding_of WeekFromMonday padding) 2 [] n) (same_size (size_of WeekFromMonday m) (size_of WeekFromMonday w) (ap (λ (p : Parsed). p.week_from_mon) e))
number_same Minute padding q m x w y e =
    ap (λ (n : ℕ). padded (padding_of Minute padding) 2 [] n) (same_size (size_of Minute m) (size_of Minute w) (ap (λ (p : Parsed). p.minute) e))
number_same Second padding q m x w y e =
    ap (λ (n : ℕ). padded (padding_of Second padding) 2 [] n) (same_size (size_of Second m) (size_of Second w) (ap (λ (p : Parsed). p.second) e))
number_same Nanosecond padding q m x w y e =
    ap (λ (n : ℕ). padded (padding_of Nanosecond padding) 9 [] n) (same_size (size_of Nanosecond m) (size_of Nanosecond w) (ap (λ (p : Parsed). p.nanosecond) e))
number_same FromSunday padding q m x w y e =
    let day = weekdays_same (weekday_of m.date) (weekday_of w.date) (same_size _ _ (ap (λ (p : Parsed). p.weekday) e)) in
    ap (λ (d : Weekday). padded (padding_of FromSunday padding) 1 [] (days_from_sunday d)) day
number_same Hour padding q m x w y e =
    ap (λ (n : ℕ). padded (padding_of Hour padding) 2 [] n)
    (hours_same m.time w.time (same_size _ _ (ap (λ (p : Parsed). p.hour_div_12) e)) (same_size _ _ (ap (λ (p : Parsed). p.hour_mod_12) e)))
number_same SpacedHour padding q m x w y e =
    ap (λ (n : ℕ). padded (padding_of SpacedHour padding) 2 [] n)
    (hours_same m.time w.time (same_size _ _ (ap (λ (p : Parsed). p.hour_div_12) e)) (same_size _ _ (ap (λ (p : Parsed). p.hour_mod_12) e)))
number_same HalfHour padding q m x w y e =
    ap (λ (n : ℕ). padded (padding_of HalfHour padding) 2 [] (if n == 0 then 12 else n)) (same_size _ _ (ap (λ (p : Parsed). p.hour_mod_12) e))
number_same SpacedHalfHour padding q m x w y e =
    ap (λ (n : ℕ). padded (padding_of SpacedHalfHour padding) 2 [] (if n == 0 then 12 else n)) (same_size _ _ (ap (λ (p : Parsed). p.hour_mod_12) e))

-- ---- a word

halves_same : (t u : TimeOfDay) → hour_of t / 12 ≡ hour_of u / 12 → nat_lt (hour_of t) 12 ≡ nat_lt (hour_of u) 12
halves_same t u e = by_tests (nat_lt (hour_of t) 12) (nat_lt (hour_of u) 12) refl refl
  where
    by_tests : (a b : Bool) → nat_lt (hour_of t) 12 ≡ a → nat_lt (hour_of u) 12 ≡ b → a ≡ b
    by_tests true true h k = refl
    by_tests false false h k = refl
    by_tests true false h k =
        let few : hour_of t < 12 = grind (arith, nat_tests, h) in let many : 12 ≤ hour_of u = grind (arith, nat_tests, k) in absurd (omega (arith, few, many, e))
    by_tests false true h k =
        let many : 12 ≤ hour_of t = grind (arith, nat_tests, h) in let few : hour_of u < 12 = grind (arith, nat_tests, k) in absurd (omega (arith, few, many, e))

pub word_same : (word : WordField) (q : Parsed) (m : Moment) (x : ℤ) (w : Moment) (y : ℤ) → Same (with_named (word_part word) q) m x w y → word_text word m ≡ word_text word w
unfolding word_text
word_same MonthName q m x w y e = ap (λ (k : ℕ). month_name (month_from_number k)) (same_size _ _ (ap (λ (p : Parsed). p.month) e))
word_same MonthLetters q m x w y e = ap (λ (k : ℕ). take 3 (month_name (month_from_number k))) (same_size _ _ (ap (λ (p : Parsed). p.month) e))
word_same WeekdayName q m x w y e =
    ap (λ (d : Weekday). weekday_name d) (weekdays_same (weekday_of m.date) (weekday_of w.date) (same_size _ _ (ap (λ (p : Parsed). p.weekday) e)))
word_same WeekdayLetters q m x w y e =
    ap (λ (d : Weekday). weekday_text d) (weekdays_same (weekday_of m.date) (weekday_of w.date) (same_size _ _ (ap (λ (p : Parsed). p.weekday) e)))
word_same Half q m x w y e =
    ap (λ (b : Bool). if b then codes "AM" else codes "PM") (halves_same m.time w.time (same_size _ _ (ap (λ (p : Parsed). p.hour_div_12) e)))
word_same SmallHalf q m x w y e =
    ap (λ (b : Bool). if b then codes "am" else codes "pm") (halves_same m.time w.time (same_size _ _ (ap (λ (p : Parsed). p.hour_div_12) e)))

-- ---- a group

two_same : (a b c d : List ℕ) (k : ℕ) → a ≡ b → c ≡ d → a ++ (k ∷ c) ≡ b ++ (k ∷ d)
two_same a b c d k first second = ap (λ (l : List ℕ). l ++ (k ∷ c)) first ∙ ap (λ (l : List ℕ). b ++ (k ∷ l)) second

clock_same : (hour : NumberField) (q : Parsed) (m : Moment) (x : ℤ) (w : Moment) (y : ℤ) → Same (with_clock hour q) m x w y → clock_with hour m ≡ clock_with hour w
clock_same hour q m x w y e =
    let first = with_number_field hour q in
    let second = with_number_field Minute first in
    let minutes = fewer_number Second second m x w y e in
    two_same _ _ _ _ 58 (two_same _ _ _ _ 58 (number_same hour Usual q m x w y (fewer_number Minute first m x w y minutes)) (number_same Minute Usual first m x w y minutes))
    (number_same Second Usual second m x w y e)

pub group_same : (g : GroupField) (q : Parsed) (m : Moment) (x : ℤ) (w : Moment) (y : ℤ) → Same (with_group g q) m x w y → group_text g m ≡ group_text g w
unfolding group_text with_group
group_same YearMonthDay q m x w y e =
    let first = with_number_field Year q in
    let second = with_number_field Month first in
    let months = fewer_number Day second m x w y e in
    two_same _ _ _ _ 45 (two_same _ _ _ _ 45 (number_same Year Usual q m x w y (fewer_number Month first m x w y months)) (number_same Month Usual first m x w y months))
    (number_same Day Usual second m x w y e)
group_same MonthDayYear q m x w y e =
    let first = with_number_field Month q in
    let second = with_number_field Day first in
    let days = fewer_number YearOfCentury second m x w y e in
    two_same _ _ _ _ 47 (two_same _ _ _ _ 47 (number_same Month Usual q m x w y (fewer_number Day first m x w y days)) (number_same Day Usual first m x w y days))
    (number_same YearOfCentury Usual second m x w y e)
group_same HourMinute q m x w y e =
    let first = with_number_field Hour q in
    two_same _ _ _ _ 58 (number_same Hour Usual q m x w y (fewer_number Minute first m x w y e)) (number_same Minute Usual first m x w y e)
group_same HourMinuteSecond q m x w y e = clock_same Hour q m x w y e
group_same HalfClock q m x w y e =
    let clock = with_clock HalfHour q in
    two_same _ _ _ _ 32 (clock_same HalfHour q m x w y (fewer_part HourDiv12 clock m x w y e)) (word_same Half clock m x w y e)
group_same DayMonthYear q m x w y e =
    let day = with_number_field SpacedDay q in
    let month = with_named MonthOfYear day in
    let months = fewer_number Year month m x w y e in
    two_same _ _ _ _ 45 (two_same _ _ _ _ 45 (number_same SpacedDay Usual q m x w y (fewer_part MonthOfYear day m x w y months)) (word_same MonthLetters day m x w y months))
    (number_same Year Usual month m x w y e)
group_same DateAndTime q m x w y e =
    let weekday = with_named DayOfWeek q in
    let month = with_named MonthOfYear weekday in
    let day = with_number_field SpacedDay month in
    let clock = with_clock Hour day in
    let clocks = fewer_number Year clock m x w y e in
    let days = fewer_clock Hour day m x w y clocks in
    let months = fewer_number SpacedDay month m x w y days in
    two_same _ _ _ _ 32 (two_same _ _ _ _ 32
    (two_same _ _ _ _ 32 (two_same _ _ _ _ 32 (word_same WeekdayLetters q m x w y (fewer_part MonthOfYear weekday m x w y months)) (word_same MonthLetters weekday m x w y months))
    (number_same SpacedDay Usual month m x w y days))
    (clock_same Hour day m x w y clocks)) (number_same Year Usual clock m x w y e)

-- ---- an item

subsecond_same : (point : Bool) (count : ℕ) (q : Parsed) (m : Moment) (x : ℤ) (w : Moment) (y : ℤ) → Same (with_named NanosecondOfSecond q) m x w y
    → subsecond_of point count m.time ≡ subsecond_of point count w.time
unfolding subsecond_of
subsecond_same point count q m x w y e =
    ap (λ (f : ℕ). fraction_with point (digit_count count f) f) (same_size _ _ (ap (λ (p : Parsed). p.nanosecond) e))

offset_same : (q : Parsed) (m : Moment) (x : ℤ) (w : Moment) (y : ℤ) → Same (with_named OffsetFromUtc q) m x w y → x ≡ y
offset_same q m x w y e = same_Some _ _ (ap (λ (p : Parsed). p.offset) e)

item_same : (item : Item) (q : Parsed) (m : Moment) (x : ℤ) (w : Moment) (y : ℤ) → zone_free item ≡ true → Same (with_item item q) m x w y
    → text_of_item item m x ≡ text_of_item item w y
unfolding iso_piece
item_same Empty q m x w y free e = refl
item_same (Byte c) q m x w y free e = refl
item_same (Number field padding) q m x w y free e = number_same field padding q m x w y e
item_same (Word word) q m x w y free e = word_same word q m x w y e
item_same (Group g) q m x w y free e = group_same g q m x w y e
item_same (Subsecond point count) q m x w y free e = subsecond_same point count q m x w y e
item_same (Zoned (Offset form)) q m x w y free e = ap (λ (z : ℤ). offset_piece form z) (offset_same q m x w y e)
item_same (Zoned ZoneName) q m x w y free e = absurd (false≢true free)
item_same (Zoned Stamp) q m x w y free e = ap (λ (s : ℤ). stamp_piece s) (same_Some _ _ (ap (λ (p : Parsed). p.timestamp) e))
item_same (Zoned Iso8601) q m x w y free e =
    let date = with_group YearMonthDay q in
    let clock = with_group HourMinuteSecond date in
    let fraction = with_named NanosecondOfSecond clock in
    let fractions = fewer_part OffsetFromUtc fraction m x w y e in
    let clocks = fewer_part NanosecondOfSecond clock m x w y fractions in
    let dates = fewer_group HourMinuteSecond date m x w y clocks in
    ap (λ (l : List ℕ). ((l ++ (84 ∷ group_text HourMinuteSecond m)) ++ subsecond_of true 0 m.time) ++ offset_piece Colon x) (group_same YearMonthDay q m x w y dates)
    ∙ ap (λ (l : List ℕ). ((group_text YearMonthDay w ++ (84 ∷ l)) ++ subsecond_of true 0 m.time) ++ offset_piece Colon x) (group_same HourMinuteSecond date m x w y clocks)
    ∙ ap (λ (l : List ℕ). ((group_text YearMonthDay w ++ (84 ∷ group_text HourMinuteSecond w)) ++ l) ++ offset_piece Colon x) (subsecond_same true 0 clock m x w y fractions)
    ∙ ap (λ (z : ℤ). ((group_text YearMonthDay w ++ (84 ∷ group_text HourMinuteSecond w)) ++ subsecond_of true 0 w.time) ++ offset_piece Colon z) (offset_same fraction m x w y e)

-- ---- the bytes of a pattern

taken_free : (wide : Bool) (bar : Bar) (item : Item) → takes_item wide bar item ≡ true → zone_free item ≡ true
taken_free wide bar Empty takes = refl
taken_free wide bar (Byte c) takes = refl
taken_free wide bar (Number field padding) takes = refl
taken_free wide bar (Word word) takes = refl
taken_free wide bar (Group g) takes = refl
taken_free wide bar (Subsecond point count) takes = refl
taken_free wide bar (Zoned (Offset form)) takes = refl
taken_free wide bar (Zoned ZoneName) takes = takes
taken_free wide bar (Zoned Stamp) takes = refl
taken_free wide bar (Zoned Iso8601) takes = refl

-- the bytes write the same of both
abbrev Again : Bool → List ℕ → Moment → ℤ → Moment → ℤ → Type 0
Again wide bytes m x w y = (s : State) (bar : Bar) (q : Parsed) → is_separable_from wide s bar bytes ≡ true
    → Same (named_from s bytes q) m x w y → (text_from s bytes m x ≡ text_from s bytes w y) × Same q m x w y

step_again : (wide : Bool) (c : ℕ) (bytes : List ℕ) (m : Moment) (x : ℤ) (w : Moment) (y : ℤ) → Again wide bytes m x w y → (s : State) (bar : Bar) (q : Parsed)
    → (o : Option (State × Item)) → pattern_step s c ≡ o → is_separable_from wide s bar (c ∷ bytes) ≡ true
    → Same (named_from s (c ∷ bytes) q) m x w y → (text_from s (c ∷ bytes) m x ≡ text_from s (c ∷ bytes) w y) × Same q m x w y
step_again wide c bytes m x w y rest s bar q None e h same = absurd (false≢true (sym (separable-none wide s bar c bytes e) ∙ h))
step_again wide c bytes m x w y rest s bar q (Some next) e h same =
    let both = and_parts (takes_item wide bar next.1) (is_separable_from wide next.0 (bar_behind wide bar next.1) bytes) (sym (separable-more wide s bar c bytes next e) ∙ h) in
    let more = named_from-more s c bytes q next e in
    let free = taken_free wide bar next.1 both.0 in
    let behind = rest next.0 (bar_behind wide bar next.1) (with_item next.1 q) both.1 (subst (λ (p : Parsed). Same p m x w y) more same) in (
      text_from-more s c bytes m x next e
          ∙ ap (λ (l : List ℕ). l ++ text_from next.0 bytes m x) (item_same next.1 q m x w y free behind.1)
          ∙ ap (λ (l : List ℕ). text_of_item next.1 w y ++ l) behind.0
          ∙ sym (text_from-more s c bytes w y next e),
      fewer_item next.1 q m x w y free behind.1,
    )

again : (wide : Bool) (bytes : List ℕ) (m : Moment) (x : ℤ) (w : Moment) (y : ℤ) → Again wide bytes m x w y
again wide [] m x w y s bar q h same =
    (text_from-nothing s m x ∙ sym (text_from-nothing s w y), subst (λ (p : Parsed). Same p m x w y) (named_from-nothing s q) same)
again wide (c ∷ bytes) m x w y s bar q h same =
    step_again wide c bytes m x w y (again wide bytes m x w y) s bar q (pattern_step s c) refl h same

-- ---- a value that fits has the same named parts

said_same : (o other : Option ℤ) (v w : ℤ) → mark (if_named o v) ≡ mark other → says (if_named o v) w ≡ true → if_named other v ≡ if_named other w
said_same None None v w e h = refl
said_same None (Some b) v w e h = cc
said_same (Some a) None v w e h = cc
said_same (Some a) (Some b) v w e h = ap (λ (z : ℤ). Some z) ((Decides-int_eq v w).0 h)

counted_same : (o other : Option ℤ) (v w : ℤ) → mark (if_named o v) ≡ mark other → counts (if_named o v) w ≡ true → if_named other v ≡ if_named other w
counted_same None None v w e h = refl
counted_same None (Some b) v w e h = cc
counted_same (Some a) None v w e h = cc
counted_same (Some a) (Some b) v w e h = ap (λ (z : ℤ). Some z) ((Decides-int_eq v w).0 h)

pub absent_same : (o : Option ℤ) (v w : ℤ) → is_present o ≡ false → if_named o v ≡ if_named o w
absent_same None v w h = refl
absent_same (Some a) v w h = absurd (false≢true (sym h))

-- the parts of a date
record DateSame (q : Parsed) (k n : ℤ) : Type 0 where
  pub year : if_named q.year (year_of k) ≡ if_named q.year (year_of n)
  pub century : if_named q.year_div_100 (int_div_euclid (year_of k) (pos 100)) ≡ if_named q.year_div_100 (int_div_euclid (year_of n) (pos 100))
  pub place : if_named q.year_mod_100 (int_rem_euclid (year_of k) (pos 100)) ≡ if_named q.year_mod_100 (int_rem_euclid (year_of n) (pos 100))
  pub isoyear : if_named q.isoyear (iso_year_of k) ≡ if_named q.isoyear (iso_year_of n)
  pub iso_place : if_named q.isoyear_mod_100 (int_rem_euclid (iso_year_of k) (pos 100)) ≡ if_named q.isoyear_mod_100 (int_rem_euclid (iso_year_of n) (pos 100))
  pub quarter : if_named q.quarter (pos (quarter_of_month (month_of k))) ≡ if_named q.quarter (pos (quarter_of_month (month_of n)))
  pub month : if_named q.month (pos (month_of k)) ≡ if_named q.month (pos (month_of n))
  pub isoweek : if_named q.isoweek (pos (iso_week_of k)) ≡ if_named q.isoweek (pos (iso_week_of n))
  pub from_sun : if_named q.week_from_sun (pos (week_from_sunday k)) ≡ if_named q.week_from_sun (pos (week_from_sunday n))
  pub from_mon : if_named q.week_from_mon (pos (week_from_monday k)) ≡ if_named q.week_from_mon (pos (week_from_monday n))
  pub weekday : if_named q.weekday (pos (number_from_monday (weekday_of k))) ≡ if_named q.weekday (pos (number_from_monday (weekday_of n)))
  pub ordinal : if_named q.ordinal (pos (ordinal_of k)) ≡ if_named q.ordinal (pos (ordinal_of n))
  pub day : if_named q.day (pos (day_of k)) ≡ if_named q.day (pos (day_of n))

date_same : (g q : Parsed) (m : Moment) (x n : ℤ) → Like (parts_of g m x) q → date_fits (parts_of g m x) n ≡ true → DateSame q m.date n
unfolding date_fits year_fits day_fits week_fits year_week_fits
date_same g q m x n like fits =
    let s = like.same in
    let first = and_parts _ _ fits in
    let second = and_parts _ _ first.1 in
    let third = and_parts _ _ second.1 in
    let years = and_parts _ _ first.0 in
    let days = and_parts _ _ second.0 in
    let weeks = and_parts _ _ third.0 in
    let counted = and_parts _ _ third.1 in
    record {
      year = said_same g.year q.year _ _ (ap (λ (p : Parsed). p.year) s) (and_parts _ _ years.0).0;
      century = said_same g.year_div_100 q.year_div_100 _ _ (ap (λ (p : Parsed). p.year_div_100) s) (and_parts _ _ years.0).1;
      place = said_same g.year_mod_100 q.year_mod_100 _ _ (ap (λ (p : Parsed). p.year_mod_100) s) (and_parts _ _ years.1).0;
      isoyear = said_same g.isoyear q.isoyear _ _ (ap (λ (p : Parsed). p.isoyear) s) (and_parts _ _ weeks.0).0;
      iso_place = said_same g.isoyear_mod_100 q.isoyear_mod_100 _ _ (ap (λ (p : Parsed). p.isoyear_mod_100) s) (and_parts _ _ weeks.0).1;
      quarter = said_same g.quarter q.quarter _ _ (ap (λ (p : Parsed). p.quarter) s) (and_parts _ _ days.1).1;
      month = said_same g.month q.month _ _ (ap (λ (p : Parsed). p.month) s) (and_parts _ _ days.0).0;
      isoweek = said_same g.isoweek q.isoweek _ _ (ap (λ (p : Parsed). p.isoweek) s) (and_parts _ _ weeks.1).0;
      from_sun = said_same g.week_from_sun q.week_from_sun _ _ (ap (λ (p : Parsed). p.week_from_sun) s) counted.0;
      from_mon = said_same g.week_from_mon q.week_from_mon _ _ (ap (λ (p : Parsed). p.week_from_mon) s) counted.1;
      weekday = said_same g.weekday q.weekday _ _ (ap (λ (p : Parsed). p.weekday) s) (and_parts _ _ weeks.1).1;
      ordinal = said_same g.ordinal q.ordinal _ _ (ap (λ (p : Parsed). p.ordinal) s) (and_parts _ _ days.1).0;
      day = said_same g.day q.day _ _ (ap (λ (p : Parsed). p.day) s) (and_parts _ _ days.0).1;
    }

-- the parts of a time of day
record TimeSame (q : Parsed) (t u : TimeOfDay) : Type 0 where
  pub half : if_named q.hour_div_12 (pos (hour_of t / 12)) ≡ if_named q.hour_div_12 (pos (hour_of u / 12))
  pub hour : if_named q.hour_mod_12 (pos (hour_of t % 12)) ≡ if_named q.hour_mod_12 (pos (hour_of u % 12))
  pub minute : if_named q.minute (pos (minute_of t)) ≡ if_named q.minute (pos (minute_of u))
  pub second : if_named q.second (pos (second_of t + t.fraction / nanos_per_second)) ≡ if_named q.second (pos (second_of u + u.fraction / nanos_per_second))
  pub fraction : if_named q.nanosecond (pos (t.fraction % nanos_per_second)) ≡ if_named q.nanosecond (pos (u.fraction % nanos_per_second))

zero_fraction : (o : Option ℤ) (w : ℤ) → counts (if_named o (pos 0)) w ≡ true → pos 0 ≡ w
zero_fraction None w h = (Decides-int_eq (pos 0) w).0 h
zero_fraction (Some a) w h = (Decides-int_eq (pos 0) w).0 h

mark_again : (o : Option ℤ) (v : ℤ) → mark (if_named o v) ≡ mark o
mark_again None v = refl
mark_again (Some a) v = refl

fraction_same : (bytes : List ℕ) (t : TimeOfDay) (w : ℤ) → counts (if_named (given_parts bytes t).nanosecond (pos (fraction_of t))) w ≡ true
    → if_named (named_parts bytes).nanosecond (pos (fraction_of t)) ≡ if_named (named_parts bytes).nanosecond w
fraction_same bytes t w h = by_test (fraction_of t == 0) refl
  where
    by_test : (z : Bool) → (fraction_of t == 0) ≡ z → if_named (named_parts bytes).nanosecond (pos (fraction_of t)) ≡ if_named (named_parts bytes).nanosecond w
    by_test true e =
        let none : fraction_of t ≡ 0 = grind (arith, nat_tests) in
        let zero = ap (λ (k : ℕ). pos k) none in
        ap (λ (z : ℤ). if_named (named_parts bytes).nanosecond z)
        (zero ∙ zero_fraction (given_parts bytes t).nanosecond w (ap (λ (k : ℕ). counts (if_named (given_parts bytes t).nanosecond (pos k)) w) (sym none) ∙ h))
    by_test false e =
        counted_same (named_parts bytes).nanosecond (named_parts bytes).nanosecond (pos (fraction_of t)) w (mark_again (named_parts bytes).nanosecond (pos (fraction_of t)))
        (sym (ap (λ (p : Parsed). counts (if_named p.nanosecond (pos (fraction_of t))) w) (given_all bytes t e Outside no_parts)) ∙ h)

time_same : (bytes : List ℕ) (m : Moment) (x : ℤ) (u : TimeOfDay) → Like (kept_parts bytes m x) (named_parts bytes) → time_fits (kept_parts bytes m x) u ≡ true
    → TimeSame (named_parts bytes) m.time u
unfolding time_fits clock_fits second_fits
time_same bytes m x u like fits =
    let g = given_parts bytes m.time in
    let q = named_parts bytes in
    let s = like.same in
    let both = and_parts _ _ fits in
    let clock = and_parts _ _ both.0 in
    let hours = and_parts _ _ clock.0 in
    let seconds = and_parts _ _ both.1 in
    record {
      half = said_same g.hour_div_12 q.hour_div_12 _ _ (ap (λ (p : Parsed). p.hour_div_12) s) hours.0;
      hour = said_same g.hour_mod_12 q.hour_mod_12 _ _ (ap (λ (p : Parsed). p.hour_mod_12) s) hours.1;
      minute = said_same g.minute q.minute _ _ (ap (λ (p : Parsed). p.minute) s) clock.1;
      second = counted_same g.second q.second _ _ (ap (λ (p : Parsed). p.second) s) seconds.0;
      fraction = fraction_same bytes m.time _ seconds.1;
    }

all_same : (q : Parsed) (m : Moment) (x : ℤ) (w : Moment) (y : ℤ) → DateSame q m.date w.date → TimeSame q m.time w.time → if_named q.offset x ≡ if_named q.offset y
    → if_named q.timestamp (epoch_second m -ℤ x) ≡ if_named q.timestamp (epoch_second w -ℤ y) → Same q m x w y
all_same q m x w y date time offset stamp =
    let a = date.year in
    let b = date.century in
    let c = date.place in
    let d = date.isoyear in
    let e = date.iso_place in
    let f = date.quarter in
    let g = date.month in
    let h = date.isoweek in
    let i = date.from_sun in
    let j = date.from_mon in
    let k = date.weekday in
    let l = date.ordinal in
    let n = date.day in
    let o = time.half in
    let p = time.hour in
    let r = time.minute in
    let s = time.second in
    let t = time.fraction in
    cc

-- ---- the laws

same_parts : (wide : Bool) (bytes : List ℕ) (m : Moment) (x : ℤ) (p : Parsed) → shows_ends wide bytes ≡ true → LosesNothing wide bytes m x
    → text_read bytes (text_at_offset bytes m x) ≡ Ok p → p ≡ kept_parts bytes m x
same_parts wide bytes m x p separable kept read = same_Ok p (kept_parts bytes m x) (sym read ∙ parts_back wide bytes m x separable kept)

pub date_again : (wide : Bool) (bytes : List ℕ) (m : Moment) (n : ℤ) → shows_ends wide bytes ≡ true → LosesNothing wide bytes m (pos 0) → is_present (named_parts bytes).timestamp ≡ false
    → IsDateBy bytes (pattern_text bytes m) n → pattern_text bytes (moment n m.time) ≡ pattern_text bytes m
date_again wide bytes m n separable kept none is =
    let q = named_parts bytes in
    let fits = ap (λ (p : Parsed). date_fits p n) (sym (same_parts wide bytes m (pos 0) is.parts separable kept is.read)) ∙ is.fits in
    let date = date_same (given_parts bytes m.time) q m (pos 0) n (kept_like wide bytes m (pos 0) separable kept) fits in
    let time : TimeSame q m.time m.time = record { half = refl; hour = refl; minute = refl; second = refl; fraction = refl } in
    sym (again wide bytes m (pos 0) (moment n m.time) (pos 0) Outside Free no_parts separable (all_same q m (pos 0) (moment n m.time) (pos 0) date time refl (absent_same q.timestamp _ _ none))).0

own_date : (q : Parsed) (n : ℤ) → DateSame q n n
own_date q n = record { year = refl; century = refl; place = refl; isoyear = refl; iso_place = refl; quarter = refl; month = refl; isoweek = refl; from_sun = refl; from_mon = refl; weekday = refl; ordinal = refl; day = refl }

pub time_again : (wide : Bool) (bytes : List ℕ) (m : Moment) (u : TimeOfDay) → shows_ends wide bytes ≡ true → LosesNothing wide bytes m (pos 0) → is_present (named_parts bytes).timestamp ≡ false
    → IsTimeBy bytes (pattern_text bytes m) u → pattern_text bytes (moment m.date u) ≡ pattern_text bytes m
time_again wide bytes m u separable kept none is =
    let q = named_parts bytes in
    let fits = ap (λ (p : Parsed). time_fits p u) (sym (same_parts wide bytes m (pos 0) is.parts separable kept is.read)) ∙ is.fits in
    let time = time_same bytes m (pos 0) u (kept_like wide bytes m (pos 0) separable kept) fits in
    sym (again wide bytes m (pos 0) (moment m.date u) (pos 0) Outside Free no_parts separable (all_same q m (pos 0) (moment m.date u) (pos 0) (own_date q m.date) time refl (absent_same q.timestamp _ _ none))).0

-- without the seconds from 1970 a date-time fits by its date and its time of day
plain_fits : (g : Parsed) (m : Moment) (x : ℤ) (o : Option ℤ) (w : Moment) (y : ℤ) → mark (if_named g.timestamp (epoch_second m -ℤ x)) ≡ mark o → is_present o ≡ false
    → moment_fits (parts_of g m x) w y ≡ true → (date_fits (parts_of g m x) w.date ≡ true) × (time_fits (parts_of g m x) w.time ≡ true)
unfolding moment_fits
plain_fits g m x o w y e none fits =
    let both = and_parts _ _ fits in
    (both.0, by_stamp g.timestamp o e none both.1)
  where
    by_stamp : (s other : Option ℤ) → mark (if_named s (epoch_second m -ℤ x)) ≡ mark other → is_present other ≡ false
        → fits_by (if_named s (epoch_second m -ℤ x)) (parts_of g m x) w y ≡ true → time_fits (parts_of g m x) w.time ≡ true
    by_stamp None other k h f = f
    by_stamp (Some a) None k h f = cc
    by_stamp (Some a) (Some b) k h f = absurd (false≢true (sym h))

fits_again : (wide : Bool) (bytes : List ℕ) (m : Moment) (x : ℤ) (w : Moment) (y : ℤ) → shows_ends wide bytes ≡ true → LosesNothing wide bytes m x
    → is_present (named_parts bytes).timestamp ≡ false → moment_fits (kept_parts bytes m x) w y ≡ true → if_named (named_parts bytes).offset x ≡ if_named (named_parts bytes).offset y
    → text_at_offset bytes w y ≡ text_at_offset bytes m x
fits_again wide bytes m x w y separable kept none fits offset =
    let q = named_parts bytes in
    let like = kept_like wide bytes m x separable kept in
    let both = plain_fits (given_parts bytes m.time) m x q.timestamp w y (ap (λ (p : Parsed). p.timestamp) like.same) none fits in
    let date = date_same (given_parts bytes m.time) q m x w.date like both.0 in
    let time = time_same bytes m x w.time like both.1 in
    sym (again wide bytes m x w y Outside Free no_parts separable (all_same q m x w y date time offset (absent_same q.timestamp _ _ none))).0

pub moment_again : (wide : Bool) (bytes : List ℕ) (m w : Moment) → shows_ends wide bytes ≡ true → LosesNothing wide bytes m (pos 0) → is_present (named_parts bytes).timestamp ≡ false
    → IsMomentBy bytes (pattern_text bytes m) w → pattern_text bytes w ≡ pattern_text bytes m
moment_again wide bytes m w separable kept none is =
    let fits = ap (λ (p : Parsed). moment_fits p w (pos 0)) (sym (same_parts wide bytes m (pos 0) is.parts separable kept is.read)) ∙ is.fits in
    fits_again wide bytes m (pos 0) w (pos 0) separable kept none fits refl

pub zoned_again : (wide : Bool) (bytes : List ℕ) (m : Moment) (x : ℤ) (w : Moment) (y : ℤ) → shows_ends wide bytes ≡ true → LosesNothing wide bytes m x → is_present (named_parts bytes).timestamp ≡ false
    → IsZonedBy bytes (text_at_offset bytes m x) w y → text_at_offset bytes w y ≡ text_at_offset bytes m x
unfolding zoned_fits
zoned_again wide bytes m x w y separable kept none is =
    let fits = ap (λ (p : Parsed). zoned_fits p w y) (sym (same_parts wide bytes m x is.parts separable kept is.read)) ∙ is.fits in
    let both = and_parts (counts (kept_parts bytes m x).offset y) (moment_fits (kept_parts bytes m x) w y) fits in
    let offset = counted_same (given_parts bytes m.time).offset (named_parts bytes).offset x y
    (ap (λ (p : Parsed). p.offset) (kept_like wide bytes m x separable kept).same) both.0 in
    fits_again wide bytes m x w y separable kept none both.1 offset

-- ---- with the seconds from 1970

shown_same : (o other : Option ℤ) (v : ℤ) (t : TimeOfDay) → mark (if_named o v) ≡ mark other → shows_second (if_named o v) t ≡ true
    → if_named other v ≡ if_named other (pos (second_of t + t.fraction / nanos_per_second))
shown_same None None v t e h = refl
shown_same None (Some b) v t e h = cc
shown_same (Some a) None v t e h = cc
shown_same (Some a) (Some b) v t e h = ap (λ (z : ℤ). Some z) ((Decides-int_eq v (pos (second_of t + t.fraction / nanos_per_second))).0 h)

stamped_same : (bytes : List ℕ) (m : Moment) (x : ℤ) (u : TimeOfDay) → Like (kept_parts bytes m x) (named_parts bytes) → stamped_time_fits (kept_parts bytes m x) u ≡ true
    → TimeSame (named_parts bytes) m.time u
unfolding stamped_time_fits clock_fits
stamped_same bytes m x u like fits =
    let g = given_parts bytes m.time in
    let q = named_parts bytes in
    let s = like.same in
    let both = and_parts _ _ fits in
    let clock = and_parts _ _ both.0 in
    let hours = and_parts _ _ clock.0 in
    let seconds = and_parts _ _ both.1 in
    record {
      half = said_same g.hour_div_12 q.hour_div_12 _ _ (ap (λ (p : Parsed). p.hour_div_12) s) hours.0;
      hour = said_same g.hour_mod_12 q.hour_mod_12 _ _ (ap (λ (p : Parsed). p.hour_mod_12) s) hours.1;
      minute = said_same g.minute q.minute _ _ (ap (λ (p : Parsed). p.minute) s) clock.1;
      second = shown_same g.second q.second _ u (ap (λ (p : Parsed). p.second) s) seconds.0;
      fraction = fraction_same bytes m.time _ seconds.1;
    }

-- an offset of whole minutes
abbrev Minutes : ℤ → Type 0
Minutes x = unsigned_abs x % 60 ≡ 0

-- two leap seconds are no second apart
apart : (d e : ℤ) (s t : ℕ) (x y : ℤ) → s % 60 ≡ 59 → t % 60 ≡ 59 → Minutes x → Minutes y
    → (d *ℤ pos 86_400 +ℤ pos s) -ℤ x ≡ ((e *ℤ pos 86_400 +ℤ pos t) -ℤ y) +ℤ pos 1 → ⊥
apart d e s t (pos a) (pos b) first second x y is = omega (arith, signed, first, second, x, y, is)
apart d e s t (pos a) (negsuc b) first second x y is = omega (arith, signed, first, second, x, y, is)
apart d e s t (negsuc a) (pos b) first second x y is = omega (arith, signed, first, second, x, y, is)
apart d e s t (negsuc a) (negsuc b) first second x y is = omega (arith, signed, first, second, x, y, is)

-- a clock that shows the second of a leap second is in one
leap_shown : (o : Option ℤ) (m w : TimeOfDay) → IsTime m → IsClockTime w → is_leap w ≡ true → shows_second (if_named o (pos (second_of m + m.fraction / nanos_per_second))) w ≡ true
    → (m.second % 60 ≡ 59) × (w.second % 60 ≡ 59)
leap_shown None m w time clock leap shown = absurd (false≢true (sym (ap (λ (b : Bool). if b then false else true) leap) ∙ shown))
leap_shown (Some a) m w time clock leap shown =
    let same = same_pos _ _ ((Decides-int_eq (pos (second_of m + m.fraction / nanos_per_second)) (pos (second_of w + w.fraction / nanos_per_second))).0 shown) in
    let many : nanos_per_second ≤ w.fraction = grind (arith, nat_tests, leap) in
    let last = clock.leap.1 many in
    (omega (arith, same, many, last, time.fraction, clock.leap.0), last)

stamp_same : (g : Parsed) (m : Moment) (x : ℤ) (w : Moment) (y : ℤ) → IsTime m.time → IsClockTime w.time → Minutes x → Minutes y
    → shows_second (if_named g.second (pos (second_of m.time + m.time.fraction / nanos_per_second))) w.time ≡ true
    → is_stamp_of (epoch_second m -ℤ x) w y ≡ true → epoch_second m -ℤ x ≡ epoch_second w -ℤ y
stamp_same g m x w y time clock first second shown is = by_leap (is_leap w.time) refl is
  where
    by_test : is_leap w.time ≡ true → (a b : Bool) → int_eq (epoch_second m -ℤ x) (epoch_second w -ℤ y) ≡ a → int_eq (epoch_second m -ℤ x) (epoch_second w -ℤ y +ℤ pos 1) ≡ b
        → (a || b) ≡ true → epoch_second m -ℤ x ≡ epoch_second w -ℤ y
    by_test leap true b h k is = (Decides-int_eq (epoch_second m -ℤ x) (epoch_second w -ℤ y)).0 h
    by_test leap false true h k is =
        let both = leap_shown g.second m.time w.time time clock leap shown in
        absurd (apart (m.date -ℤ unix_epoch_day) (w.date -ℤ unix_epoch_day) m.time.second w.time.second x y both.0 both.1 first second
        ((Decides-int_eq (epoch_second m -ℤ x) (epoch_second w -ℤ y +ℤ pos 1)).0 k))
    by_test leap false false h k is = absurd (false≢true is)

    by_leap : (b : Bool) → is_leap w.time ≡ b → (if b then is_next_to (epoch_second m -ℤ x) (epoch_second w -ℤ y) else int_eq (epoch_second m -ℤ x) (epoch_second w -ℤ y)) ≡ true
        → epoch_second m -ℤ x ≡ epoch_second w -ℤ y
    by_leap false leap h = (Decides-int_eq (epoch_second m -ℤ x) (epoch_second w -ℤ y)).0 h
    by_leap true leap h = by_test leap (int_eq (epoch_second m -ℤ x) (epoch_second w -ℤ y)) (int_eq (epoch_second m -ℤ x) (epoch_second w -ℤ y +ℤ pos 1)) refl refl h

stamped_again : (wide : Bool) (bytes : List ℕ) (m : Moment) (x : ℤ) (w : Moment) (y : ℤ) → shows_ends wide bytes ≡ true → LosesNothing wide bytes m x
    → is_present (named_parts bytes).timestamp ≡ true → IsClockTime w.time → Minutes x → Minutes y
    → moment_fits (kept_parts bytes m x) w y ≡ true → if_named (named_parts bytes).offset x ≡ if_named (named_parts bytes).offset y
    → text_at_offset bytes w y ≡ text_at_offset bytes m x
unfolding moment_fits stamped_time_fits
stamped_again wide bytes m x w y separable kept some clock first second fits offset =
    let g = given_parts bytes m.time in
    let q = named_parts bytes in
    let like = kept_like wide bytes m x separable kept in
    let both = and_parts _ _ fits in
    let date = date_same g q m x w.date like both.0 in
    let parts = by_stamp g.timestamp q.timestamp (ap (λ (p : Parsed). p.timestamp) like.same) some both.1 in
    let time = stamped_same bytes m x w.time like parts.0 in
    let shown = (and_parts _ _ (and_parts _ _ parts.0).1).0 in
    let stamp = ap (λ (z : ℤ). if_named q.timestamp z) (stamp_same g m x w y kept.time clock first second shown parts.1) in
    sym (again wide bytes m x w y Outside Free no_parts separable (all_same q m x w y date time offset stamp)).0
  where
    by_stamp : (s other : Option ℤ) → mark (if_named s (epoch_second m -ℤ x)) ≡ mark other → is_present other ≡ true
        → fits_by (if_named s (epoch_second m -ℤ x)) (kept_parts bytes m x) w y ≡ true
        → (stamped_time_fits (kept_parts bytes m x) w.time ≡ true) × (is_stamp_of (epoch_second m -ℤ x) w y ≡ true)
    by_stamp None None k h f = absurd (false≢true h)
    by_stamp None (Some b) k h f = cc
    by_stamp (Some a) other k h f = and_parts _ _ f

any_again : (wide : Bool) (bytes : List ℕ) (m : Moment) (x : ℤ) (w : Moment) (y : ℤ) → shows_ends wide bytes ≡ true → LosesNothing wide bytes m x → IsClockTime w.time
    → Minutes x → Minutes y → moment_fits (kept_parts bytes m x) w y ≡ true → if_named (named_parts bytes).offset x ≡ if_named (named_parts bytes).offset y
    → text_at_offset bytes w y ≡ text_at_offset bytes m x
any_again wide bytes m x w y separable kept clock first second fits offset = by_stamp (is_present (named_parts bytes).timestamp) refl
  where
    by_stamp : (b : Bool) → is_present (named_parts bytes).timestamp ≡ b → text_at_offset bytes w y ≡ text_at_offset bytes m x
    by_stamp true e = stamped_again wide bytes m x w y separable kept e clock first second fits offset
    by_stamp false e = fits_again wide bytes m x w y separable kept e fits offset

pub any_moment_again : (wide : Bool) (bytes : List ℕ) (m w : Moment) → shows_ends wide bytes ≡ true → LosesNothing wide bytes m (pos 0) → IsClockTime w.time
    → IsMomentBy bytes (pattern_text bytes m) w → pattern_text bytes w ≡ pattern_text bytes m
any_moment_again wide bytes m w separable kept clock is =
    let fits = ap (λ (p : Parsed). moment_fits p w (pos 0)) (sym (same_parts wide bytes m (pos 0) is.parts separable kept is.read)) ∙ is.fits in
    any_again wide bytes m (pos 0) w (pos 0) separable kept clock refl refl fits refl

-- an offset that fits is the same, or none is named
counted_minutes : (o : Option ℤ) (x y : ℤ) → Minutes x → counts (if_named o x) y ≡ true → Minutes y
counted_minutes None x y whole h = ap (λ (z : ℤ). unsigned_abs z % 60) (sym ((Decides-int_eq (pos 0) y).0 h))
counted_minutes (Some a) x y whole h = ap (λ (z : ℤ). unsigned_abs z % 60) (sym ((Decides-int_eq x y).0 h)) ∙ whole

pub any_zoned_again : (wide : Bool) (bytes : List ℕ) (m : Moment) (x : ℤ) (w : Moment) (y : ℤ) → shows_ends wide bytes ≡ true → LosesNothing wide bytes m x → Minutes x
    → IsClockTime w.time → IsZonedBy bytes (text_at_offset bytes m x) w y → text_at_offset bytes w y ≡ text_at_offset bytes m x
unfolding zoned_fits
any_zoned_again wide bytes m x w y separable kept whole clock is =
    let fits = ap (λ (p : Parsed). zoned_fits p w y) (sym (same_parts wide bytes m x is.parts separable kept is.read)) ∙ is.fits in
    let both = and_parts (counts (kept_parts bytes m x).offset y) (moment_fits (kept_parts bytes m x) w y) fits in
    let offset = counted_same (given_parts bytes m.time).offset (named_parts bytes).offset x y
    (ap (λ (p : Parsed). p.offset) (kept_like wide bytes m x separable kept).same) both.0 in
    any_again wide bytes m x w y separable kept clock whole (counted_minutes (given_parts bytes m.time).offset x y whole both.0) both.1 offset
