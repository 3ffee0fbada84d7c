-- A text that a pattern reads gives the parts that the pattern names, but for a fraction that it may leave out.
use Rattle.std.proofs.Common.{◌≡◌, ℕ, Bool, true, false, ◌&&◌, ◌||◌, ◌+◌, ◌*◌, neg_ℤ, ◌==◌, List, [], ◌∷◌, length, take, Option, None, Some, Result, Ok, Err, IfOk, ℤ, pos, refl, ap, sym, subst, ◌∙◌, if◌then◌else◌}
use Rattle.std.proofs.lemmas.Bool.{false≢true}
use Rattle.std.specs.Int.{int_div_euclid, int_rem_euclid}
use Rattle.std.specs.Int.RustNames.{int_lt}
use Rattle.std.specs.Ordering.{int_eq}
use Rattle.std.specs.Prelude.{min, nat_lt}
use Rattle.std.specs.Str.{byte}
use Rattle.chrono_text.specs.Numbers.{digits_of, signed}
use Rattle.chrono_datetime.specs.Month.{number_from_month}
use Rattle.chrono_datetime.specs.Names.{month_of_letters, weekday_of_letters}
use Rattle.chrono_datetime.specs.Weekday.{number_from_monday}
use Rattle.chrono_datetime.specs.declared.Month.{Month as MonthOf}
use Rattle.chrono_datetime.specs.declared.Weekday.{Weekday}
use Rattle.chrono_pattern.specs.DateParts.{is_present, names_calendar, names_date, names_ordinal, names_week, names_year_week}
use Rattle.chrono_pattern.specs.ItemReads.{behind_read, between_behind, between_read, iso_offset_read, iso_read, zoned_read, clock_year_read, day_read, group_read, half_clock_read, item_read, short_date_read, three_read, two_read, word_behind_read}
use Rattle.chrono_pattern.specs.NamedParts.{named_from, named_parts, with_clock, with_group, with_half, with_item, with_named, with_number_field, with_zoned, word_part}
use Rattle.chrono_pattern.specs.NumberReads.{digits_in, digits_read, half_put, has_sign, hour_of_clock, most_digits, number_part, number_put, number_read, part_put, signed_read, value_read, weekday_of_sunday}
use Rattle.chrono_pattern.specs.OffsetReads.{Taken, at_rest, behind_colons, has_seconds, may_miss_minutes, minutes_taken, offset_read, seconds_behind, seconds_taken, signed_offset_read, signed_stamp, size_put, size_taken, stamp_digits, stamp_value, two_taken, utc_len, utc_or_offset, with_hours, with_minutes, with_seconds, within_two}
use Rattle.chrono_pattern.specs.Parts.{no_parts, part_of, put, put_stamp, part_range, with_part, with_stamp}
use Rattle.chrono_pattern.specs.Progress.{Progress, behind_blanks, byte_behind, class_len, is_pattern_blank, literal_read, progress, then_read}
use Rattle.chrono_pattern.specs.Reads.{end_read, front_read, read_from, text_read}
use Rattle.chrono_pattern.specs.PatternSteps.{pattern_step}
use Rattle.chrono_pattern.specs.SubsecondReads.{places_read, places_value, point_behind, subsecond_read}
use Rattle.chrono_pattern.specs.TimeParts.{names_second, names_time}
use Rattle.chrono_pattern.specs.WordReads.{half_behind, half_of, half_read, least_letters, letters_read, month_behind, month_read, weekday_behind, weekday_read, word_read}
use Rattle.chrono_pattern.specs.ZonedParts.{names_moment, names_zoned}
use Rattle.chrono_pattern.specs.declared.class.Class.TheVariants.{Digit}
use Rattle.chrono_pattern.specs.declared.error.ReadFault.{ReadFault}
use Rattle.chrono_pattern.specs.declared.error.ReadFault.TheVariants.{Impossible}
use Rattle.chrono_pattern.specs.declared.item.GroupField.{GroupField}
use Rattle.chrono_pattern.specs.declared.item.GroupField.TheVariants.{YearMonthDay, MonthDayYear, HourMinute, HourMinuteSecond, HalfClock, DayMonthYear, DateAndTime}
use Rattle.chrono_pattern.specs.declared.item.Item.{Item}
use Rattle.chrono_pattern.specs.declared.item.Item.TheVariants.{Empty, Byte, Number, Word, Group, Subsecond, Zoned}
use Rattle.chrono_pattern.specs.declared.item.NumberField.{NumberField}
use Rattle.chrono_pattern.specs.declared.item.NumberField.TheVariants.{Year, Century, YearOfCentury, Quarter, Month, Day, SpacedDay, DayOfYear, FromMonday, FromSunday, IsoYear, IsoYearOfCentury, IsoWeek, WeekFromSunday, WeekFromMonday, Hour, SpacedHour, HalfHour, SpacedHalfHour, Minute, Second, Nanosecond}
use Rattle.chrono_pattern.specs.declared.item.OffsetForm.{OffsetForm}
use Rattle.chrono_pattern.specs.declared.item.OffsetForm.TheVariants.{Plain, Colon, Seconds, Hours, Loose}
use Rattle.chrono_pattern.specs.declared.item.ZonedField.{ZonedField}
use Rattle.chrono_pattern.specs.declared.item.ZonedField.TheVariants.{Offset, ZoneName, Stamp, Iso8601}
use Rattle.chrono_pattern.specs.declared.item.State.{State}
use Rattle.chrono_pattern.specs.declared.item.State.TheVariants.{Outside}
use Rattle.chrono_pattern.specs.declared.item.WordField.{WordField}
use Rattle.chrono_pattern.specs.declared.item.WordField.TheVariants.{MonthName, MonthLetters, WeekdayName, WeekdayLetters, Half, SmallHalf}
use Rattle.chrono_pattern.specs.declared.parsed.Parsed.{Parsed}
use Rattle.chrono_pattern.specs.declared.parsed.Part.{Part}
use Rattle.chrono_pattern.specs.declared.parsed.Part.TheVariants.{FullYear, YearDiv100, YearMod100, FullIsoYear, IsoYearMod100, QuarterOfYear, MonthOfYear, WeekOfIsoYear, WeekFromSun, WeekFromMon, DayOfWeek, OrdinalDay, DayOfMonth, HourDiv12, HourMod12, MinuteOfHour, SecondOfMinute, NanosecondOfSecond, OffsetFromUtc}
use Rattle.chrono_pattern.specs.declared.stop.Stop.{Stop}

-- ---- which parts are given

abbrev pub mark : Option ℤ → Option ℤ
mark None = None
mark (Some v) = Some (pos 0)

-- each part that is given as 0, and the fraction so in any case
abbrev pub shape : Parsed → Parsed
shape p = record {
  year = mark p.year;
  year_div_100 = mark p.year_div_100;
  year_mod_100 = mark p.year_mod_100;
  isoyear = mark p.isoyear;
  isoyear_mod_100 = mark p.isoyear_mod_100;
  quarter = mark p.quarter;
  month = mark p.month;
  isoweek = mark p.isoweek;
  week_from_sun = mark p.week_from_sun;
  week_from_mon = mark p.week_from_mon;
  weekday = mark p.weekday;
  ordinal = mark p.ordinal;
  day = mark p.day;
  hour_div_12 = mark p.hour_div_12;
  hour_mod_12 = mark p.hour_mod_12;
  minute = mark p.minute;
  second = mark p.second;
  nanosecond = Some (pos 0);
  offset = mark p.offset;
  timestamp = mark p.timestamp;
}

with_shape : (part : Part) (v : ℤ) (p : Parsed) → shape (with_part part v p) ≡ with_named part (shape p)
with_shape FullYear v p = refl
with_shape YearDiv100 v p = refl
with_shape YearMod100 v p = refl
with_shape FullIsoYear v p = refl
with_shape IsoYearMod100 v p = refl
with_shape QuarterOfYear v p = refl
with_shape MonthOfYear v p = refl
with_shape WeekOfIsoYear v p = refl
with_shape WeekFromSun v p = refl
with_shape WeekFromMon v p = refl
with_shape DayOfWeek v p = refl
with_shape OrdinalDay v p = refl
with_shape DayOfMonth v p = refl
with_shape HourDiv12 v p = refl
with_shape HourMod12 v p = refl
with_shape MinuteOfHour v p = refl
with_shape SecondOfMinute v p = refl
with_shape NanosecondOfSecond v p = refl
with_shape OffsetFromUtc v p = refl

kept_shape : (part : Part) (w : ℤ) (p : Parsed) → part_of part p ≡ Some w → with_named part (shape p) ≡ shape p
kept_shape FullYear w p e = ap (λ (o : Option ℤ). record (shape p) { year = mark o }) (sym e)
kept_shape YearDiv100 w p e = ap (λ (o : Option ℤ). record (shape p) { year_div_100 = mark o }) (sym e)
kept_shape YearMod100 w p e = ap (λ (o : Option ℤ). record (shape p) { year_mod_100 = mark o }) (sym e)
kept_shape FullIsoYear w p e = ap (λ (o : Option ℤ). record (shape p) { isoyear = mark o }) (sym e)
kept_shape IsoYearMod100 w p e = ap (λ (o : Option ℤ). record (shape p) { isoyear_mod_100 = mark o }) (sym e)
kept_shape QuarterOfYear w p e = ap (λ (o : Option ℤ). record (shape p) { quarter = mark o }) (sym e)
kept_shape MonthOfYear w p e = ap (λ (o : Option ℤ). record (shape p) { month = mark o }) (sym e)
kept_shape WeekOfIsoYear w p e = ap (λ (o : Option ℤ). record (shape p) { isoweek = mark o }) (sym e)
kept_shape WeekFromSun w p e = ap (λ (o : Option ℤ). record (shape p) { week_from_sun = mark o }) (sym e)
kept_shape WeekFromMon w p e = ap (λ (o : Option ℤ). record (shape p) { week_from_mon = mark o }) (sym e)
kept_shape DayOfWeek w p e = ap (λ (o : Option ℤ). record (shape p) { weekday = mark o }) (sym e)
kept_shape OrdinalDay w p e = ap (λ (o : Option ℤ). record (shape p) { ordinal = mark o }) (sym e)
kept_shape DayOfMonth w p e = ap (λ (o : Option ℤ). record (shape p) { day = mark o }) (sym e)
kept_shape HourDiv12 w p e = ap (λ (o : Option ℤ). record (shape p) { hour_div_12 = mark o }) (sym e)
kept_shape HourMod12 w p e = ap (λ (o : Option ℤ). record (shape p) { hour_mod_12 = mark o }) (sym e)
kept_shape MinuteOfHour w p e = ap (λ (o : Option ℤ). record (shape p) { minute = mark o }) (sym e)
kept_shape SecondOfMinute w p e = ap (λ (o : Option ℤ). record (shape p) { second = mark o }) (sym e)
kept_shape NanosecondOfSecond w p e = refl
kept_shape OffsetFromUtc w p e = ap (λ (o : Option ℤ). record (shape p) { offset = mark o }) (sym e)

-- the same parts are given, and a fraction only if the other parts have one
pub record Like (p q : Parsed) : Type 0 where
  pub same : shape p ≡ shape q
  pub fraction : is_present p.nanosecond ≡ true → is_present q.nanosecond ≡ true

fraction_named : (part : Part) (p q : Parsed) → Like p q → is_present p.nanosecond ≡ true → is_present (with_named part q).nanosecond ≡ true
fraction_named FullYear p q e h = e.fraction h
fraction_named YearDiv100 p q e h = e.fraction h
fraction_named YearMod100 p q e h = e.fraction h
fraction_named FullIsoYear p q e h = e.fraction h
fraction_named IsoYearMod100 p q e h = e.fraction h
fraction_named QuarterOfYear p q e h = e.fraction h
fraction_named MonthOfYear p q e h = e.fraction h
fraction_named WeekOfIsoYear p q e h = e.fraction h
fraction_named WeekFromSun p q e h = e.fraction h
fraction_named WeekFromMon p q e h = e.fraction h
fraction_named DayOfWeek p q e h = e.fraction h
fraction_named OrdinalDay p q e h = e.fraction h
fraction_named DayOfMonth p q e h = e.fraction h
fraction_named HourDiv12 p q e h = e.fraction h
fraction_named HourMod12 p q e h = e.fraction h
fraction_named MinuteOfHour p q e h = e.fraction h
fraction_named SecondOfMinute p q e h = e.fraction h
fraction_named NanosecondOfSecond p q e h = refl
fraction_named OffsetFromUtc p q e h = e.fraction h

fraction_put : (part : Part) (v : ℤ) (p q : Parsed) → Like p q → is_present (with_part part v p).nanosecond ≡ true
    → is_present (with_named part q).nanosecond ≡ true
fraction_put FullYear v p q e h = e.fraction h
fraction_put YearDiv100 v p q e h = e.fraction h
fraction_put YearMod100 v p q e h = e.fraction h
fraction_put FullIsoYear v p q e h = e.fraction h
fraction_put IsoYearMod100 v p q e h = e.fraction h
fraction_put QuarterOfYear v p q e h = e.fraction h
fraction_put MonthOfYear v p q e h = e.fraction h
fraction_put WeekOfIsoYear v p q e h = e.fraction h
fraction_put WeekFromSun v p q e h = e.fraction h
fraction_put WeekFromMon v p q e h = e.fraction h
fraction_put DayOfWeek v p q e h = e.fraction h
fraction_put OrdinalDay v p q e h = e.fraction h
fraction_put DayOfMonth v p q e h = e.fraction h
fraction_put HourDiv12 v p q e h = e.fraction h
fraction_put HourMod12 v p q e h = e.fraction h
fraction_put MinuteOfHour v p q e h = e.fraction h
fraction_put SecondOfMinute v p q e h = e.fraction h
fraction_put NanosecondOfSecond v p q e h = refl
fraction_put OffsetFromUtc v p q e h = e.fraction h

abbrev Shaped : Result Parsed ReadFault → Parsed → Type 0
Shaped o q = IfOk o (λ p. Like p q)

abbrev Gives : Result Progress Stop → Parsed → Type 0
Gives o q = IfOk o (λ r. Like r.parsed q)

if_shaped : (b : Bool) (x y : Result Parsed ReadFault) (q : Parsed) → Shaped x q → Shaped y q → Shaped (if b then x else y) q
if_shaped true x y q hx hy = hx
if_shaped false x y q hx hy = hy

if_gives : (b : Bool) (x y : Result Progress Stop) (q : Parsed) → Gives x q → Gives y q → Gives (if b then x else y) q
if_gives true x y q hx hy = hx
if_gives false x y q hx hy = hy

progress_gives : (o : Result Parsed ReadFault) (rest text : List ℕ) (q : Parsed) → Shaped o q → Gives (progress o rest text) q
progress_gives (Ok p) rest text q h = h
progress_gives (Err cause) rest text q h = tt

same_named : (part : Part) (p q : Parsed) → shape p ≡ shape q → with_named part (shape p) ≡ shape (with_named part q)
same_named part p q e = ap (λ (s : Parsed). with_named part s) e ∙ sym (with_shape part (pos 0) q)

put_found : (part : Part) (v : ℤ) (p q : Parsed) → Like p q → (o : Option ℤ) → part_of part p ≡ o
    → Shaped (elim o as (λ _. Result Parsed ReadFault) [ None ↦ Ok (with_part part v p) | Some w ↦ if int_eq w v then Ok p else Err Impossible ]) (with_named part q)
put_found part v p q e None is = record { same = with_shape part v p ∙ same_named part p q e.same; fraction = fraction_put part v p q e }
put_found part v p q e (Some w) is =
    if_shaped (int_eq w v) (Ok p) (Err Impossible) (with_named part q)
    (record { same = sym (kept_shape part w p is) ∙ same_named part p q e.same; fraction = fraction_named part p q e }) tt

put_shaped : (part : Part) (v : ℤ) (p q : Parsed) → Like p q → Shaped (put part v p) (with_named part q)
unfolding put
put_shaped part v p q e =
    if_shaped (int_lt v (part_range part).0) _ _ (with_named part q) tt
    (if_shaped (int_lt (part_range part).1 v) _ _ (with_named part q) tt (put_found part v p q e (part_of part p) refl))

-- the same of the seconds from 1970
kept_stamp : (w : ℤ) (p : Parsed) → p.timestamp ≡ Some w → with_stamp (pos 0) (shape p) ≡ shape p
kept_stamp w p e = ap (λ (o : Option ℤ). record (shape p) { timestamp = mark o }) (sym e)

stamp_named : (p q : Parsed) → shape p ≡ shape q → with_stamp (pos 0) (shape p) ≡ shape (with_stamp (pos 0) q)
stamp_named p q e = ap (λ (s : Parsed). with_stamp (pos 0) s) e

stamp_found : (v : ℤ) (p q : Parsed) → Like p q → (o : Option ℤ) → p.timestamp ≡ o
    → Shaped (elim o as (λ _. Result Parsed ReadFault) [ None ↦ Ok (with_stamp v p) | Some w ↦ if int_eq w v then Ok p else Err Impossible ]) (with_stamp (pos 0) q)
stamp_found v p q e None is = record { same = stamp_named p q e.same; fraction = e.fraction }
stamp_found v p q e (Some w) is =
    if_shaped (int_eq w v) (Ok p) (Err Impossible) (with_stamp (pos 0) q)
    (record { same = sym (kept_stamp w p is) ∙ stamp_named p q e.same; fraction = e.fraction }) tt

stamp_shaped : (v : ℤ) (p q : Parsed) → Like p q → Shaped (put_stamp v p) (with_stamp (pos 0) q)
unfolding put_stamp
stamp_shaped v p q e =
    if_shaped (int_lt v (neg_ℤ (pos 8_334_601_228_800))) _ _ (with_stamp (pos 0) q) tt
    (if_shaped (int_lt (pos 8_210_266_876_799) v) _ _ (with_stamp (pos 0) q) tt (stamp_found v p q e p.timestamp refl))

-- ---- a number

half_shaped : (field : NumberField) (v : ℤ) (p q : Parsed) → Like p q → Shaped (half_put field v p) (with_half field q)
half_shaped Year v p q e = e
half_shaped Century v p q e = e
half_shaped YearOfCentury v p q e = e
half_shaped Quarter v p q e = e
half_shaped Month v p q e = e
half_shaped Day v p q e = e
half_shaped SpacedDay v p q e = e
half_shaped DayOfYear v p q e = e
half_shaped FromMonday v p q e = e
half_shaped FromSunday v p q e = e
half_shaped IsoYear v p q e = e
half_shaped IsoYearOfCentury v p q e = e
half_shaped IsoWeek v p q e = e
half_shaped WeekFromSunday v p q e = e
half_shaped WeekFromMonday v p q e = e
half_shaped Hour v p q e = put_shaped HourDiv12 (int_div_euclid v (pos 12)) p q e
half_shaped SpacedHour v p q e = put_shaped HourDiv12 (int_div_euclid v (pos 12)) p q e
half_shaped HalfHour v p q e = e
half_shaped SpacedHalfHour v p q e = e
half_shaped Minute v p q e = e
half_shaped Second v p q e = e
half_shaped Nanosecond v p q e = e

put_number_shaped : (field : NumberField) (v : ℤ) (p q : Parsed) → Like p q
    → Shaped (part_put (Ok p) field v) (with_named (number_part field (pos 0)).0 q)
put_number_shaped Year v p q e = put_shaped FullYear v p q e
put_number_shaped Century v p q e = put_shaped YearDiv100 v p q e
put_number_shaped YearOfCentury v p q e = put_shaped YearMod100 v p q e
put_number_shaped Quarter v p q e = put_shaped QuarterOfYear v p q e
put_number_shaped Month v p q e = put_shaped MonthOfYear v p q e
put_number_shaped Day v p q e = put_shaped DayOfMonth v p q e
put_number_shaped SpacedDay v p q e = put_shaped DayOfMonth v p q e
put_number_shaped DayOfYear v p q e = put_shaped OrdinalDay v p q e
put_number_shaped FromMonday v p q e = put_shaped DayOfWeek v p q e
put_number_shaped FromSunday v p q e = put_shaped DayOfWeek (weekday_of_sunday v) p q e
put_number_shaped IsoYear v p q e = put_shaped FullIsoYear v p q e
put_number_shaped IsoYearOfCentury v p q e = put_shaped IsoYearMod100 v p q e
put_number_shaped IsoWeek v p q e = put_shaped WeekOfIsoYear v p q e
put_number_shaped WeekFromSunday v p q e = put_shaped WeekFromSun v p q e
put_number_shaped WeekFromMonday v p q e = put_shaped WeekFromMon v p q e
put_number_shaped Hour v p q e = put_shaped HourMod12 (int_rem_euclid v (pos 12)) p q e
put_number_shaped SpacedHour v p q e = put_shaped HourMod12 (int_rem_euclid v (pos 12)) p q e
put_number_shaped HalfHour v p q e = put_shaped HourMod12 (hour_of_clock v) p q e
put_number_shaped SpacedHalfHour v p q e = put_shaped HourMod12 (hour_of_clock v) p q e
put_number_shaped Minute v p q e = put_shaped MinuteOfHour v p q e
put_number_shaped Second v p q e = put_shaped SecondOfMinute v p q e
put_number_shaped Nanosecond v p q e = put_shaped NanosecondOfSecond v p q e

part_shaped : (o : Result Parsed ReadFault) (field : NumberField) (v : ℤ) (q : Parsed) → Shaped o q
    → Shaped (part_put o field v) (with_named (number_part field (pos 0)).0 q)
part_shaped (Ok p) field v q h = put_number_shaped field v p q h
part_shaped (Err cause) field v q h = tt

value_gives : (o : Option ℕ) (field : NumberField) (most : ℕ) (negative : Bool) (text : List ℕ) (p q : Parsed) → Like p q
    → Gives (value_read o field most negative text p) (with_number_field field q)
unfolding number_put
value_gives None field most negative text p q e = tt
value_gives (Some n) field most negative text p q e =
    let v = signed negative n in
    progress_gives (number_put field v p) _ text (with_number_field field q)
    (part_shaped (half_put field v p) field v (with_half field q) (half_shaped field v p q e))

digits_gives : (field : NumberField) (most : ℕ) (negative : Bool) (text : List ℕ) (p q : Parsed) → Like p q
    → Gives (digits_read field most negative text p) (with_number_field field q)
unfolding digits_read
digits_gives field most negative text p q e = value_gives (digits_of most (take (digits_in most text) text)) field most negative text p q e

signed_gives : (field : NumberField) (text : List ℕ) (p q : Parsed) → Like p q
    → Gives (signed_read field text p) (with_number_field field q)
unfolding signed_read
signed_gives field [] p q e = tt
signed_gives field (c ∷ digits) p q e =
    if_gives (c == byte "-") _ _ (with_number_field field q) (digits_gives field 9 true digits p q e)
    (if_gives (c == byte "+") _ _ (with_number_field field q) (digits_gives field 9 false digits p q e)
    (digits_gives field (most_digits field) false (c ∷ digits) p q e))

number_gives : (field : NumberField) (r : Progress) (q : Parsed) → Like r.parsed q
    → Gives (number_read field r) (with_number_field field q)
unfolding number_read
number_gives field r q e =
    if_gives (has_sign field) _ _ (with_number_field field q) (signed_gives field (behind_blanks r.rest) r.parsed q e)
    (digits_gives field (most_digits field) false (behind_blanks r.rest) r.parsed q e)

-- ---- a word

month_gives : (o : Option MonthOf) (whole : Bool) (text : List ℕ) (p q : Parsed) → Like p q
    → Gives (month_behind o whole text p) (with_named MonthOfYear q)
month_gives None whole text p q e = tt
month_gives (Some m) whole text p q e =
    progress_gives (put MonthOfYear (pos (number_from_month m)) p) _ text (with_named MonthOfYear q) (put_shaped MonthOfYear (pos (number_from_month m)) p q e)

weekday_gives : (o : Option Weekday) (whole : Bool) (text : List ℕ) (p q : Parsed) → Like p q
    → Gives (weekday_behind o whole text p) (with_named DayOfWeek q)
weekday_gives None whole text p q e = tt
weekday_gives (Some d) whole text p q e =
    progress_gives (put DayOfWeek (pos (number_from_monday d)) p) _ text (with_named DayOfWeek q) (put_shaped DayOfWeek (pos (number_from_monday d)) p q e)

half_gives : (o : Option ℤ) (text : List ℕ) (p q : Parsed) → Like p q → Gives (half_behind o text p) (with_named HourDiv12 q)
half_gives None text p q e = tt
half_gives (Some half) text p q e = progress_gives (put HourDiv12 half p) _ text (with_named HourDiv12 q) (put_shaped HourDiv12 half p q e)

letters_give : (word : WordField) (r : Progress) (q : Parsed) → Like r.parsed q
    → Gives (letters_read word r) (with_named (word_part word) q)
unfolding month_read weekday_read half_read
letters_give MonthName r q e = month_gives (month_of_letters (take 3 r.rest)) true r.rest r.parsed q e
letters_give MonthLetters r q e = month_gives (month_of_letters (take 3 r.rest)) false r.rest r.parsed q e
letters_give WeekdayName r q e = weekday_gives (weekday_of_letters 3 (take 3 r.rest)) true r.rest r.parsed q e
letters_give WeekdayLetters r q e = weekday_gives (weekday_of_letters 3 (take 3 r.rest)) false r.rest r.parsed q e
letters_give Half r q e = half_gives (half_of (take 2 r.rest)) r.rest r.parsed q e
letters_give SmallHalf r q e = half_gives (half_of (take 2 r.rest)) r.rest r.parsed q e

word_gives : (word : WordField) (r : Progress) (q : Parsed) → Like r.parsed q
    → Gives (word_read word r) (with_named (word_part word) q)
unfolding word_read
word_gives word r q e =
    if_gives (nat_lt (length r.rest) (least_letters word)) _ _ (with_named (word_part word) q) tt (letters_give word r q e)

-- ---- bytes and groups

then_gives : (o : Result Progress Stop) (next : Progress → Result Progress Stop) (q other : Parsed) → Gives o q
    → ((r : Progress) → Like r.parsed q → Gives (next r) other) → Gives (then_read o next) other
then_gives (Ok r) next q other h more = more r h
then_gives (Err k) next q other h more = tt

byte_gives : (c : ℕ) (text : List ℕ) (p q : Parsed) → Like p q → Gives (byte_behind c text p) q
byte_gives c [] p q e = tt
byte_gives c (d ∷ rest) p q e = if_gives (d == c) _ _ q e tt

literal_gives : (c : ℕ) (r : Progress) (q : Parsed) → Like r.parsed q → Gives (literal_read c r) q
unfolding literal_read
literal_gives c r q e = if_gives (is_pattern_blank c) _ _ q e (byte_gives c r.rest r.parsed q e)

behind_gives : (c : ℕ) (field : NumberField) (r : Progress) (q : Parsed) → Like r.parsed q
    → Gives (behind_read c field r) (with_number_field field q)
behind_gives c field r q e =
    then_gives (literal_read c r) (number_read field) q (with_number_field field q) (literal_gives c r q e) (λ t h. number_gives field t q h)

word_behind_gives : (c : ℕ) (word : WordField) (r : Progress) (q : Parsed) → Like r.parsed q
    → Gives (word_behind_read c word r) (with_named (word_part word) q)
word_behind_gives c word r q e =
    then_gives (literal_read c r) (word_read word) q (with_named (word_part word) q) (literal_gives c r q e) (λ t h. word_gives word t q h)

two_give : (first : NumberField) (c : ℕ) (second : NumberField) (r : Progress) (q : Parsed) → Like r.parsed q
    → Gives (two_read first c second r) (with_number_field second (with_number_field first q))
two_give first c second r q e =
    then_gives (number_read first r) (behind_read c second) (with_number_field first q) (with_number_field second (with_number_field first q))
    (number_gives first r q e) (λ t h. behind_gives c second t (with_number_field first q) h)

three_give : (first : NumberField) (c : ℕ) (second third : NumberField) (r : Progress) (q : Parsed) → Like r.parsed q
    → Gives (three_read first c second third r) (with_number_field third (with_number_field second (with_number_field first q)))
three_give first c second third r q e =
    let both = with_number_field second (with_number_field first q) in
    then_gives (two_read first c second r) (behind_read c third) both (with_number_field third both)
    (two_give first c second r q e) (λ t h. behind_gives c third t both h)

half_clock_gives : (r : Progress) (q : Parsed) → Like r.parsed q → Gives (half_clock_read r) (with_named HourDiv12 (with_clock HalfHour q))
half_clock_gives r q e =
    then_gives (three_read HalfHour (byte ":") Minute Second r) (word_behind_read (byte " ") Half) (with_clock HalfHour q) (with_named HourDiv12 (with_clock HalfHour q))
    (three_give HalfHour (byte ":") Minute Second r q e) (λ t h. word_behind_gives (byte " ") Half t (with_clock HalfHour q) h)

short_date_gives : (r : Progress) (q : Parsed) → Like r.parsed q
    → Gives (short_date_read r) (with_number_field Year (with_named MonthOfYear (with_number_field SpacedDay q)))
short_date_gives r q e =
    let day = with_number_field SpacedDay q in
    let month = with_named MonthOfYear day in
    then_gives (then_read (number_read SpacedDay r) (word_behind_read (byte "-") MonthLetters)) (behind_read (byte "-") Year) month (with_number_field Year month)
    (then_gives (number_read SpacedDay r) (word_behind_read (byte "-") MonthLetters) day month (number_gives SpacedDay r q e) (λ t h. word_behind_gives (byte "-") MonthLetters t day h))
    (λ t h. behind_gives (byte "-") Year t month h)

day_gives : (r : Progress) (q : Parsed) → Like r.parsed q
    → Gives (day_read r) (with_number_field SpacedDay (with_named MonthOfYear (with_named DayOfWeek q)))
day_gives r q e =
    let weekday = with_named DayOfWeek q in
    let month = with_named MonthOfYear weekday in
    then_gives (then_read (word_read WeekdayLetters r) (word_behind_read (byte " ") MonthLetters)) (behind_read (byte " ") SpacedDay) month (with_number_field SpacedDay month)
    (then_gives (word_read WeekdayLetters r) (word_behind_read (byte " ") MonthLetters) weekday month (word_gives WeekdayLetters r q e) (λ t h. word_behind_gives (byte " ") MonthLetters t weekday h))
    (λ t h. behind_gives (byte " ") SpacedDay t month h)

clock_year_gives : (r : Progress) (q : Parsed) → Like r.parsed q → Gives (clock_year_read r) (with_number_field Year (with_clock Hour q))
clock_year_gives r q e =
    let hour = with_number_field Hour q in
    let minute = with_number_field Minute hour in
    let second = with_number_field Second minute in
    then_gives (then_read (then_read (behind_read (byte " ") Hour r) (behind_read (byte ":") Minute)) (behind_read (byte ":") Second)) (behind_read (byte " ") Year) second (with_number_field Year second)
    (then_gives (then_read (behind_read (byte " ") Hour r) (behind_read (byte ":") Minute)) (behind_read (byte ":") Second) minute second
    (then_gives (behind_read (byte " ") Hour r) (behind_read (byte ":") Minute) hour minute (behind_gives (byte " ") Hour r q e) (λ t h. behind_gives (byte ":") Minute t hour h))
    (λ t h. behind_gives (byte ":") Second t minute h))
    (λ t h. behind_gives (byte " ") Year t second h)

date_and_time_gives : (r : Progress) (q : Parsed) → Like r.parsed q → Gives (then_read (day_read r) clock_year_read) (with_group DateAndTime q)
unfolding with_group
date_and_time_gives r q e =
    let day = with_number_field SpacedDay (with_named MonthOfYear (with_named DayOfWeek q)) in
    then_gives (day_read r) clock_year_read day (with_number_field Year (with_clock Hour day)) (day_gives r q e) (λ t h. clock_year_gives t day h)

group_gives : (group : GroupField) (r : Progress) (q : Parsed) → Like r.parsed q → Gives (group_read group r) (with_group group q)
unfolding group_read with_group
group_gives YearMonthDay r q e = three_give Year (byte "-") Month Day r q e
group_gives MonthDayYear r q e = three_give Month (byte "/") Day YearOfCentury r q e
group_gives HourMinute r q e = two_give Hour (byte ":") Minute r q e
group_gives HourMinuteSecond r q e = three_give Hour (byte ":") Minute Second r q e
group_gives HalfClock r q e = half_clock_gives r q e
group_gives DayMonthYear r q e = short_date_gives r q e
group_gives DateAndTime r q e = date_and_time_gives r q e

-- ---- the fraction

value_of_places : (o : Option ℕ) (places count : ℕ) (text : List ℕ) (p q : Parsed) → Like p q
    → Gives (places_value o places count text p) (with_named NanosecondOfSecond q)
value_of_places None places count text p q e = tt
value_of_places (Some n) places count text p q e =
    progress_gives (put NanosecondOfSecond _ p) _ text (with_named NanosecondOfSecond q) (put_shaped NanosecondOfSecond _ p q e)

places_give : (places count : ℕ) (text : List ℕ) (p q : Parsed) → Like p q
    → Gives (places_read places count text p) (with_named NanosecondOfSecond q)
unfolding places_read
places_give places count text p q e = value_of_places (digits_of places (take places text)) places count text p q e

-- a point may be left out
left_out : (p q : Parsed) → Like p q → Like p (with_named NanosecondOfSecond q)
left_out p q e = record { same = e.same; fraction = fraction_named NanosecondOfSecond p q e }

point_gives : (text : List ℕ) (p q : Parsed) → Like p q → Gives (point_behind text p) (with_named NanosecondOfSecond q)
point_gives [] p q e = left_out p q e
point_gives (c ∷ digits) p q e =
    if_gives (c == byte ".") _ _ (with_named NanosecondOfSecond q)
    (places_give (min (class_len Digit digits) 9) (class_len Digit digits) digits p q e) (left_out p q e)

subsecond_gives : (point : Bool) (count : ℕ) (r : Progress) (q : Parsed) → Like r.parsed q
    → Gives (subsecond_read point count r) (with_named NanosecondOfSecond q)
unfolding subsecond_read
subsecond_gives point count r q e =
    if_gives point _ _ (with_named NanosecondOfSecond q) (point_gives r.rest r.parsed q e)
    (if_gives (nat_lt (length r.rest) (min count 9)) _ _ (with_named NanosecondOfSecond q) tt
    (places_give (min count 9) (min count 9) r.rest r.parsed q e))

-- ---- an offset and the seconds from 1970

-- a number that is read gives no part
abbrev Keeps_parts : Taken → Parsed → Type 0
Keeps_parts o q = IfOk o (λ t. Like t.1.parsed q)

if_keeps : (b : Bool) (x y : Taken) (q : Parsed) → Keeps_parts x q → Keeps_parts y q → Keeps_parts (if b then x else y) q
if_keeps true x y q hx hy = hx
if_keeps false x y q hx hy = hy

within_keeps : (o : Option ℕ) (most : ℕ) (r : Progress) (q : Parsed) → Like r.parsed q → Keeps_parts (within_two o most r) q
within_keeps None most r q e = tt
within_keeps (Some n) most r q e = if_keeps (nat_lt most n) _ _ q tt e

two_keep : (most : ℕ) (r : Progress) (q : Parsed) → Like r.parsed q → Keeps_parts (two_taken most r) q
unfolding two_taken
two_keep most r q e = if_keeps (nat_lt (length r.rest) 2) _ _ q tt (within_keeps (digits_of 2 (take 2 r.rest)) most r q e)

minutes_keep : (missing : Bool) (r : Progress) (q : Parsed) → Like r.parsed q → Keeps_parts (minutes_taken missing r) q
unfolding minutes_taken
minutes_keep missing r q e =
    if_keeps (missing && class_len Digit (behind_colons r.rest) == 0) _ _ q e (two_keep 59 (at_rest (behind_colons r.rest) r.parsed) q e)

seconds_keep : (asked : Bool) (text : List ℕ) (p q : Parsed) → Like p q → Keeps_parts (seconds_behind asked text p) q
seconds_keep asked [] p q e = e
seconds_keep asked (c ∷ text) p q e = if_keeps (asked && c == byte ":") _ _ q (two_keep 59 (at_rest text p) q e) e

with_seconds_keep : (o : Taken) (minutes : ℕ) (q : Parsed) → Keeps_parts o q → Keeps_parts (with_seconds o minutes) q
with_seconds_keep (Err k) minutes q h = tt
with_seconds_keep (Ok t) minutes q h = h

with_minutes_keep : (o : Taken) (form : OffsetForm) (hours : ℕ) (q : Parsed) → Keeps_parts o q → Keeps_parts (with_minutes o form hours) q
with_minutes_keep (Err k) form hours q h = tt
with_minutes_keep (Ok t) form hours q h =
    with_seconds_keep (seconds_taken (has_seconds form) t.1) (hours * 60 + t.0) q (seconds_keep (has_seconds form) t.1.rest t.1.parsed q h)

with_hours_keep : (o : Taken) (form : OffsetForm) (q : Parsed) → Keeps_parts o q → Keeps_parts (with_hours o form) q
with_hours_keep (Err k) form q h = tt
with_hours_keep (Ok t) form q h =
    with_minutes_keep (minutes_taken (may_miss_minutes form) t.1) form t.0 q (minutes_keep (may_miss_minutes form) t.1 q h)

size_keeps : (form : OffsetForm) (r : Progress) (q : Parsed) → Like r.parsed q → Keeps_parts (size_taken form r) q
unfolding size_taken
size_keeps form r q e = with_hours_keep (two_taken 99 r) form q (two_keep 99 r q e)

size_gives : (o : Taken) (negative : Bool) (text : List ℕ) (q : Parsed) → Keeps_parts o q → Gives (size_put o negative text) (with_named OffsetFromUtc q)
size_gives (Err k) negative text q h = tt
size_gives (Ok t) negative text q h =
    progress_gives (put OffsetFromUtc (signed negative t.0) t.1.parsed) t.1.rest text (with_named OffsetFromUtc q) (put_shaped OffsetFromUtc (signed negative t.0) t.1.parsed q h)

signed_offset_gives : (form : OffsetForm) (text : List ℕ) (p q : Parsed) → Like p q → Gives (signed_offset_read form text p) (with_named OffsetFromUtc q)
unfolding signed_offset_read
signed_offset_gives form [] p q e = tt
signed_offset_gives form (c ∷ digits) p q e =
    let size = size_keeps form (at_rest digits p) q e in
    if_gives (c == byte "-") _ _ (with_named OffsetFromUtc q) (size_gives (size_taken form (at_rest digits p)) true (c ∷ digits) q size)
    (if_gives (c == byte "+") _ _ (with_named OffsetFromUtc q) (size_gives (size_taken form (at_rest digits p)) false (c ∷ digits) q size) tt)

utc_or_offset_gives : (named : Bool) (form : OffsetForm) (text : List ℕ) (p q : Parsed) → Like p q
    → Gives (utc_or_offset named form text p) (with_named OffsetFromUtc q)
unfolding utc_or_offset
utc_or_offset_gives named form text p q e =
    if_gives (nat_lt 0 (utc_len named text)) _ _ (with_named OffsetFromUtc q)
    (progress_gives (put OffsetFromUtc (pos 0) p) _ text (with_named OffsetFromUtc q) (put_shaped OffsetFromUtc (pos 0) p q e))
    (signed_offset_gives form text p q e)

offset_gives : (form : OffsetForm) (r : Progress) (q : Parsed) → Like r.parsed q → Gives (offset_read form r) (with_named OffsetFromUtc q)
unfolding offset_read
offset_gives Plain r q e = signed_offset_gives Plain (behind_blanks r.rest) r.parsed q e
offset_gives Colon r q e = signed_offset_gives Colon (behind_blanks r.rest) r.parsed q e
offset_gives Seconds r q e = signed_offset_gives Seconds (behind_blanks r.rest) r.parsed q e
offset_gives Hours r q e = signed_offset_gives Hours (behind_blanks r.rest) r.parsed q e
offset_gives Loose r q e = utc_or_offset_gives false Loose (behind_blanks r.rest) r.parsed q e

value_of_stamp : (o : Option ℕ) (negative : Bool) (text : List ℕ) (p q : Parsed) → Like p q
    → Gives (stamp_value o negative text p) (with_stamp (pos 0) q)
value_of_stamp None negative text p q e = tt
value_of_stamp (Some n) negative text p q e =
    progress_gives (put_stamp (signed negative n) p) _ text (with_stamp (pos 0) q) (stamp_shaped (signed negative n) p q e)

stamp_digits_give : (negative : Bool) (text : List ℕ) (p q : Parsed) → Like p q → Gives (stamp_digits negative text p) (with_stamp (pos 0) q)
unfolding stamp_digits
stamp_digits_give negative text p q e = value_of_stamp (digits_of 18 (take (class_len Digit text) text)) negative text p q e

signed_stamp_gives : (text : List ℕ) (p q : Parsed) → Like p q → Gives (signed_stamp text p) (with_stamp (pos 0) q)
unfolding signed_stamp
signed_stamp_gives [] p q e = tt
signed_stamp_gives (c ∷ digits) p q e =
    if_gives (c == byte "-") _ _ (with_stamp (pos 0) q) (stamp_digits_give true digits p q e)
    (if_gives (c == byte "+") _ _ (with_stamp (pos 0) q) (stamp_digits_give false digits p q e) (stamp_digits_give false (c ∷ digits) p q e))

between_gives : (text : List ℕ) (p q : Parsed) → Like p q → Gives (between_behind text p) q
between_gives [] p q e = tt
between_gives (c ∷ rest) p q e = if_gives ((c == byte "T") || (c == byte "t") || (c == byte " ")) _ _ q e tt

iso_gives : (r : Progress) (q : Parsed) → Like r.parsed q → Gives (iso_read r) (with_zoned Iso8601 q)
unfolding iso_read
iso_gives r q e =
    let date = with_group YearMonthDay q in
    let clock = with_group HourMinuteSecond date in
    let fraction = with_named NanosecondOfSecond clock in
    then_gives (then_read (then_read (then_read (group_read YearMonthDay r) between_read) (group_read HourMinuteSecond)) (subsecond_read true 0)) iso_offset_read fraction (with_named OffsetFromUtc fraction)
    (then_gives (then_read (then_read (group_read YearMonthDay r) between_read) (group_read HourMinuteSecond)) (subsecond_read true 0) clock fraction
    (then_gives (then_read (group_read YearMonthDay r) between_read) (group_read HourMinuteSecond) date clock
    (then_gives (group_read YearMonthDay r) between_read date date (group_gives YearMonthDay r q e) (λ t h. between_gives t.rest t.parsed date h))
    (λ t h. group_gives HourMinuteSecond t date h))
    (λ t h. subsecond_gives true 0 t clock h))
    (λ t h. utc_or_offset_gives true Colon (behind_blanks t.rest) t.parsed fraction h)

zoned_gives : (field : ZonedField) (r : Progress) (q : Parsed) → Like r.parsed q → Gives (zoned_read field r) (with_zoned field q)
zoned_gives (Offset form) r q e = offset_gives form r q e
zoned_gives ZoneName r q e = e
zoned_gives Stamp r q e = signed_stamp_gives (behind_blanks r.rest) r.parsed q e
zoned_gives Iso8601 r q e = iso_gives r q e

-- ---- all items

item_gives : (item : Item) (r : Progress) (q : Parsed) → Like r.parsed q → Gives (item_read item r) (with_item item q)
item_gives Empty r q e = e
item_gives (Byte c) r q e = literal_gives c r q e
item_gives (Number field padding) r q e = number_gives field r q e
item_gives (Word word) r q e = word_gives word r q e
item_gives (Group group) r q e = group_gives group r q e
item_gives (Subsecond point count) r q e = subsecond_gives point count r q e
item_gives (Zoned field) r q e = zoned_gives field r q e

abbrev Keeps : List ℕ → Type 0
Keeps bytes = (s : State) (r : Progress) (q : Parsed) → Like r.parsed q → Gives (read_from s bytes r) (named_from s bytes q)

item_keeps : (bytes : List ℕ) → Keeps bytes → (s : State) (q : Parsed) (a : Result Progress Stop) → Gives a q
    → Gives (elim a as (λ _. Result Progress Stop) [ Ok t ↦ read_from s bytes t | Err k ↦ Err k ]) (named_from s bytes q)
item_keeps bytes rest s q (Ok t) h = rest s t q h
item_keeps bytes rest s q (Err k) h = tt

step_keeps : (bytes : List ℕ) → Keeps bytes → (r : Progress) (q : Parsed) → Like r.parsed q → (o : Option (State × Item))
    → Gives (elim o as (λ _. Result Progress Stop) [ None ↦ Ok r | Some n ↦ elim (item_read n.1 r) as (λ _. Result Progress Stop) [ Ok t ↦ read_from n.0 bytes t | Err k ↦ Err k ] ])
    (elim o as (λ _. Parsed) [ None ↦ q | Some n ↦ named_from n.0 bytes (with_item n.1 q) ])
step_keeps bytes rest r q e None = e
step_keeps bytes rest r q e (Some n) = item_keeps bytes rest n.0 (with_item n.1 q) (item_read n.1 r) (item_gives n.1 r q e)

keeps : (bytes : List ℕ) → Keeps bytes
unfolding read_from named_from
keeps [] s r q e = e
keeps (c ∷ bytes) s r q e = step_keeps bytes (keeps bytes) r q e (pattern_step s c)

abbrev Ends : Result Parsed Stop → Parsed → Type 0
Ends o q = IfOk o (λ p. Like p q)

if_ends : (b : Bool) (p : Parsed) (stop : Stop) (q : Parsed) → Like p q → Ends (if b then Ok p else Err stop) q
if_ends true p stop q e = e
if_ends false p stop q e = tt

end_keeps : (o : Result Progress Stop) (q : Parsed) → Gives o q → Ends (end_read o) q
end_keeps (Ok r) q e = if_ends (length r.rest == 0) r.parsed _ q e
end_keeps (Err k) q e = tt

-- ---- what the parts name

given_mark : (o : Option ℤ) → is_present (mark o) ≡ is_present o
given_mark None = refl
given_mark (Some v) = refl

date_of_shape : (p : Parsed) → names_date (shape p) ≡ names_date p
unfolding names_date names_calendar names_ordinal names_week names_year_week
date_of_shape p =
    let year = given_mark p.year in
    let place = given_mark p.year_mod_100 in
    let month = given_mark p.month in
    let day = given_mark p.day in
    let ordinal = given_mark p.ordinal in
    let isoyear = given_mark p.isoyear in
    let isoweek = given_mark p.isoweek in
    let weekday = given_mark p.weekday in
    let from_sunday = given_mark p.week_from_sun in
    let from_monday = given_mark p.week_from_mon in
    cc

ok_named : (o : Result Parsed Stop) (q p : Parsed) → Ends o q → o ≡ Ok p → Like p q
ok_named (Ok r) q p h is =
    let same : r ≡ p = cc in
    record { same = sym (ap (λ (t : Parsed). shape t) same) ∙ h.same; fraction = λ g. h.fraction (ap (λ (t : Parsed). is_present t.nanosecond) same ∙ g) }
ok_named (Err k) q p h is = cc

nothing_read : Like no_parts no_parts
nothing_read = record { same = refl; fraction = λ h. h }

pub read_like : (bytes text : List ℕ) (p : Parsed) → text_read bytes text ≡ Ok p → Like p (named_parts bytes)
read_like bytes text p is =
    ok_named (text_read bytes text) (named_parts bytes) p
    (end_keeps (front_read bytes text) (named_parts bytes) (keeps bytes Outside (record { rest = text; parsed = no_parts }) no_parts nothing_read)) is

-- the same of the front of a text
pub front_like : (bytes text rest : List ℕ) (p : Parsed) → front_read bytes text ≡ Ok (record { rest = rest; parsed = p }) → Like p (named_parts bytes)
front_like bytes text rest p is =
    subst (λ (o : Result Progress Stop). Gives o (named_parts bytes)) is
    (keeps bytes Outside (record { rest = text; parsed = no_parts }) no_parts nothing_read)

pub date_of_like : (p q : Parsed) → Like p q → names_date p ≡ names_date q
date_of_like p q e = sym (date_of_shape p) ∙ ap (λ (t : Parsed). names_date t) e.same ∙ date_of_shape q

pub date_is_named : (bytes text : List ℕ) (p : Parsed) → text_read bytes text ≡ Ok p → names_date p ≡ names_date (named_parts bytes)
date_is_named bytes text p is = date_of_like p (named_parts bytes) (read_like bytes text p is)

pub same_given : (o other : Option ℤ) → mark o ≡ mark other → is_present o ≡ is_present other
same_given o other e = sym (given_mark o) ∙ ap (λ (t : Option ℤ). is_present t) e ∙ given_mark other

abbrev pub is_enough : Option ℤ → Option ℤ → Bool
is_enough second fraction = if is_present second then true else if is_present fraction then false else true

pub enough : (s n t m : Option ℤ) → mark s ≡ mark t → (is_present n ≡ true → is_present m ≡ true) → is_enough t m ≡ true → is_enough s n ≡ true
enough (Some v) n t m e f named = refl
enough None None t m e f named = refl
enough None (Some w) (Some v) m e f named = cc
enough None (Some w) None None e f named = absurd (false≢true (f refl))
enough None (Some w) None (Some x) e f named = absurd (false≢true named)

pub time_of_like : (p q : Parsed) → Like p q → names_second q ≡ true → names_time p ≡ names_time q
unfolding names_time
time_of_like p q e named =
    let half = same_given p.hour_div_12 q.hour_div_12 (ap (λ (t : Parsed). t.hour_div_12) e.same) in
    let hour = same_given p.hour_mod_12 q.hour_mod_12 (ap (λ (t : Parsed). t.hour_mod_12) e.same) in
    let minute = same_given p.minute q.minute (ap (λ (t : Parsed). t.minute) e.same) in
    let second = enough p.second p.nanosecond q.second q.nanosecond (ap (λ (t : Parsed). t.second) e.same) e.fraction named in
    cc

pub time_is_named : (bytes text : List ℕ) (p : Parsed) → names_second (named_parts bytes) ≡ true → text_read bytes text ≡ Ok p
    → names_time p ≡ names_time (named_parts bytes)
time_is_named bytes text p named is = time_of_like p (named_parts bytes) (read_like bytes text p is) named

pub stamp_of_like : (p q : Parsed) → Like p q → is_present p.timestamp ≡ is_present q.timestamp
stamp_of_like p q e = same_given p.timestamp q.timestamp (ap (λ (t : Parsed). t.timestamp) e.same)

pub offset_of_like : (p q : Parsed) → Like p q → is_present p.offset ≡ is_present q.offset
offset_of_like p q e = same_given p.offset q.offset (ap (λ (t : Parsed). t.offset) e.same)

moment_of_like : (p q : Parsed) → Like p q → names_date p ≡ names_date q → names_time p ≡ names_time q → names_moment p ≡ names_moment q
unfolding names_moment
moment_of_like p q e date time =
    ap (λ (b : Bool). if b then true else names_date p && names_time p) (stamp_of_like p q e)
    ∙ ap (λ (b : Bool). if is_present q.timestamp then true else b && names_time p) date
    ∙ ap (λ (b : Bool). if is_present q.timestamp then true else names_date q && b) time

pub moment_is_named : (bytes text : List ℕ) (p : Parsed) → names_second (named_parts bytes) ≡ true → text_read bytes text ≡ Ok p
    → names_moment p ≡ names_moment (named_parts bytes)
moment_is_named bytes text p named is =
    moment_of_like p (named_parts bytes) (read_like bytes text p is) (date_is_named bytes text p is) (time_is_named bytes text p named is)

pub zoned_is_named : (bytes text : List ℕ) (p : Parsed) → names_second (named_parts bytes) ≡ true → text_read bytes text ≡ Ok p
    → names_zoned p ≡ names_zoned (named_parts bytes)
unfolding names_zoned
zoned_is_named bytes text p named is =
    let q = named_parts bytes in
    let like = read_like bytes text p is in
    ap (λ (b : Bool). if b then true else names_moment p && is_present p.offset) (stamp_of_like p q like)
    ∙ ap (λ (b : Bool). if is_present q.timestamp then true else b && is_present p.offset) (moment_is_named bytes text p named is)
    ∙ ap (λ (b : Bool). if is_present q.timestamp then true else names_moment q && b) (offset_of_like p q like)
