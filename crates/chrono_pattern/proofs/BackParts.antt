-- The parts that the numbers of a date-time give are its own.
use Rattle.std.proofs.Common.{◌≡◌, ℕ, ◌+◌, ◌/◌, ◌%◌, ◌<◌, ◌≤◌, ◌^◌, ◌==◌, Bool, true, false, if◌then◌else◌, Option, Some, None, Result, Ok, Err, ℤ, pos, negsuc, neg_ℤ, ◌-ℤ◌, refl, ap, sym, ◌∙◌, arith}
use Rattle.std.proofs.lemmas.Bool.{false≢true, true≢false}
use Rattle.std.proofs.lemmas.Bool.Decides.{Decides-int_eq, nat_tests}
use Rattle.std.proofs.lemmas.Int.{ints}
use Rattle.std.specs.Int.{int_div_euclid, int_rem_euclid}
use Rattle.std.specs.Int.RustNames.{int_lt}
use Rattle.std.specs.Ordering.{int_eq}
use Rattle.std.specs.Prelude.{nat_le, unsigned_abs}
use Rattle.chrono_calendar.proofs.IsoDates.{before_monday-bound, iso_week_of-bounds}
use Rattle.chrono_calendar.proofs.NamedDates.{calendar_name-exists, day_of-small}
use Rattle.chrono_calendar.proofs.Names.{year_length_bounds}
use Rattle.chrono_calendar.proofs.Signed.{signed}
use Rattle.chrono_datetime.specs.Days.{day_of, month_of, ordinal_of, year_of}
use Rattle.chrono_datetime.specs.Duration.{nanos_per_second}
use Rattle.chrono_datetime.specs.Fields.{quarter_of_month}
use Rattle.chrono_datetime.specs.Moment.{Moment}
use Rattle.chrono_datetime.specs.Time.{IsTime, hour_of, minute_of, second_of}
use Rattle.chrono_datetime.specs.Weekday.{days_from_sunday, number_from_monday}
use Rattle.chrono_datetime.specs.Weeks.{iso_week_of, iso_year_of, weekday_of}
use Rattle.chrono_datetime.specs.declared.Weekday.{Weekday}
use Rattle.chrono_datetime.specs.declared.Weekday.TheVariants.{Mon, Tue, Wed, Thu, Fri, Sat, Sun}
use Rattle.chrono_instant.specs.Instants.{epoch_second}
use Rattle.chrono_instant.specs.Offsets.{IsOffset}
use Rattle.chrono_pattern.specs.Kept.{keeps_number, keeps_stamp, keeps_year}
use Rattle.chrono_pattern.specs.NamedParts.{with_named, with_number_field}
use Rattle.chrono_pattern.specs.NumberReads.{has_sign, hour_of_clock, most_digits, number_put, part_put, weekday_of_sunday}
use Rattle.chrono_pattern.specs.Numbers.{size_of}
use Rattle.chrono_pattern.specs.Parts.{part_of, part_range, put, put_stamp, with_part, with_stamp}
use Rattle.chrono_pattern.specs.ReadBack.{if_named, parts_of}
use Rattle.chrono_pattern.specs.YearWeeks.{week_from_monday, week_from_sunday, weeks_begun}
use Rattle.chrono_pattern.specs.declared.error.ReadFault.{ReadFault}
use Rattle.chrono_pattern.specs.declared.error.ReadFault.TheVariants.{Impossible, OutOfRange}
use Rattle.chrono_pattern.specs.declared.item.NumberField.{NumberField}
use Rattle.chrono_pattern.specs.declared.item.NumberField.TheVariants.{Year, Century, YearOfCentury, Quarter, Month, Day, SpacedDay, DayOfYear, FromMonday, FromSunday, IsoYear, IsoYearOfCentury, IsoWeek, WeekFromSunday, WeekFromMonday, Hour, SpacedHour, HalfHour, SpacedHalfHour, Minute, Second, Nanosecond}
use Rattle.chrono_pattern.specs.declared.parsed.Parsed.{Parsed}
use Rattle.chrono_pattern.specs.declared.parsed.Part.{Part}
use Rattle.chrono_pattern.specs.declared.parsed.Part.TheVariants.{FullYear, YearDiv100, YearMod100, FullIsoYear, IsoYearMod100, QuarterOfYear, MonthOfYear, WeekOfIsoYear, WeekFromSun, WeekFromMon, DayOfWeek, OrdinalDay, DayOfMonth, HourDiv12, HourMod12, MinuteOfHour, SecondOfMinute, NanosecondOfSecond, OffsetFromUtc}
use Rattle.chrono_pattern.proofs.BackNumbers.{not_below}
use Rattle.chrono_pattern.proofs.YearWeekLemmas.{ordinal_bounds, weekday_bounds, weeks_begun_is}

same_int : (v : ℤ) → int_eq v v ≡ true
same_int v = (Decides-int_eq v v).1 refl

-- a part within its range, which is given as the same or not at all
put_part : (part : Part) (v : ℤ) (p q : Parsed) (o : Option ℤ) → int_lt v (part_range part).0 ≡ false → int_lt (part_range part).1 v ≡ false
    → part_of part p ≡ if_named o v → with_part part v p ≡ q → ((w : ℤ) → o ≡ Some w → p ≡ q) → put part v p ≡ Ok q
unfolding put
put_part part v p q o low high given new old =
    ap (λ (b : Bool). if b then Err OutOfRange else if int_lt (part_range part).1 v then Err OutOfRange else elim (part_of part p) as (λ _. Result Parsed ReadFault) [ None ↦ Ok (with_part part v p) | Some w ↦ if int_eq w v then Ok p else Err Impossible ]) low
    ∙ ap (λ (b : Bool). if b then Err OutOfRange else elim (part_of part p) as (λ _. Result Parsed ReadFault) [ None ↦ Ok (with_part part v p) | Some w ↦ if int_eq w v then Ok p else Err Impossible ]) high
    ∙ ap (λ (x : Option ℤ). elim x as (λ _. Result Parsed ReadFault) [ None ↦ Ok (with_part part v p) | Some w ↦ if int_eq w v then Ok p else Err Impossible ]) given
    ∙ by_given o old
  where
    by_given : (x : Option ℤ) → ((w : ℤ) → x ≡ Some w → p ≡ q)
        → elim (if_named x v) as (λ _. Result Parsed ReadFault) [ None ↦ Ok (with_part part v p) | Some w ↦ if int_eq w v then Ok p else Err Impossible ] ≡ Ok q
    by_given None h = ap (λ (t : Parsed). Ok t) new
    by_given (Some w) h = ap (λ (b : Bool). if b then Ok p else Err Impossible) (same_int v) ∙ ap (λ (t : Parsed). Ok t) (h w refl)

-- ---- ranges

year_least : (y : ℤ) → unsigned_abs y ≤ 999_999_999 → int_lt y (neg_ℤ (pos 999_999_999)) ≡ false
year_least (pos k) h = refl
year_least (negsuc k) h = grind (arith, nat_tests, h)

year_most : (y : ℤ) → unsigned_abs y ≤ 999_999_999 → int_lt (pos 999_999_999) y ≡ false
year_most (pos k) h = not_below 999_999_999 k h
year_most (negsuc k) h = refl

-- the place of a year in its century is a size
pub place_is : (y : ℤ) → int_rem_euclid y (pos 100) ≡ pos (unsigned_abs (int_rem_euclid y (pos 100)))
place_is y = omega (arith, signed)

pub place_small : (y : ℤ) → unsigned_abs (int_rem_euclid y (pos 100)) < 100
place_small y = omega (arith, signed)

place_least : (y : ℤ) → int_lt (int_rem_euclid y (pos 100)) (pos 0) ≡ false
place_least y = ap (λ (z : ℤ). int_lt z (pos 0)) (place_is y) ∙ not_below (unsigned_abs (int_rem_euclid y (pos 100))) 0 (omega arith)

place_most : (y : ℤ) → int_lt (pos 99) (int_rem_euclid y (pos 100)) ≡ false
place_most y =
    ap (λ (z : ℤ). int_lt (pos 99) z) (place_is y) ∙ not_below 99 (unsigned_abs (int_rem_euclid y (pos 100))) (omega (arith, place_small y))

pub iso_weeks : (n : ℤ) → (1 ≤ iso_week_of n) × (iso_week_of n ≤ 53)
iso_weeks n = omega (arith, iso_week_of-bounds n, year_length_bounds (iso_year_of n), before_monday-bound (iso_year_of n))

pub weeks_in_year : (start : ℕ) (n : ℤ) → start < 7 → weeks_begun start n ≤ 53
weeks_in_year start n small = omega (arith, weeks_begun_is start n small, ordinal_bounds n)

-- a leap second is second 60
shown_second : (m : Moment) → IsTime m.time → second_of m.time + m.time.fraction / nanos_per_second ≤ 60
shown_second m time = omega (arith, time.fraction)

-- an offset of less than a day
offset_least : (z : ℤ) → IsOffset z → int_lt z (neg_ℤ (pos 86_399)) ≡ false
offset_least (pos k) h = refl
offset_least (negsuc k) h = grind (arith, nat_tests, h)

offset_most : (z : ℤ) → IsOffset z → int_lt (pos 86_399) z ≡ false
offset_most (pos k) h = not_below 86_399 k (omega (arith, h))
offset_most (negsuc k) h = refl

-- ---- each part

pub put_year : (q : Parsed) (m : Moment) (x : ℤ) (small : unsigned_abs (year_of m.date) ≤ 999_999_999) → put FullYear (year_of m.date) (parts_of q m x) ≡ Ok (parts_of (with_named FullYear q) m x)
put_year q m x small =
    put_part FullYear (year_of m.date) (parts_of q m x) (parts_of (with_named FullYear q) m x) q.year
    (year_least (year_of m.date) small)
    (year_most (year_of m.date) small) refl refl
    (λ w e. ap (λ (o : Option ℤ). record (parts_of q m x) { year = if_named o (year_of m.date) }) e)

pub put_iso_year : (q : Parsed) (m : Moment) (x : ℤ) (small : unsigned_abs (iso_year_of m.date) ≤ 999_999_999) → put FullIsoYear (iso_year_of m.date) (parts_of q m x) ≡ Ok (parts_of (with_named FullIsoYear q) m x)
put_iso_year q m x small =
    put_part FullIsoYear (iso_year_of m.date) (parts_of q m x) (parts_of (with_named FullIsoYear q) m x) q.isoyear
    (year_least (iso_year_of m.date) small)
    (year_most (iso_year_of m.date) small) refl refl
    (λ w e. ap (λ (o : Option ℤ). record (parts_of q m x) { isoyear = if_named o (iso_year_of m.date) }) e)

pub put_century : (q : Parsed) (m : Moment) (x : ℤ) (k : ℕ) (is : int_div_euclid (year_of m.date) (pos 100) ≡ pos k) (small : k ≤ 99) → put YearDiv100 (int_div_euclid (year_of m.date) (pos 100)) (parts_of q m x) ≡ Ok (parts_of (with_named YearDiv100 q) m x)
put_century q m x k is small =
    put_part YearDiv100 (int_div_euclid (year_of m.date) (pos 100)) (parts_of q m x) (parts_of (with_named YearDiv100 q) m x) q.year_div_100
    (ap (λ (z : ℤ). int_lt z (pos 0)) is ∙ not_below k 0 (omega arith))
    (ap (λ (z : ℤ). int_lt (pos 99) z) is ∙ not_below 99 k small) refl refl
    (λ w e. ap (λ (o : Option ℤ). record (parts_of q m x) { year_div_100 = if_named o (int_div_euclid (year_of m.date) (pos 100)) }) e)

pub put_place : (q : Parsed) (m : Moment) (x : ℤ) → put YearMod100 (int_rem_euclid (year_of m.date) (pos 100)) (parts_of q m x) ≡ Ok (parts_of (with_named YearMod100 q) m x)
put_place q m x =
    put_part YearMod100 (int_rem_euclid (year_of m.date) (pos 100)) (parts_of q m x) (parts_of (with_named YearMod100 q) m x) q.year_mod_100
    (place_least (year_of m.date))
    (place_most (year_of m.date)) refl refl
    (λ w e. ap (λ (o : Option ℤ). record (parts_of q m x) { year_mod_100 = if_named o (int_rem_euclid (year_of m.date) (pos 100)) }) e)

pub put_iso_place : (q : Parsed) (m : Moment) (x : ℤ) → put IsoYearMod100 (int_rem_euclid (iso_year_of m.date) (pos 100)) (parts_of q m x) ≡ Ok (parts_of (with_named IsoYearMod100 q) m x)
put_iso_place q m x =
    put_part IsoYearMod100 (int_rem_euclid (iso_year_of m.date) (pos 100)) (parts_of q m x) (parts_of (with_named IsoYearMod100 q) m x) q.isoyear_mod_100
    (place_least (iso_year_of m.date))
    (place_most (iso_year_of m.date)) refl refl
    (λ w e. ap (λ (o : Option ℤ). record (parts_of q m x) { isoyear_mod_100 = if_named o (int_rem_euclid (iso_year_of m.date) (pos 100)) }) e)

pub put_quarter : (q : Parsed) (m : Moment) (x : ℤ) → put QuarterOfYear (pos (quarter_of_month (month_of m.date))) (parts_of q m x) ≡ Ok (parts_of (with_named QuarterOfYear q) m x)
put_quarter q m x =
    put_part QuarterOfYear (pos (quarter_of_month (month_of m.date))) (parts_of q m x) (parts_of (with_named QuarterOfYear q) m x) q.quarter
    (not_below (quarter_of_month (month_of m.date)) 1 (omega arith))
    (not_below 4 (quarter_of_month (month_of m.date)) (omega (arith, (calendar_name-exists m.date).0))) refl refl
    (λ w e. ap (λ (o : Option ℤ). record (parts_of q m x) { quarter = if_named o (pos (quarter_of_month (month_of m.date))) }) e)

pub put_month : (q : Parsed) (m : Moment) (x : ℤ) → put MonthOfYear (pos (month_of m.date)) (parts_of q m x) ≡ Ok (parts_of (with_named MonthOfYear q) m x)
put_month q m x =
    put_part MonthOfYear (pos (month_of m.date)) (parts_of q m x) (parts_of (with_named MonthOfYear q) m x) q.month
    (not_below (month_of m.date) 1 (omega (arith, (calendar_name-exists m.date).0)))
    (not_below 12 (month_of m.date) (omega (arith, (calendar_name-exists m.date).0))) refl refl
    (λ w e. ap (λ (o : Option ℤ). record (parts_of q m x) { month = if_named o (pos (month_of m.date)) }) e)

pub put_iso_week : (q : Parsed) (m : Moment) (x : ℤ) → put WeekOfIsoYear (pos (iso_week_of m.date)) (parts_of q m x) ≡ Ok (parts_of (with_named WeekOfIsoYear q) m x)
put_iso_week q m x =
    put_part WeekOfIsoYear (pos (iso_week_of m.date)) (parts_of q m x) (parts_of (with_named WeekOfIsoYear q) m x) q.isoweek
    (not_below (iso_week_of m.date) 1 (omega (arith, (iso_weeks m.date).0)))
    (not_below 53 (iso_week_of m.date) (omega (arith, (iso_weeks m.date).1))) refl refl
    (λ w e. ap (λ (o : Option ℤ). record (parts_of q m x) { isoweek = if_named o (pos (iso_week_of m.date)) }) e)

pub put_from_sunday : (q : Parsed) (m : Moment) (x : ℤ) → put WeekFromSun (pos (week_from_sunday m.date)) (parts_of q m x) ≡ Ok (parts_of (with_named WeekFromSun q) m x)
put_from_sunday q m x =
    put_part WeekFromSun (pos (week_from_sunday m.date)) (parts_of q m x) (parts_of (with_named WeekFromSun q) m x) q.week_from_sun
    (not_below (week_from_sunday m.date) 0 (omega arith))
    (not_below 53 (week_from_sunday m.date) (weeks_in_year 0 m.date (omega arith))) refl refl
    (λ w e. ap (λ (o : Option ℤ). record (parts_of q m x) { week_from_sun = if_named o (pos (week_from_sunday m.date)) }) e)

pub put_from_monday : (q : Parsed) (m : Moment) (x : ℤ) → put WeekFromMon (pos (week_from_monday m.date)) (parts_of q m x) ≡ Ok (parts_of (with_named WeekFromMon q) m x)
put_from_monday q m x =
    put_part WeekFromMon (pos (week_from_monday m.date)) (parts_of q m x) (parts_of (with_named WeekFromMon q) m x) q.week_from_mon
    (not_below (week_from_monday m.date) 0 (omega arith))
    (not_below 53 (week_from_monday m.date) (weeks_in_year 1 m.date (omega arith))) refl refl
    (λ w e. ap (λ (o : Option ℤ). record (parts_of q m x) { week_from_mon = if_named o (pos (week_from_monday m.date)) }) e)

pub put_weekday : (q : Parsed) (m : Moment) (x : ℤ) → put DayOfWeek (pos (number_from_monday (weekday_of m.date))) (parts_of q m x) ≡ Ok (parts_of (with_named DayOfWeek q) m x)
put_weekday q m x =
    put_part DayOfWeek (pos (number_from_monday (weekday_of m.date))) (parts_of q m x) (parts_of (with_named DayOfWeek q) m x) q.weekday
    (not_below (number_from_monday (weekday_of m.date)) 1 (omega (arith, weekday_bounds m.date)))
    (not_below 7 (number_from_monday (weekday_of m.date)) (omega (arith, weekday_bounds m.date))) refl refl
    (λ w e. ap (λ (o : Option ℤ). record (parts_of q m x) { weekday = if_named o (pos (number_from_monday (weekday_of m.date))) }) e)

pub put_ordinal : (q : Parsed) (m : Moment) (x : ℤ) → put OrdinalDay (pos (ordinal_of m.date)) (parts_of q m x) ≡ Ok (parts_of (with_named OrdinalDay q) m x)
put_ordinal q m x =
    put_part OrdinalDay (pos (ordinal_of m.date)) (parts_of q m x) (parts_of (with_named OrdinalDay q) m x) q.ordinal
    (not_below (ordinal_of m.date) 1 (omega (arith, ordinal_bounds m.date)))
    (not_below 366 (ordinal_of m.date) (omega (arith, ordinal_bounds m.date))) refl refl
    (λ w e. ap (λ (o : Option ℤ). record (parts_of q m x) { ordinal = if_named o (pos (ordinal_of m.date)) }) e)

pub put_day : (q : Parsed) (m : Moment) (x : ℤ) → put DayOfMonth (pos (day_of m.date)) (parts_of q m x) ≡ Ok (parts_of (with_named DayOfMonth q) m x)
put_day q m x =
    put_part DayOfMonth (pos (day_of m.date)) (parts_of q m x) (parts_of (with_named DayOfMonth q) m x) q.day
    (not_below (day_of m.date) 1 (omega (arith, day_of-small m.date)))
    (not_below 31 (day_of m.date) (omega (arith, day_of-small m.date))) refl refl
    (λ w e. ap (λ (o : Option ℤ). record (parts_of q m x) { day = if_named o (pos (day_of m.date)) }) e)

pub put_half : (q : Parsed) (m : Moment) (x : ℤ) (time : IsTime m.time) → put HourDiv12 (pos (hour_of m.time / 12)) (parts_of q m x) ≡ Ok (parts_of (with_named HourDiv12 q) m x)
put_half q m x time =
    put_part HourDiv12 (pos (hour_of m.time / 12)) (parts_of q m x) (parts_of (with_named HourDiv12 q) m x) q.hour_div_12
    (not_below (hour_of m.time / 12) 0 (omega arith))
    (not_below 1 (hour_of m.time / 12) (omega (arith, time.second))) refl refl
    (λ w e. ap (λ (o : Option ℤ). record (parts_of q m x) { hour_div_12 = if_named o (pos (hour_of m.time / 12)) }) e)

pub put_hour : (q : Parsed) (m : Moment) (x : ℤ) → put HourMod12 (pos (hour_of m.time % 12)) (parts_of q m x) ≡ Ok (parts_of (with_named HourMod12 q) m x)
put_hour q m x =
    put_part HourMod12 (pos (hour_of m.time % 12)) (parts_of q m x) (parts_of (with_named HourMod12 q) m x) q.hour_mod_12
    (not_below (hour_of m.time % 12) 0 (omega arith))
    (not_below 11 (hour_of m.time % 12) (omega arith)) refl refl
    (λ w e. ap (λ (o : Option ℤ). record (parts_of q m x) { hour_mod_12 = if_named o (pos (hour_of m.time % 12)) }) e)

pub put_minute : (q : Parsed) (m : Moment) (x : ℤ) → put MinuteOfHour (pos (minute_of m.time)) (parts_of q m x) ≡ Ok (parts_of (with_named MinuteOfHour q) m x)
put_minute q m x =
    put_part MinuteOfHour (pos (minute_of m.time)) (parts_of q m x) (parts_of (with_named MinuteOfHour q) m x) q.minute
    (not_below (minute_of m.time) 0 (omega arith))
    (not_below 59 (minute_of m.time) (omega arith)) refl refl
    (λ w e. ap (λ (o : Option ℤ). record (parts_of q m x) { minute = if_named o (pos (minute_of m.time)) }) e)

pub put_second : (q : Parsed) (m : Moment) (x : ℤ) (time : IsTime m.time) → put SecondOfMinute (pos (second_of m.time + m.time.fraction / nanos_per_second)) (parts_of q m x) ≡ Ok (parts_of (with_named SecondOfMinute q) m x)
put_second q m x time =
    put_part SecondOfMinute (pos (second_of m.time + m.time.fraction / nanos_per_second)) (parts_of q m x) (parts_of (with_named SecondOfMinute q) m x) q.second
    (not_below (second_of m.time + m.time.fraction / nanos_per_second) 0 (omega arith))
    (not_below 60 (second_of m.time + m.time.fraction / nanos_per_second) (shown_second m time)) refl refl
    (λ w e. ap (λ (o : Option ℤ). record (parts_of q m x) { second = if_named o (pos (second_of m.time + m.time.fraction / nanos_per_second)) }) e)

pub put_nanosecond : (q : Parsed) (m : Moment) (x : ℤ) → put NanosecondOfSecond (pos (m.time.fraction % nanos_per_second)) (parts_of q m x) ≡ Ok (parts_of (with_named NanosecondOfSecond q) m x)
put_nanosecond q m x =
    put_part NanosecondOfSecond (pos (m.time.fraction % nanos_per_second)) (parts_of q m x) (parts_of (with_named NanosecondOfSecond q) m x) q.nanosecond
    (not_below (m.time.fraction % nanos_per_second) 0 (omega arith))
    (not_below 999_999_999 (m.time.fraction % nanos_per_second) (omega arith)) refl refl
    (λ w e. ap (λ (o : Option ℤ). record (parts_of q m x) { nanosecond = if_named o (pos (m.time.fraction % nanos_per_second)) }) e)

pub put_offset : (q : Parsed) (m : Moment) (x : ℤ) (near : IsOffset x) → put OffsetFromUtc x (parts_of q m x) ≡ Ok (parts_of (with_named OffsetFromUtc q) m x)
put_offset q m x near =
    put_part OffsetFromUtc x (parts_of q m x) (parts_of (with_named OffsetFromUtc q) m x) q.offset
    (offset_least x near)
    (offset_most x near) refl refl
    (λ w e. ap (λ (o : Option ℤ). record (parts_of q m x) { offset = if_named o x }) e)

-- ---- the seconds from 1970

pub stamp_put : (q : Parsed) (m : Moment) (x : ℤ) → keeps_stamp (epoch_second m -ℤ x) ≡ true
    → put_stamp (epoch_second m -ℤ x) (parts_of q m x) ≡ Ok (parts_of (with_stamp (pos 0) q) m x)
unfolding put_stamp
stamp_put q m x keeps =
    let v = epoch_second m -ℤ x in
    let within = in_range (int_lt v (neg_ℤ (pos 8_334_601_228_800))) (int_lt (pos 8_210_266_876_799) v) keeps in
    let p = parts_of q m x in
    ap (λ (b : Bool). if b then Err OutOfRange else if int_lt (pos 8_210_266_876_799) v then Err OutOfRange else elim p.timestamp as (λ _. Result Parsed ReadFault) [ None ↦ Ok (with_stamp v p) | Some w ↦ if int_eq w v then Ok p else Err Impossible ]) within.0
    ∙ ap (λ (b : Bool). if b then Err OutOfRange else elim p.timestamp as (λ _. Result Parsed ReadFault) [ None ↦ Ok (with_stamp v p) | Some w ↦ if int_eq w v then Ok p else Err Impossible ]) within.1
    ∙ by_given q.timestamp refl
  where
    in_range : (a b : Bool) → (if a then false else if b then false else true) ≡ true → (a ≡ false) × (b ≡ false)
    in_range true b h = absurd (false≢true h)
    in_range false true h = absurd (false≢true h)
    in_range false false h = (refl, refl)

    by_given : (o : Option ℤ) → q.timestamp ≡ o
        → elim (if_named o (epoch_second m -ℤ x)) as (λ _. Result Parsed ReadFault) [ None ↦ Ok (with_stamp (epoch_second m -ℤ x) (parts_of q m x)) | Some w ↦ if int_eq w (epoch_second m -ℤ x) then Ok (parts_of q m x) else Err Impossible ]
        ≡ Ok (parts_of (with_stamp (pos 0) q) m x)
    by_given None h = refl
    by_given (Some w) h =
        ap (λ (b : Bool). if b then Ok (parts_of q m x) else Err Impossible) (same_int (epoch_second m -ℤ x))
        ∙ ap (λ (o : Option ℤ). Ok (record (parts_of q m x) { timestamp = if_named o (epoch_second m -ℤ x) })) h

-- ---- the numbers

weekday_again : (d : Weekday) → weekday_of_sunday (pos (days_from_sunday d)) ≡ pos (number_from_monday d)
weekday_again Mon = refl
weekday_again Tue = refl
weekday_again Wed = refl
weekday_again Thu = refl
weekday_again Fri = refl
weekday_again Sat = refl
weekday_again Sun = refl

clock_again : (h : ℕ) → h < 12 → hour_of_clock (pos (if h == 0 then 12 else h)) ≡ pos h
clock_again h small = by_zero (h == 0) refl
  where
    by_zero : (b : Bool) → (h == 0) ≡ b → hour_of_clock (pos (if b then 12 else h)) ≡ pos h
    by_zero true e = let none : h ≡ 0 = grind (arith, nat_tests) in ap (λ (k : ℕ). pos k) (sym none)
    by_zero false e =
        let some : int_eq (pos h) (pos 0) ≡ false = grind (arith, ints) in
        let few : int_eq (pos h) (pos 12) ≡ false = grind (arith, ints) in
        ap (λ (b : Bool). if b then pos 12 else if int_eq (pos h) (pos 12) then pos 0 else pos h) some
        ∙ ap (λ (b : Bool). if b then pos 0 else pos h) few

-- the value that a number writes
abbrev pub value_by : NumberField → Moment → ℤ
value_by Year m = year_of m.date
value_by IsoYear m = iso_year_of m.date
value_by field m = pos (size_of field m)

pub year_range : (wide : Bool) (y : ℤ) → keeps_year wide y ≡ true → unsigned_abs y ≤ 999_999_999
year_range true y keeps = grind (arith, nat_tests, keeps)
year_range false y keeps = by_sign (int_lt y (pos 0)) keeps
  where
    by_sign : (b : Bool) → (if b then false else nat_le (unsigned_abs y) 9_999) ≡ true → unsigned_abs y ≤ 999_999_999
    by_sign true h = absurd (false≢true h)
    by_sign false h = let few : unsigned_abs y ≤ 9_999 = grind (arith, nat_tests, h) in omega (arith, few)

-- a year from 0 to 9999 has a century of two digits
pub few_centuries : (y : ℤ) → keeps_year false y ≡ true
    → (int_div_euclid y (pos 100) ≡ pos (unsigned_abs (int_div_euclid y (pos 100)))) × (unsigned_abs (int_div_euclid y (pos 100)) ≤ 99) × (int_lt y (pos 0) ≡ false)
few_centuries (pos n) keeps =
    let not = not_below n 0 (omega arith) in
    let few : n ≤ 9_999 = grind (arith, nat_tests, sym (ap (λ (b : Bool). if b then false else nat_le n 9_999) not) ∙ keeps) in
    (omega (arith, signed, few), omega (arith, signed, few), not)
few_centuries (negsuc n) keeps = absurd (false≢true keeps)

hour_given : (field : NumberField) (q : Parsed) (m : Moment) (x : ℤ) → IsTime m.time
    → part_put (put HourDiv12 (pos (hour_of m.time / 12)) (parts_of q m x)) field (pos (hour_of m.time))
    ≡ part_put (Ok (parts_of (with_named HourDiv12 q) m x)) field (pos (hour_of m.time))
hour_given field q m x time = ap (λ (o : Result Parsed ReadFault). part_put o field (pos (hour_of m.time))) (put_half q m x time)

pub number_given : (wide : Bool) (field : NumberField) (q : Parsed) (m : Moment) (x : ℤ) → IsTime m.time → keeps_number wide field m ≡ true
    → number_put field (value_by field m) (parts_of q m x) ≡ Ok (parts_of (with_number_field field q) m x)
unfolding number_put
number_given wide Year q m x time keeps = put_year q m x (year_range wide (year_of m.date) keeps)
number_given wide IsoYear q m x time keeps = put_iso_year q m x (year_range wide (iso_year_of m.date) keeps)
number_given wide Century q m x time keeps =
    let few = few_centuries (year_of m.date) keeps in
    ap (λ (v : ℤ). put YearDiv100 v (parts_of q m x)) (sym few.0) ∙ put_century q m x _ few.0 few.1
number_given wide YearOfCentury q m x time keeps = ap (λ (v : ℤ). put YearMod100 v (parts_of q m x)) (sym (place_is (year_of m.date))) ∙ put_place q m x
number_given wide Quarter q m x time keeps = put_quarter q m x
number_given wide Month q m x time keeps = put_month q m x
number_given wide Day q m x time keeps = put_day q m x
number_given wide SpacedDay q m x time keeps = put_day q m x
number_given wide DayOfYear q m x time keeps = put_ordinal q m x
number_given wide FromMonday q m x time keeps = put_weekday q m x
number_given wide FromSunday q m x time keeps = ap (λ (v : ℤ). put DayOfWeek v (parts_of q m x)) (weekday_again (weekday_of m.date)) ∙ put_weekday q m x
number_given wide IsoYearOfCentury q m x time keeps =
    ap (λ (v : ℤ). put IsoYearMod100 v (parts_of q m x)) (sym (place_is (iso_year_of m.date))) ∙ put_iso_place q m x
number_given wide IsoWeek q m x time keeps = put_iso_week q m x
number_given wide WeekFromSunday q m x time keeps = put_from_sunday q m x
number_given wide WeekFromMonday q m x time keeps = put_from_monday q m x
number_given wide Hour q m x time keeps = hour_given Hour q m x time ∙ put_hour (with_named HourDiv12 q) m x
number_given wide SpacedHour q m x time keeps = hour_given SpacedHour q m x time ∙ put_hour (with_named HourDiv12 q) m x
number_given wide HalfHour q m x time keeps =
    ap (λ (v : ℤ). put HourMod12 v (parts_of q m x)) (clock_again (hour_of m.time % 12) (omega arith)) ∙ put_hour q m x
number_given wide SpacedHalfHour q m x time keeps =
    ap (λ (v : ℤ). put HourMod12 v (parts_of q m x)) (clock_again (hour_of m.time % 12) (omega arith)) ∙ put_hour q m x
number_given wide Minute q m x time keeps = put_minute q m x
number_given wide Second q m x time keeps = put_second q m x time
number_given wide Nanosecond q m x time keeps = put_nanosecond q m x

half_small : (h : ℕ) → h < 12 → (if h == 0 then 12 else h) < 100
half_small h small = by_zero (h == 0)
  where
    by_zero : (b : Bool) → (if b then 12 else h) < 100
    by_zero true = omega arith
    by_zero false = omega (arith, small)

-- a number has at most the digits that are read
pub size_small : (field : NumberField) (m : Moment) → IsTime m.time → has_sign field ≡ false → keeps_number false field m ≡ true
    → size_of field m < 10 ^ most_digits field
size_small Year m time not keeps = absurd (true≢false not)
size_small IsoYear m time not keeps = absurd (true≢false not)
size_small Century m time not keeps = omega (arith, (few_centuries (year_of m.date) keeps).1)
size_small YearOfCentury m time not keeps = omega (arith, place_small (year_of m.date))
size_small Quarter m time not keeps = omega (arith, (calendar_name-exists m.date).0)
size_small Month m time not keeps = omega (arith, (calendar_name-exists m.date).0)
size_small Day m time not keeps = omega (arith, day_of-small m.date)
size_small SpacedDay m time not keeps = omega (arith, day_of-small m.date)
size_small DayOfYear m time not keeps = omega (arith, ordinal_bounds m.date)
size_small FromMonday m time not keeps = omega (arith, weekday_bounds m.date)
size_small FromSunday m time not keeps = omega arith
size_small IsoYearOfCentury m time not keeps = omega (arith, place_small (iso_year_of m.date))
size_small IsoWeek m time not keeps = omega (arith, (iso_weeks m.date).1)
size_small WeekFromSunday m time not keeps = omega (arith, weeks_in_year 0 m.date (omega arith))
size_small WeekFromMonday m time not keeps = omega (arith, weeks_in_year 1 m.date (omega arith))
size_small Hour m time not keeps = omega (arith, time.second)
size_small SpacedHour m time not keeps = omega (arith, time.second)
size_small HalfHour m time not keeps = omega (arith, half_small (hour_of m.time % 12) (omega arith))
size_small SpacedHalfHour m time not keeps = omega (arith, half_small (hour_of m.time % 12) (omega arith))
size_small Minute m time not keeps = omega arith
size_small Second m time not keeps = omega (arith, shown_second m time)
size_small Nanosecond m time not keeps = omega arith
