-- The values of a text that a separable pattern writes.
use Rattle.std.proofs.Common.{◌≡◌, ℕ, ◌+◌, ◌-◌, ◌*◌, ◌/◌, ◌%◌, ◌^◌, ◌==◌, min, Bool, true, false, ◌&&◌, ◌||◌, if◌then◌else◌, List, [], ◌∷◌, Option, Some, None, ℤ, pos, ◌-ℤ◌, unsigned_abs, refl, ap, sym, ◌∙◌, arith}
use Rattle.std.proofs.lemmas.Bool.{and_from, and_parts, false≢true, le-leb}
use Rattle.std.proofs.lemmas.Bool.Decides.{Decides-int_eq, nat_tests}
use Rattle.std.proofs.lemmas.Nat.{mod-mul-add}
use Rattle.chrono_text.proofs.DigitLemmas.{pow_pos}
use Rattle.std.specs.Ordering.{int_eq}
use Rattle.chrono_datetime.specs.Days.{year_of}
use Rattle.chrono_datetime.specs.Duration.{nanos_per_second}
use Rattle.chrono_datetime.specs.Moment.{Moment}
use Rattle.chrono_datetime.specs.Time.{IsTime, TimeOfDay, is_leap, second_of}
use Rattle.chrono_datetime.specs.Weeks.{iso_year_of}
use Rattle.chrono_instant.specs.Instants.{epoch_second}
use Rattle.chrono_instant.specs.Offsets.{IsOffset}
use Rattle.chrono_pattern.specs.DateParts.{date_fits, day_fits, in_window, is_present, names_date, says, week_fits, year_fits, year_week_fits}
use Rattle.chrono_pattern.specs.Kept.{LosesNothing, given_from, given_parts, is_told, keeps_form, keeps_from, keeps_group, keeps_item, keeps_number, keeps_stamp, keeps_subsecond, keeps_year, tells_date, tells_fraction, tells_moment, tells_time, tells_zoned, with_few, with_given}
use Rattle.chrono_pattern.specs.NamedParts.{named_from, named_parts, with_item, with_named}
use Rattle.chrono_pattern.specs.Parses.{IsDateBy, IsMomentBy, IsTimeBy, IsZonedBy}
use Rattle.chrono_pattern.specs.Parts.{no_parts}
use Rattle.chrono_pattern.specs.Patterns.{pattern_text, text_at_offset}
use Rattle.chrono_pattern.specs.PatternSteps.{pattern_step}
use Rattle.chrono_pattern.specs.ReadBack.{if_named, parts_of}
use Rattle.chrono_pattern.specs.Separable.{bar_behind, shows_ends, is_separable_from, takes_item, takes_number}
use Rattle.chrono_pattern.specs.TimeParts.{clock_fits, counts, names_second, names_time, second_fits, time_fits}
use Rattle.chrono_pattern.specs.ZonedParts.{fits_by, is_next_to, is_stamp_of, moment_fits, names_moment, names_zoned, shows_second, stamped_time_fits, zoned_fits}
use Rattle.chrono_pattern.specs.declared.item.Bar.{Bar}
use Rattle.chrono_pattern.specs.declared.item.Bar.TheVariants.{Free}
use Rattle.chrono_pattern.specs.declared.item.GroupField.{GroupField}
use Rattle.chrono_pattern.specs.declared.item.GroupField.TheVariants.{YearMonthDay, MonthDayYear, HourMinute, HourMinuteSecond, HalfClock, DayMonthYear, DateAndTime}
use Rattle.chrono_pattern.specs.declared.item.NumberField.{NumberField}
use Rattle.chrono_pattern.specs.declared.item.NumberField.TheVariants.{Year, Century, YearOfCentury, Quarter, Month, Day, SpacedDay, DayOfYear, FromMonday, FromSunday, IsoYear, IsoYearOfCentury, IsoWeek, WeekFromSunday, WeekFromMonday, Hour, SpacedHour, HalfHour, SpacedHalfHour, Minute, Second, Nanosecond}
use Rattle.chrono_pattern.specs.declared.item.OffsetForm.{OffsetForm}
use Rattle.chrono_pattern.specs.declared.item.OffsetForm.TheVariants.{Plain, Colon, Seconds, Hours, Loose}
use Rattle.chrono_pattern.specs.declared.item.Item.{Item}
use Rattle.chrono_pattern.specs.declared.item.Item.TheVariants.{Empty, Byte, Number, Word, Group, Subsecond, Zoned}
use Rattle.chrono_pattern.specs.declared.item.State.{State}
use Rattle.chrono_pattern.specs.declared.item.State.TheVariants.{Outside}
use Rattle.chrono_pattern.specs.declared.item.ZonedField.TheVariants.{Offset, ZoneName, Stamp, Iso8601}
use Rattle.chrono_pattern.specs.declared.parsed.Parsed.{Parsed}
use Rattle.chrono_pattern.specs.declared.parsed.Part.TheVariants.{OffsetFromUtc}
use Rattle.chrono_pattern.proofs.BackParts.{year_range}
use Rattle.chrono_pattern.proofs.BackPatterns.{given-more, given-none, given-nothing, keeps-more, parts_back}
use Rattle.chrono_pattern.proofs.BackSubseconds.{fraction_of}
use Rattle.chrono_pattern.proofs.FieldLemmas.{named_from-more, named_from-none, named_from-nothing}
use Rattle.chrono_pattern.proofs.SeparableLemmas.{separable-more, separable-none}
use Rattle.chrono_pattern.proofs.ShapeLemmas.{Like, date_is_named, mark, offset_of_like, read_like, stamp_of_like, time_of_like}

-- ---- the parts are the date-time's own

same_int : (v : ℤ) → int_eq v v ≡ true
same_int v = (Decides-int_eq v v).1 refl

says_own : (o : Option ℤ) (v : ℤ) → says (if_named o v) v ≡ true
says_own None v = refl
says_own (Some w) v = same_int v

-- ---- the date

-- whether a year is in the window goes by which of its parts are given
window_of_marks : (a b c : Option ℤ) (y : ℤ) → in_window (mark a) (mark b) (mark c) y ≡ in_window a b c y
window_of_marks None None None y = refl
window_of_marks None None (Some r) y = refl
window_of_marks None (Some b) None y = refl
window_of_marks None (Some b) (Some r) y = refl
window_of_marks (Some a) None None y = refl
window_of_marks (Some a) None (Some r) y = refl
window_of_marks (Some a) (Some b) None y = refl
window_of_marks (Some a) (Some b) (Some r) y = refl

window_of_like : (p q : Parsed) (y : ℤ) → Like p q → in_window p.year p.year_div_100 p.year_mod_100 y ≡ in_window q.year q.year_div_100 q.year_mod_100 y
window_of_like p q y like =
    sym (window_of_marks p.year p.year_div_100 p.year_mod_100 y)
    ∙ ap (λ (t : Parsed). in_window t.year t.year_div_100 t.year_mod_100 y) like.same
    ∙ window_of_marks q.year q.year_div_100 q.year_mod_100 y

own_date_fits : (q : Parsed) (m : Moment) (x : ℤ) → tells_date (parts_of q m x) m.date ≡ true → date_fits (parts_of q m x) m.date ≡ true
unfolding date_fits year_fits day_fits week_fits year_week_fits
own_date_fits q m x window =
    let year = and_from _ _ (and_from _ _ (says_own q.year _) (says_own q.year_div_100 _)) (and_from _ _ (says_own q.year_mod_100 _) window) in
    let day = and_from _ _ (and_from _ _ (says_own q.month _) (says_own q.day _)) (and_from _ _ (says_own q.ordinal _) (says_own q.quarter _)) in
    let week = and_from _ _ (and_from _ _ (says_own q.isoyear _) (says_own q.isoyear_mod_100 _)) (and_from _ _ (says_own q.isoweek _) (says_own q.weekday _)) in
    let year_week = and_from _ _ (says_own q.week_from_sun _) (says_own q.week_from_mon _) in
    and_from _ _ year (and_from _ _ day (and_from _ _ week year_week))

-- what the text of a kept date-time gives, and how it is like what the pattern names
abbrev pub kept_parts : List ℕ → Moment → ℤ → Parsed
kept_parts bytes m x = parts_of (given_parts bytes m.time) m x

pub kept_like : (wide : Bool) (bytes : List ℕ) (m : Moment) (x : ℤ) → shows_ends wide bytes ≡ true → LosesNothing wide bytes m x → Like (kept_parts bytes m x) (named_parts bytes)
kept_like wide bytes m x separable kept = read_like bytes (text_at_offset bytes m x) (kept_parts bytes m x) (parts_back wide bytes m x separable kept)

kept_date_named : (wide : Bool) (bytes : List ℕ) (m : Moment) (x : ℤ) → shows_ends wide bytes ≡ true → LosesNothing wide bytes m x
    → names_date (kept_parts bytes m x) ≡ names_date (named_parts bytes)
kept_date_named wide bytes m x separable kept =
    date_is_named bytes (text_at_offset bytes m x) (kept_parts bytes m x) (parts_back wide bytes m x separable kept)

kept_date_fits : (wide : Bool) (bytes : List ℕ) (m : Moment) (x : ℤ) → shows_ends wide bytes ≡ true → LosesNothing wide bytes m x → tells_date (named_parts bytes) m.date ≡ true
    → date_fits (kept_parts bytes m x) m.date ≡ true
kept_date_fits wide bytes m x separable kept tells =
    own_date_fits (given_parts bytes m.time) m x (window_of_like (kept_parts bytes m x) (named_parts bytes) (year_of m.date) (kept_like wide bytes m x separable kept) ∙ tells)

pub date_back : (wide : Bool) (bytes : List ℕ) (m : Moment) → shows_ends wide bytes ≡ true → LosesNothing wide bytes m (pos 0) → names_date (named_parts bytes) ≡ true
    → tells_date (named_parts bytes) m.date ≡ true → IsDateBy bytes (pattern_text bytes m) m.date
date_back wide bytes m separable kept named tells = record {
  parts = kept_parts bytes m (pos 0);
  read = parts_back wide bytes m (pos 0) separable kept;
  named = kept_date_named wide bytes m (pos 0) separable kept ∙ named;
  fits = kept_date_fits wide bytes m (pos 0) separable kept tells;
}

-- ---- the fraction

-- where a time has a fraction, its text gives all that the pattern names
few_given : (b : Bool) (q p : Parsed) → b ≡ false → (if b then q else p) ≡ p
few_given true q p e = absurd (false≢true (sym e))
few_given false q p e = refl

all_given : (item : Item) (t : TimeOfDay) (q : Parsed) → (fraction_of t == 0) ≡ false → with_given item t q ≡ with_item item q
all_given Empty t q some = refl
all_given (Byte c) t q some = refl
all_given (Number field padding) t q some = refl
all_given (Word word) t q some = refl
all_given (Group g) t q some = refl
all_given (Subsecond point count) t q some = by_count (count == 0)
  where
    by_count : (z : Bool) → (if z then with_few t q else with_item (Subsecond point count) q) ≡ with_item (Subsecond point count) q
    by_count true = few_given (fraction_of t == 0) q (with_item (Subsecond point count) q) some
    by_count false = refl
all_given (Zoned (Offset form)) t q some = refl
all_given (Zoned ZoneName) t q some = refl
all_given (Zoned Stamp) t q some = refl
all_given (Zoned Iso8601) t q some = ap (λ (p : Parsed). with_named OffsetFromUtc p) (few_given (fraction_of t == 0) _ _ some)

abbrev AllGiven : List ℕ → TimeOfDay → Type 0
AllGiven bytes t = (s : State) (q : Parsed) → given_from s bytes t q ≡ named_from s bytes q

step_given : (c : ℕ) (bytes : List ℕ) (t : TimeOfDay) → (fraction_of t == 0) ≡ false → AllGiven bytes t → (s : State) (q : Parsed) (o : Option (State × Item))
    → pattern_step s c ≡ o → given_from s (c ∷ bytes) t q ≡ named_from s (c ∷ bytes) q
step_given c bytes t some rest s q None e = given-none s c bytes t q e ∙ sym (named_from-none s c bytes q e)
step_given c bytes t some rest s q (Some next) e =
    given-more s c bytes t q next e
    ∙ ap (λ (p : Parsed). given_from next.0 bytes t p) (all_given next.1 t q some)
    ∙ rest next.0 (with_item next.1 q)
    ∙ sym (named_from-more s c bytes q next e)

pub given_all : (bytes : List ℕ) (t : TimeOfDay) → (fraction_of t == 0) ≡ false → AllGiven bytes t
given_all [] t some s q = given-nothing s t q ∙ sym (named_from-nothing s q)
given_all (c ∷ bytes) t some s q = step_given c bytes t some (given_all bytes t some) s q (pattern_step s c) refl

-- a part that is told counts as it is
counts_zero : (o : Option ℤ) → counts (if_named o (pos 0)) (pos 0) ≡ true
counts_zero None = refl
counts_zero (Some w) = refl

counts_told : (o : Option ℤ) (v : ℤ) → is_told o v ≡ true → counts (if_named o v) v ≡ true
counts_told None v told = let none : v ≡ pos 0 = (Decides-int_eq v (pos 0)).0 told in ap (λ (z : ℤ). int_eq (pos 0) z) none
counts_told (Some w) v told = same_int v

fraction_counts : (bytes : List ℕ) (t : TimeOfDay) → is_told (named_parts bytes).nanosecond (pos (fraction_of t)) ≡ true
    → counts (if_named (given_parts bytes t).nanosecond (pos (fraction_of t))) (pos (fraction_of t)) ≡ true
fraction_counts bytes t told = by_test (fraction_of t == 0) refl
  where
    by_test : (z : Bool) → (fraction_of t == 0) ≡ z → counts (if_named (given_parts bytes t).nanosecond (pos (fraction_of t))) (pos (fraction_of t)) ≡ true
    by_test true e =
        let none : fraction_of t ≡ 0 = grind (arith, nat_tests) in
        ap (λ (n : ℕ). counts (if_named (given_parts bytes t).nanosecond (pos n)) (pos n)) none ∙ counts_zero (given_parts bytes t).nanosecond
    by_test false e =
        ap (λ (p : Parsed). counts (if_named p.nanosecond (pos (fraction_of t))) (pos (fraction_of t))) (given_all bytes t e Outside no_parts)
        ∙ counts_told (named_parts bytes).nanosecond (pos (fraction_of t)) told

-- ---- parts that are alike

told_of_marks : (o other : Option ℤ) (v w : ℤ) → mark (if_named o w) ≡ mark other → is_told o v ≡ is_told other v
told_of_marks None None v w e = refl
told_of_marks None (Some b) v w e = cc
told_of_marks (Some a) None v w e = cc
told_of_marks (Some a) (Some b) v w e = refl

-- ---- the time of day

abbrev shown : TimeOfDay → ℤ
shown t = pos (second_of t + t.fraction / nanos_per_second)

second_counts : (wide : Bool) (bytes : List ℕ) (m : Moment) (x : ℤ) → shows_ends wide bytes ≡ true → LosesNothing wide bytes m x
    → is_told (named_parts bytes).second (shown m.time) ≡ true → counts (kept_parts bytes m x).second (shown m.time) ≡ true
second_counts wide bytes m x separable kept told =
    counts_told (given_parts bytes m.time).second (shown m.time)
    (told_of_marks (given_parts bytes m.time).second (named_parts bytes).second (shown m.time) (shown m.time)
    (ap (λ (p : Parsed). p.second) (kept_like wide bytes m x separable kept).same) ∙ told)

own_clock_fits : (q : Parsed) (m : Moment) (x : ℤ) → clock_fits (parts_of q m x) m.time ≡ true
unfolding clock_fits
own_clock_fits q m x = and_from _ _ (and_from _ _ (says_own q.hour_div_12 _) (says_own q.hour_mod_12 _)) (says_own q.minute _)

kept_time_fits : (wide : Bool) (bytes : List ℕ) (m : Moment) (x : ℤ) → shows_ends wide bytes ≡ true → LosesNothing wide bytes m x → tells_time (named_parts bytes) m.time ≡ true
    → time_fits (kept_parts bytes m x) m.time ≡ true
unfolding time_fits second_fits
kept_time_fits wide bytes m x separable kept tells =
    let told = and_parts (is_told (named_parts bytes).second (shown m.time)) (is_told (named_parts bytes).nanosecond (pos (fraction_of m.time))) tells in
    and_from _ _ (own_clock_fits (given_parts bytes m.time) m x)
    (and_from _ _ (second_counts wide bytes m x separable kept told.0) (fraction_counts bytes m.time told.1))

second_named : (p : Parsed) → names_time p ≡ true → names_second p ≡ true
unfolding names_time
second_named p named =
    (and_parts (is_present p.minute) (names_second p) (and_parts (is_present p.hour_div_12 && is_present p.hour_mod_12) (is_present p.minute && names_second p) named).1).1

kept_time_named : (wide : Bool) (bytes : List ℕ) (m : Moment) (x : ℤ) → shows_ends wide bytes ≡ true → LosesNothing wide bytes m x → names_time (named_parts bytes) ≡ true
    → names_time (kept_parts bytes m x) ≡ true
kept_time_named wide bytes m x separable kept named =
    time_of_like (kept_parts bytes m x) (named_parts bytes) (kept_like wide bytes m x separable kept) (second_named (named_parts bytes) named) ∙ named

pub time_back : (wide : Bool) (bytes : List ℕ) (m : Moment) → shows_ends wide bytes ≡ true → LosesNothing wide bytes m (pos 0) → names_time (named_parts bytes) ≡ true
    → tells_time (named_parts bytes) m.time ≡ true → IsTimeBy bytes (pattern_text bytes m) m.time
time_back wide bytes m separable kept named tells = record {
  parts = kept_parts bytes m (pos 0);
  read = parts_back wide bytes m (pos 0) separable kept;
  named = kept_time_named wide bytes m (pos 0) separable kept named;
  fits = kept_time_fits wide bytes m (pos 0) separable kept tells;
}

-- ---- the date-time

moment_named : (p q : Parsed) → is_present p.timestamp ≡ is_present q.timestamp → names_date p ≡ names_date q → (names_time q ≡ true → names_time p ≡ true)
    → names_moment q ≡ true → names_moment p ≡ true
unfolding names_moment
moment_named p q stamps dates times named = by_stamp (is_present p.timestamp) (is_present q.timestamp) stamps named
  where
    by_stamp : (a b : Bool) → a ≡ b → (if b then true else names_date q && names_time q) ≡ true → (if a then true else names_date p && names_time p) ≡ true
    by_stamp true b e h = refl
    by_stamp false true e h = absurd (false≢true e)
    by_stamp false false e h = let both = and_parts (names_date q) (names_time q) h in and_from (names_date p) (names_time p) (dates ∙ both.0) (times both.1)

kept_moment_named : (wide : Bool) (bytes : List ℕ) (m : Moment) (x : ℤ) → shows_ends wide bytes ≡ true → LosesNothing wide bytes m x → names_moment (named_parts bytes) ≡ true
    → names_moment (kept_parts bytes m x) ≡ true
kept_moment_named wide bytes m x separable kept named =
    moment_named (kept_parts bytes m x) (named_parts bytes) (stamp_of_like (kept_parts bytes m x) (named_parts bytes) (kept_like wide bytes m x separable kept))
    (kept_date_named wide bytes m x separable kept) (kept_time_named wide bytes m x separable kept) named

-- the seconds from 1970 are the date-time's own
own_stamp : (m : Moment) (x : ℤ) → is_stamp_of (epoch_second m -ℤ x) m x ≡ true
own_stamp m x = by_leap (is_leap m.time)
  where
    or_first : (a b : Bool) → a ≡ true → (a || b) ≡ true
    or_first true b h = refl
    or_first false b h = absurd (false≢true h)

    by_leap : (b : Bool) → (if b then is_next_to (epoch_second m -ℤ x) (epoch_second m -ℤ x) else int_eq (epoch_second m -ℤ x) (epoch_second m -ℤ x)) ≡ true
    by_leap true = or_first _ _ (same_int (epoch_second m -ℤ x))
    by_leap false = same_int (epoch_second m -ℤ x)

own_second : (o other : Option ℤ) (t : TimeOfDay) → mark (if_named o (shown t)) ≡ mark other → (if is_leap t then is_present other else true) ≡ true
    → shows_second (if_named o (shown t)) t ≡ true
own_second (Some a) other t e tells = same_int (shown t)
own_second None None t e tells = by_leap (is_leap t) tells
  where
    by_leap : (b : Bool) → (if b then false else true) ≡ true → (if b then false else true) ≡ true
    by_leap b h = h
own_second None (Some b) t e tells = cc

kept_stamped_fits : (wide : Bool) (bytes : List ℕ) (m : Moment) (x : ℤ) → shows_ends wide bytes ≡ true → LosesNothing wide bytes m x → tells_fraction (named_parts bytes) m.time ≡ true
    → stamped_time_fits (kept_parts bytes m x) m.time ≡ true
unfolding stamped_time_fits
kept_stamped_fits wide bytes m x separable kept tells =
    let q = named_parts bytes in
    let told = and_parts (if is_leap m.time then is_present q.second else true) (is_told q.nanosecond (pos (fraction_of m.time))) tells in
    and_from _ _ (own_clock_fits (given_parts bytes m.time) m x)
    (and_from _ _ (own_second (given_parts bytes m.time).second q.second m.time (ap (λ (p : Parsed). p.second) (kept_like wide bytes m x separable kept).same) told.0)
    (fraction_counts bytes m.time told.1))

kept_by : (wide : Bool) (bytes : List ℕ) (m : Moment) (x : ℤ) → shows_ends wide bytes ≡ true → LosesNothing wide bytes m x
    → (if is_present (named_parts bytes).timestamp then tells_fraction (named_parts bytes) m.time else tells_time (named_parts bytes) m.time) ≡ true
    → fits_by (kept_parts bytes m x).timestamp (kept_parts bytes m x) m x ≡ true
kept_by wide bytes m x separable kept tells =
    by_stamp (given_parts bytes m.time).timestamp (is_present (named_parts bytes).timestamp)
    (stamp_of_like (kept_parts bytes m x) (named_parts bytes) (kept_like wide bytes m x separable kept)) tells
  where
    by_stamp : (o : Option ℤ) (b : Bool) → is_present (if_named o (epoch_second m -ℤ x)) ≡ b
        → (if b then tells_fraction (named_parts bytes) m.time else tells_time (named_parts bytes) m.time) ≡ true
        → fits_by (if_named o (epoch_second m -ℤ x)) (kept_parts bytes m x) m x ≡ true
    by_stamp None true e h = absurd (false≢true e)
    by_stamp None false e h = kept_time_fits wide bytes m x separable kept h
    by_stamp (Some w) true e h = and_from _ _ (kept_stamped_fits wide bytes m x separable kept h) (own_stamp m x)
    by_stamp (Some w) false e h = absurd (false≢true (sym e))

kept_moment_fits : (wide : Bool) (bytes : List ℕ) (m : Moment) (x : ℤ) → shows_ends wide bytes ≡ true → LosesNothing wide bytes m x → tells_moment (named_parts bytes) m ≡ true
    → moment_fits (kept_parts bytes m x) m x ≡ true
unfolding moment_fits
kept_moment_fits wide bytes m x separable kept tells =
    let q = named_parts bytes in
    let told = and_parts (tells_date q m.date) (if is_present q.timestamp then tells_fraction q m.time else tells_time q m.time) tells in
    and_from _ _ (kept_date_fits wide bytes m x separable kept told.0) (kept_by wide bytes m x separable kept told.1)

pub moment_back : (wide : Bool) (bytes : List ℕ) (m : Moment) → shows_ends wide bytes ≡ true → LosesNothing wide bytes m (pos 0) → names_moment (named_parts bytes) ≡ true
    → tells_moment (named_parts bytes) m ≡ true → IsMomentBy bytes (pattern_text bytes m) m
moment_back wide bytes m separable kept named tells = record {
  parts = kept_parts bytes m (pos 0);
  read = parts_back wide bytes m (pos 0) separable kept;
  named = kept_moment_named wide bytes m (pos 0) separable kept named;
  fits = kept_moment_fits wide bytes m (pos 0) separable kept tells;
}

-- ---- with its offset

zoned_named : (p q : Parsed) → is_present p.timestamp ≡ is_present q.timestamp → is_present p.offset ≡ is_present q.offset → (names_moment q ≡ true → names_moment p ≡ true)
    → names_zoned q ≡ true → names_zoned p ≡ true
unfolding names_zoned
zoned_named p q stamps offsets moments named = by_stamp (is_present p.timestamp) (is_present q.timestamp) stamps named
  where
    by_stamp : (a b : Bool) → a ≡ b → (if b then true else names_moment q && is_present q.offset) ≡ true → (if a then true else names_moment p && is_present p.offset) ≡ true
    by_stamp true b e h = refl
    by_stamp false true e h = absurd (false≢true e)
    by_stamp false false e h = let both = and_parts (names_moment q) (is_present q.offset) h in and_from (names_moment p) (is_present p.offset) (moments both.0) (offsets ∙ both.1)

pub zoned_back : (wide : Bool) (bytes : List ℕ) (m : Moment) (x : ℤ) → shows_ends wide bytes ≡ true → LosesNothing wide bytes m x → names_zoned (named_parts bytes) ≡ true
    → tells_zoned (named_parts bytes) m x ≡ true → IsZonedBy bytes (text_at_offset bytes m x) m x
unfolding zoned_fits
zoned_back wide bytes m x separable kept named tells =
    let q = named_parts bytes in
    let p = kept_parts bytes m x in
    let like = kept_like wide bytes m x separable kept in
    let told = and_parts (is_told q.offset x) (tells_moment q m) tells in
    record {
      parts = p;
      read = parts_back wide bytes m x separable kept;
      named = zoned_named p q (stamp_of_like p q like) (offset_of_like p q like) (kept_moment_named wide bytes m x separable kept) named;
      fits = and_from _ _
          (counts_told (given_parts bytes m.time).offset x (told_of_marks (given_parts bytes m.time).offset q.offset x x (ap (λ (t : Parsed). t.offset) like.same) ∙ told.0))
          (kept_moment_fits wide bytes m x separable kept told.1);
    }

-- ---- what is kept

-- a date-time that has nothing smaller than a second, and an offset of whole hours
pub record IsWhole (wide : Bool) (m : Moment) (x : ℤ) : Type 0 where
  pub year : keeps_year wide (year_of m.date) ≡ true
  pub iso_year : keeps_year wide (iso_year_of m.date) ≡ true
  pub fraction : fraction_of m.time ≡ 0
  pub hours : unsigned_abs x % 3_600 ≡ 0
  pub stamp : keeps_stamp (epoch_second m -ℤ x) ≡ true

kept_number : (wide : Bool) (bar : Bar) (field : NumberField) (m : Moment) (x : ℤ) → IsWhole wide m x → takes_number wide bar field ≡ true → keeps_number wide field m ≡ true
kept_number wide bar Year m x whole takes = whole.year
kept_number wide bar IsoYear m x whole takes = whole.iso_year
kept_number true bar Century m x whole takes = absurd (false≢true takes)
kept_number false bar Century m x whole takes = whole.year
kept_number wide bar YearOfCentury m x whole takes = refl
kept_number wide bar Quarter m x whole takes = refl
kept_number wide bar Month m x whole takes = refl
kept_number wide bar Day m x whole takes = refl
kept_number wide bar SpacedDay m x whole takes = refl
kept_number wide bar DayOfYear m x whole takes = refl
kept_number wide bar FromMonday m x whole takes = refl
kept_number wide bar FromSunday m x whole takes = refl
kept_number wide bar IsoYearOfCentury m x whole takes = refl
kept_number wide bar IsoWeek m x whole takes = refl
kept_number wide bar WeekFromSunday m x whole takes = refl
kept_number wide bar WeekFromMonday m x whole takes = refl
kept_number wide bar Hour m x whole takes = refl
kept_number wide bar SpacedHour m x whole takes = refl
kept_number wide bar HalfHour m x whole takes = refl
kept_number wide bar SpacedHalfHour m x whole takes = refl
kept_number wide bar Minute m x whole takes = refl
kept_number wide bar Second m x whole takes = refl
kept_number wide bar Nanosecond m x whole takes = refl

any_year : (wide : Bool) (y : ℤ) → keeps_year wide y ≡ true → keeps_year true y ≡ true
any_year wide y keeps = le-leb (unsigned_abs y) 999_999_999 (year_range wide y keeps)

kept_group : (wide : Bool) (g : GroupField) (m : Moment) (x : ℤ) → IsWhole wide m x → keeps_group wide g m ≡ true
kept_group wide YearMonthDay m x whole = any_year wide (year_of m.date) whole.year
kept_group wide MonthDayYear m x whole = refl
kept_group wide HourMinute m x whole = refl
kept_group wide HourMinuteSecond m x whole = refl
kept_group wide HalfClock m x whole = refl
kept_group wide DayMonthYear m x whole = whole.year
kept_group wide DateAndTime m x whole = whole.year

no_rest : (k : ℕ) → 0 % 10 ^ k ≡ 0
no_rest k = let zero : 0 ≡ 0 * 10 ^ k + 0 = omega arith in ap (λ (n : ℕ). n % 10 ^ k) zero ∙ mod-mul-add 0 (10 ^ k) 0 (pow_pos k)

kept_subsecond : (wide : Bool) (count : ℕ) (m : Moment) (x : ℤ) → IsWhole wide m x → keeps_subsecond count m.time ≡ true
kept_subsecond wide count m x whole = by_count (count == 0)
  where
    by_count : (z : Bool) → (if z then true else fraction_of m.time % 10 ^ (9 - min count 9) == 0) ≡ true
    by_count true = refl
    by_count false =
        ap (λ (f : ℕ). f % 10 ^ (9 - min count 9) == 0) whole.fraction ∙ ap (λ (r : ℕ). r == 0) (no_rest (9 - min count 9))

same_zero : (n : ℕ) → n ≡ 0 → (n == 0) ≡ true
same_zero n e = ap (λ (k : ℕ). k == 0) e

kept_form : (wide : Bool) (form : OffsetForm) (m : Moment) (x : ℤ) → IsWhole wide m x → keeps_form form (unsigned_abs x) ≡ true
kept_form wide Plain m x whole = same_zero (unsigned_abs x % 60) (omega (arith, whole.hours))
kept_form wide Colon m x whole = same_zero (unsigned_abs x % 60) (omega (arith, whole.hours))
kept_form wide Seconds m x whole = refl
kept_form wide Hours m x whole = same_zero (unsigned_abs x % 3_600) whole.hours
kept_form wide Loose m x whole = same_zero (unsigned_abs x % 60) (omega (arith, whole.hours))

kept_item : (wide : Bool) (bar : Bar) (item : Item) (m : Moment) (x : ℤ) → IsWhole wide m x → takes_item wide bar item ≡ true → keeps_item wide item m x ≡ true
kept_item wide bar Empty m x whole takes = refl
kept_item wide bar (Byte c) m x whole takes = refl
kept_item wide bar (Number field padding) m x whole takes = kept_number wide bar field m x whole takes
kept_item wide bar (Word word) m x whole takes = refl
kept_item wide bar (Group g) m x whole takes = kept_group wide g m x whole
kept_item wide bar (Subsecond point count) m x whole takes = kept_subsecond wide count m x whole
kept_item wide bar (Zoned (Offset form)) m x whole takes = kept_form wide form m x whole
kept_item wide bar (Zoned ZoneName) m x whole takes = absurd (false≢true takes)
kept_item wide bar (Zoned Stamp) m x whole takes = whole.stamp
kept_item wide bar (Zoned Iso8601) m x whole takes = and_from _ _ (any_year wide (year_of m.date) whole.year) (kept_form wide Colon m x whole)

abbrev AllKept : Bool → List ℕ → Moment → ℤ → Type 0
AllKept wide bytes m x = (s : State) (bar : Bar) → is_separable_from wide s bar bytes ≡ true → keeps_from wide s bytes m x ≡ true

step_kept : (wide : Bool) (c : ℕ) (bytes : List ℕ) (m : Moment) (x : ℤ) → IsWhole wide m x → AllKept wide bytes m x → (s : State) (bar : Bar) (o : Option (State × Item))
    → pattern_step s c ≡ o → is_separable_from wide s bar (c ∷ bytes) ≡ true → keeps_from wide s (c ∷ bytes) m x ≡ true
step_kept wide c bytes m x whole rest s bar None e h = absurd (false≢true (sym (separable-none wide s bar c bytes e) ∙ h))
step_kept wide c bytes m x whole rest s bar (Some next) e h =
    let both = and_parts (takes_item wide bar next.1) (is_separable_from wide next.0 (bar_behind wide bar next.1) bytes) (sym (separable-more wide s bar c bytes next e) ∙ h) in
    keeps-more wide s c bytes m x next e
    ∙ and_from (keeps_item wide next.1 m x) (keeps_from wide next.0 bytes m x) (kept_item wide bar next.1 m x whole both.0) (rest next.0 (bar_behind wide bar next.1) both.1)

all_kept : (wide : Bool) (bytes : List ℕ) (m : Moment) (x : ℤ) → IsWhole wide m x → AllKept wide bytes m x
unfolding keeps_from
all_kept wide [] m x whole s bar h = refl
all_kept wide (c ∷ bytes) m x whole s bar h = step_kept wide c bytes m x whole (all_kept wide bytes m x whole) s bar (pattern_step s c) refl h

pub whole_kept : (wide : Bool) (bytes : List ℕ) (m : Moment) (x : ℤ) → shows_ends wide bytes ≡ true → IsTime m.time → IsOffset x
    → keeps_year wide (year_of m.date) ≡ true → keeps_year wide (iso_year_of m.date) ≡ true → m.time.fraction % nanos_per_second ≡ 0
    → unsigned_abs x % 3_600 ≡ 0 → keeps_stamp (epoch_second m -ℤ x) ≡ true → LosesNothing wide bytes m x
whole_kept wide bytes m x separable time near year iso_year fraction hours stamp = record {
  time = time;
  offset = near;
  items = all_kept wide bytes m x (record { year = year; iso_year = iso_year; fraction = fraction; hours = hours; stamp = stamp }) Outside Free separable;
}
