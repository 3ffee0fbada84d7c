-- What no text of a pattern names, by its specifiers alone: each text gives the parts that it must give.
use Rattle.std.proofs.Common.{◌≡◌, ℕ, Bool, true, false, ◌&&◌, ◌||◌, if◌then◌else◌, ◌⊎◌, inl, inr, List, [], ◌∷◌, Option, None, Some, Result, Ok, Err, IfOk, ℤ, pos, neg_ℤ, refl, ap, sym, subst, ◌∙◌}
use Rattle.std.proofs.lemmas.Bool.{false≢true, true≢false}
use Rattle.std.specs.Int.RustNames.{int_lt}
use Rattle.std.specs.Ordering.{int_eq}
use Rattle.chrono_datetime.specs.Moment.{Moment}
use Rattle.chrono_datetime.specs.Time.{TimeOfDay}
use Rattle.chrono_pattern.specs.DateParts.{is_present, names_calendar, names_date, names_ordinal, names_week, names_year_week}
use Rattle.chrono_pattern.specs.NamedParts.{named_parts, sure_parts, with_sure_fraction}
use Rattle.chrono_pattern.specs.Needs.{gives_fraction, has_fraction, has_item_of, is_fraction}
use Rattle.chrono_pattern.specs.NumberReads.{half_put, number_part, number_put, part_put}
use Rattle.chrono_pattern.specs.Parses.{IsDateBy, IsDateInFront, IsMomentBy, IsMomentInFront, IsTimeBy, IsTimeInFront, IsZonedBy, IsZonedInFront}
use Rattle.chrono_pattern.specs.Parts.{part_of, put, put_stamp, part_range, with_part, with_stamp}
use Rattle.chrono_pattern.specs.PatternItems.{item_before, items_from, pattern_items}
use Rattle.chrono_pattern.specs.PatternSteps.{pattern_step}
use Rattle.chrono_pattern.specs.Progress.{Progress, is_pattern_blank}
use Rattle.chrono_pattern.specs.Reads.{text_read}
use Rattle.chrono_pattern.specs.TextPieces.{InRow, ReadsBetween, ReadsBlank, ReadsFront, ReadsItem, ReadsIso, ReadsOffset, ReadsSigned, ReadsSimple, ReadsSubsecond, ReadsUtc, ReadsWord, ReadsZoned, group_items}
use Rattle.chrono_pattern.specs.TimeParts.{names_second, names_time}
use Rattle.chrono_pattern.specs.ZonedParts.{names_moment, names_zoned}
use Rattle.chrono_pattern.specs.declared.error.ReadFault.{ReadFault}
use Rattle.chrono_pattern.specs.declared.error.ReadFault.TheVariants.{Impossible, OutOfRange}
use Rattle.chrono_pattern.specs.declared.item.GroupField.TheVariants.{HourMinuteSecond, YearMonthDay}
use Rattle.chrono_pattern.specs.declared.item.Item.{Item}
use Rattle.chrono_pattern.specs.declared.item.Item.TheVariants.{Empty, Byte, Number, Word, Group, Subsecond, Zoned}
use Rattle.chrono_pattern.specs.declared.item.NumberField.{NumberField}
use Rattle.chrono_pattern.specs.declared.item.NumberField.TheVariants.{Year, Century, YearOfCentury, Quarter, Month, Day, SpacedDay, DayOfYear, FromMonday, FromSunday, IsoYear, IsoYearOfCentury, IsoWeek, WeekFromSunday, WeekFromMonday, Hour, SpacedHour, HalfHour, SpacedHalfHour, Minute, Second, Nanosecond}
use Rattle.chrono_pattern.specs.declared.item.OffsetForm.{OffsetForm}
use Rattle.chrono_pattern.specs.declared.item.OffsetForm.TheVariants.{Plain, Colon, Seconds, Hours, Loose}
use Rattle.chrono_pattern.specs.declared.item.State.{State}
use Rattle.chrono_pattern.specs.declared.item.State.TheVariants.{Outside}
use Rattle.chrono_pattern.specs.declared.item.WordField.{WordField}
use Rattle.chrono_pattern.specs.declared.item.WordField.TheVariants.{MonthName, MonthLetters, WeekdayName, WeekdayLetters, Half, SmallHalf}
use Rattle.chrono_pattern.specs.declared.item.ZonedField.{ZonedField}
use Rattle.chrono_pattern.specs.declared.item.ZonedField.TheVariants.{Offset, ZoneName, Stamp, Iso8601}
use Rattle.chrono_pattern.specs.declared.needs.Sort.TheVariants.{OfFraction}
use Rattle.chrono_pattern.specs.declared.parsed.Parsed.{Parsed}
use Rattle.chrono_pattern.specs.declared.parsed.Part.{Part}
use Rattle.chrono_pattern.specs.declared.parsed.Part.TheVariants.{FullYear, YearDiv100, YearMod100, FullIsoYear, IsoYearMod100, QuarterOfYear, MonthOfYear, WeekOfIsoYear, WeekFromSun, WeekFromMon, DayOfWeek, OrdinalDay, DayOfMonth, HourDiv12, HourMod12, MinuteOfHour, SecondOfMinute, NanosecondOfSecond, OffsetFromUtc}
use Rattle.chrono_pattern.proofs.PatternLemmas.{has_item_of-more, has_item_of-none, has_item_of-nothing}
use Rattle.chrono_pattern.proofs.RowExact.{front_exact, items_from-more, items_from-none, items_from-nothing, text_exact}
use Rattle.chrono_pattern.proofs.ShapeLemmas.{Like, date_of_like, front_like, is_enough, offset_of_like, read_like, same_given, stamp_of_like}

-- ---- a fraction that is given stays

-- a fraction is given
abbrev Has : Parsed → Type 0
Has p = is_present p.nanosecond ≡ true

with_keeps : (part : Part) (v : ℤ) (p : Parsed) → Has p → Has (with_part part v p)
with_keeps FullYear v p h = h
with_keeps YearDiv100 v p h = h
with_keeps YearMod100 v p h = h
with_keeps FullIsoYear v p h = h
with_keeps IsoYearMod100 v p h = h
with_keeps QuarterOfYear v p h = h
with_keeps MonthOfYear v p h = h
with_keeps WeekOfIsoYear v p h = h
with_keeps WeekFromSun v p h = h
with_keeps WeekFromMon v p h = h
with_keeps DayOfWeek v p h = h
with_keeps OrdinalDay v p h = h
with_keeps DayOfMonth v p h = h
with_keeps HourDiv12 v p h = h
with_keeps HourMod12 v p h = h
with_keeps MinuteOfHour v p h = h
with_keeps SecondOfMinute v p h = h
with_keeps NanosecondOfSecond v p h = refl
with_keeps OffsetFromUtc v p h = h

abbrev Holds : Result Parsed ReadFault → Type 0
Holds o = IfOk o (λ p. Has p)

if_holds : (b : Bool) (x y : Result Parsed ReadFault) → Holds x → Holds y → Holds (if b then x else y)
if_holds true x y hx hy = hx
if_holds false x y hx hy = hy

found_holds : (part : Part) (v : ℤ) (p : Parsed) → Has p → (o : Option ℤ)
    → Holds (elim o as (λ _. Result Parsed ReadFault) [ None ↦ Ok (with_part part v p) | Some w ↦ if int_eq w v then Ok p else Err Impossible ])
found_holds part v p h None = with_keeps part v p h
found_holds part v p h (Some w) = if_holds (int_eq w v) (Ok p) (Err Impossible) h tt

put_holds : (part : Part) (v : ℤ) (p : Parsed) → Has p → Holds (put part v p)
unfolding put
put_holds part v p h =
    if_holds (int_lt v (part_range part).0) _ _ tt (if_holds (int_lt (part_range part).1 v) _ _ tt (found_holds part v p h (part_of part p)))

fraction_found : (v : ℤ) (p : Parsed) → (o : Option ℤ) → p.nanosecond ≡ o
    → Holds (elim o as (λ _. Result Parsed ReadFault) [ None ↦ Ok (with_part NanosecondOfSecond v p) | Some w ↦ if int_eq w v then Ok p else Err Impossible ])
fraction_found v p None e = refl
fraction_found v p (Some w) e = if_holds (int_eq w v) (Ok p) (Err Impossible) (ap (λ (o : Option ℤ). is_present o) e) tt

fraction_holds : (v : ℤ) (p : Parsed) → Holds (put NanosecondOfSecond v p)
unfolding put
fraction_holds v p =
    if_holds (int_lt v (part_range NanosecondOfSecond).0) _ _ tt
    (if_holds (int_lt (part_range NanosecondOfSecond).1 v) _ _ tt (fraction_found v p p.nanosecond refl))

-- where parts are put, they hold it
held : (o : Result Parsed ReadFault) (q : Parsed) → Holds o → o ≡ Ok q → Has q
held (Ok p) q h e = let same : p ≡ q = cc in subst Has same h
held (Err cause) q h e = cc

put_keeps : (part : Part) (v : ℤ) (p q : Parsed) → Has p → put part v p ≡ Ok q → Has q
put_keeps part v p q h e = held (put part v p) q (put_holds part v p h) e

put_gives : (v : ℤ) (p q : Parsed) → put NanosecondOfSecond v p ≡ Ok q → Has q
put_gives v p q e = held (put NanosecondOfSecond v p) q (fraction_holds v p) e

stamp_found_holds : (v : ℤ) (p : Parsed) → Has p → (o : Option ℤ)
    → Holds (elim o as (λ _. Result Parsed ReadFault) [ None ↦ Ok (with_stamp v p) | Some w ↦ if int_eq w v then Ok p else Err Impossible ])
stamp_found_holds v p h None = h
stamp_found_holds v p h (Some w) = if_holds (int_eq w v) (Ok p) (Err Impossible) h tt

stamp_holds : (v : ℤ) (p : Parsed) → Has p → Holds (put_stamp v p)
unfolding put_stamp
stamp_holds v p h =
    if_holds (int_lt v (neg_ℤ (pos 8_334_601_228_800))) (Err OutOfRange) _ tt
    (if_holds (int_lt (pos 8_210_266_876_799) v) (Err OutOfRange) _ tt (stamp_found_holds v p h p.timestamp))

half_holds : (field : NumberField) (v : ℤ) (p : Parsed) → Has p → Holds (half_put field v p)
half_holds Year v p h = h
half_holds Century v p h = h
half_holds YearOfCentury v p h = h
half_holds Quarter v p h = h
half_holds Month v p h = h
half_holds Day v p h = h
half_holds SpacedDay v p h = h
half_holds DayOfYear v p h = h
half_holds FromMonday v p h = h
half_holds FromSunday v p h = h
half_holds IsoYear v p h = h
half_holds IsoYearOfCentury v p h = h
half_holds IsoWeek v p h = h
half_holds WeekFromSunday v p h = h
half_holds WeekFromMonday v p h = h
half_holds Hour v p h = put_holds HourDiv12 _ p h
half_holds SpacedHour v p h = put_holds HourDiv12 _ p h
half_holds HalfHour v p h = h
half_holds SpacedHalfHour v p h = h
half_holds Minute v p h = h
half_holds Second v p h = h
half_holds Nanosecond v p h = h

part_holds : (o : Result Parsed ReadFault) (field : NumberField) (v : ℤ) → Holds o → Holds (part_put o field v)
part_holds (Ok p) field v h = put_holds (number_part field v).0 (number_part field v).1 p h
part_holds (Err cause) field v h = tt

number_keeps : (field : NumberField) (v : ℤ) (p q : Parsed) → Has p → number_put field v p ≡ Ok q → Has q
unfolding number_put
number_keeps field v p q h e = held (part_put (half_put field v p) field v) q (part_holds (half_put field v p) field v (half_holds field v p h)) e

nanosecond_gives : (v : ℤ) (p q : Parsed) → number_put Nanosecond v p ≡ Ok q → Has q
unfolding number_put
nanosecond_gives v p q e = put_gives v p q e

-- ---- pieces keep it

same_parts : (p q : Parsed) → q ≡ p → Has p → Has q
same_parts p q e h = ap (λ (t : Parsed). is_present t.nanosecond) e ∙ h

same_progress : (r q : Progress) → q ≡ r → Has r.parsed → Has q.parsed
same_progress r q e h = ap (λ (t : Progress). is_present t.parsed.nanosecond) e ∙ h

byte_keeps : (blank : Bool) (c : ℕ) (r q : Progress) → ReadsBlank blank c r q → Has r.parsed → Has q.parsed
byte_keeps true c r q is h = same_parts r.parsed q.parsed is.same h
byte_keeps false c r q is h = same_parts r.parsed q.parsed is.same h

word_keeps : (word : WordField) (r q : Progress) → ReadsWord word r q → Has r.parsed → Has q.parsed
word_keeps MonthName r q is h = put_keeps MonthOfYear _ r.parsed q.parsed h is.given
word_keeps MonthLetters r q is h = put_keeps MonthOfYear _ r.parsed q.parsed h is.given
word_keeps WeekdayName r q is h = put_keeps DayOfWeek _ r.parsed q.parsed h is.given
word_keeps WeekdayLetters r q is h = put_keeps DayOfWeek _ r.parsed q.parsed h is.given
word_keeps Half r q is h = put_keeps HourDiv12 _ r.parsed q.parsed h is.given
word_keeps SmallHalf r q is h = put_keeps HourDiv12 _ r.parsed q.parsed h is.given

simple_keeps : (item : Item) (r q : Progress) → ReadsSimple item r q → Has r.parsed → Has q.parsed
simple_keeps Empty r q is h = same_progress r q is h
simple_keeps (Byte c) r q is h = byte_keeps (is_pattern_blank c) c r q is h
simple_keeps (Number field padding) r q is h = number_keeps field _ r.parsed q.parsed h is.given
simple_keeps (Word word) r q is h = word_keeps word r q is h
simple_keeps (Group group) r q is h = absurd is
simple_keeps (Subsecond point count) r q is h = absurd is
simple_keeps (Zoned field) r q is h = absurd is

simples_keep : (items : List Item) (r q : Progress) → InRow ReadsSimple items r q → Has r.parsed → Has q.parsed
simples_keep [] r q is h = same_progress r q is h
simples_keep (item ∷ items) r q row h = simples_keep items row.between q row.second (simple_keeps item r row.between row.first h)

subsecond_keeps : (point : Bool) (count : ℕ) (r q : Progress) → ReadsSubsecond point count r q → Has r.parsed → Has q.parsed
subsecond_keeps true count r q (inl is) h = put_gives _ r.parsed q.parsed is.given
subsecond_keeps true count r q (inr is) h = same_progress r q is.same h
subsecond_keeps false count r q is h = put_gives _ r.parsed q.parsed is.given

signed_keeps : (form : OffsetForm) (r q : Progress) → ReadsSigned form r q → Has r.parsed → Has q.parsed
signed_keeps form r q is h = put_keeps OffsetFromUtc _ r.parsed q.parsed h is.given

utc_keeps : (named : Bool) (form : OffsetForm) (r q : Progress) → ReadsUtc named r q ⊎ ReadsSigned form r q → Has r.parsed → Has q.parsed
utc_keeps named form r q (inl is) h = put_keeps OffsetFromUtc _ r.parsed q.parsed h is.given
utc_keeps named form r q (inr is) h = signed_keeps form r q is h

offset_keeps : (form : OffsetForm) (r q : Progress) → ReadsOffset form r q → Has r.parsed → Has q.parsed
offset_keeps Plain r q is h = signed_keeps Plain r q is h
offset_keeps Colon r q is h = signed_keeps Colon r q is h
offset_keeps Seconds r q is h = signed_keeps Seconds r q is h
offset_keeps Hours r q is h = signed_keeps Hours r q is h
offset_keeps Loose r q is h = utc_keeps false Loose r q is h

iso_keeps : (r q : Progress) → ReadsIso r q → Has r.parsed → Has q.parsed
iso_keeps r q is h =
    let date = simples_keep (group_items YearMonthDay) r is.behind_date is.date h in
    let between = between_keeps is.behind_date is.before_time is.between date in
    let time = simples_keep (group_items HourMinuteSecond) is.before_time is.behind_time is.time between in
    let fraction = subsecond_keeps true 0 is.behind_time is.before_offset is.fraction time in
    utc_keeps true Colon is.before_offset q is.offset fraction
  where
    between_keeps : (a b : Progress) → ReadsBetween a b → Has a.parsed → Has b.parsed
    between_keeps a b (inl it) g = same_parts a.parsed b.parsed it.same g
    between_keeps a b (inr (inl it)) g = same_parts a.parsed b.parsed it.same g
    between_keeps a b (inr (inr it)) g = same_parts a.parsed b.parsed it.same g

zoned_keeps : (field : ZonedField) (r q : Progress) → ReadsZoned field r q → Has r.parsed → Has q.parsed
zoned_keeps (Offset form) r q is h = offset_keeps form r q is h
zoned_keeps ZoneName r q is h = same_parts r.parsed q.parsed is.same h
zoned_keeps Stamp r q is h = held (put_stamp _ r.parsed) q.parsed (stamp_holds _ r.parsed h) is.given
zoned_keeps Iso8601 r q is h = iso_keeps r q is h

item_keeps : (item : Item) (r q : Progress) → ReadsItem item r q → Has r.parsed → Has q.parsed
item_keeps Empty r q is h = same_progress r q is h
item_keeps (Byte c) r q is h = byte_keeps (is_pattern_blank c) c r q is h
item_keeps (Number field padding) r q is h = number_keeps field _ r.parsed q.parsed h is.given
item_keeps (Word word) r q is h = word_keeps word r q is h
item_keeps (Group group) r q is h = simples_keep (group_items group) r q is h
item_keeps (Subsecond point count) r q is h = subsecond_keeps point count r q is h
item_keeps (Zoned field) r q is h = zoned_keeps field r q is h

row_keeps : (items : List Item) (r q : Progress) → InRow ReadsItem items r q → Has r.parsed → Has q.parsed
row_keeps [] r q is h = same_progress r q is h
row_keeps (item ∷ items) r q row h = row_keeps items row.between q row.second (item_keeps item r row.between row.first h)

-- ---- an item that gives it

number_gives : (field : NumberField) (v : ℤ) (p q : Parsed) → is_fraction field ≡ true → number_put field v p ≡ Ok q → Has q
number_gives Nanosecond v p q sure e = nanosecond_gives v p q e
number_gives Year v p q sure e = absurd (false≢true sure)
number_gives Century v p q sure e = absurd (false≢true sure)
number_gives YearOfCentury v p q sure e = absurd (false≢true sure)
number_gives Quarter v p q sure e = absurd (false≢true sure)
number_gives Month v p q sure e = absurd (false≢true sure)
number_gives Day v p q sure e = absurd (false≢true sure)
number_gives SpacedDay v p q sure e = absurd (false≢true sure)
number_gives DayOfYear v p q sure e = absurd (false≢true sure)
number_gives FromMonday v p q sure e = absurd (false≢true sure)
number_gives FromSunday v p q sure e = absurd (false≢true sure)
number_gives IsoYear v p q sure e = absurd (false≢true sure)
number_gives IsoYearOfCentury v p q sure e = absurd (false≢true sure)
number_gives IsoWeek v p q sure e = absurd (false≢true sure)
number_gives WeekFromSunday v p q sure e = absurd (false≢true sure)
number_gives WeekFromMonday v p q sure e = absurd (false≢true sure)
number_gives Hour v p q sure e = absurd (false≢true sure)
number_gives SpacedHour v p q sure e = absurd (false≢true sure)
number_gives HalfHour v p q sure e = absurd (false≢true sure)
number_gives SpacedHalfHour v p q sure e = absurd (false≢true sure)
number_gives Minute v p q sure e = absurd (false≢true sure)
number_gives Second v p q sure e = absurd (false≢true sure)

item_gives : (item : Item) (r q : Progress) → gives_fraction item ≡ true → ReadsItem item r q → Has q.parsed
item_gives Empty r q sure is = absurd (false≢true sure)
item_gives (Byte c) r q sure is = absurd (false≢true sure)
item_gives (Number field padding) r q sure is = number_gives field _ r.parsed q.parsed sure is.given
item_gives (Word word) r q sure is = absurd (false≢true sure)
item_gives (Group group) r q sure is = absurd (false≢true sure)
item_gives (Subsecond true count) r q sure is = absurd (false≢true sure)
item_gives (Subsecond false count) r q sure is = put_gives _ r.parsed q.parsed is.given
item_gives (Zoned field) r q sure is = absurd (false≢true sure)

-- some item gives it
abbrev some_gives : List Item → Bool
some_gives [] = false
some_gives (item ∷ items) = gives_fraction item || some_gives items

row_gives : (items : List Item) (r q : Progress) → some_gives items ≡ true → InRow ReadsItem items r q → Has q.parsed
row_gives [] r q sure is = absurd (false≢true sure)
row_gives (item ∷ items) r q sure row = by_item (λ h. row_gives items row.between q h row.second) (gives_fraction item) refl
  where
    by_item : (some_gives items ≡ true → Has q.parsed) → (b : Bool) → gives_fraction item ≡ b → Has q.parsed
    by_item behind true e = row_keeps items row.between q row.second (item_gives item r row.between e row.first)
    by_item behind false e = behind (sym (ap (λ (a : Bool). a || some_gives items) e) ∙ sure)

some_before : (item : Item) (items : List Item) → some_gives (item_before item items) ≡ (gives_fraction item || some_gives items)
some_before Empty items = refl
some_before (Byte c) items = refl
some_before (Number field padding) items = refl
some_before (Word word) items = refl
some_before (Group group) items = refl
some_before (Subsecond point count) items = refl
some_before (Zoned field) items = refl

abbrev IsToldByItems : List ℕ → Type 0
IsToldByItems bytes = (s : State) → has_item_of OfFraction s bytes ≡ some_gives (items_from s bytes)

told_step : (c : ℕ) (bytes : List ℕ) → IsToldByItems bytes → (s : State) (o : Option (State × Item)) → pattern_step s c ≡ o
    → has_item_of OfFraction s (c ∷ bytes) ≡ some_gives (items_from s (c ∷ bytes))
told_step c bytes rest s None e =
    has_item_of-none OfFraction s c bytes e ∙ sym (ap (λ (l : List Item). some_gives l) (items_from-none s c bytes e))
told_step c bytes rest s (Some next) e =
    has_item_of-more OfFraction s c bytes next e
    ∙ ap (λ (b : Bool). gives_fraction next.1 || b) (rest next.0)
    ∙ sym (some_before next.1 (items_from next.0 bytes))
    ∙ sym (ap (λ (l : List Item). some_gives l) (items_from-more s c bytes next e))

told_by_items : (bytes : List ℕ) → IsToldByItems bytes
told_by_items [] s = has_item_of-nothing OfFraction s ∙ sym (ap (λ (l : List Item). some_gives l) (items_from-nothing s))
told_by_items (c ∷ bytes) s = told_step c bytes (told_by_items bytes) s (pattern_step s c) refl

front_has : (bytes text : List ℕ) (p : Parsed) (rest : List ℕ) → has_fraction bytes ≡ true → ReadsFront (pattern_items bytes) text p rest → Has p
front_has bytes text p rest sure row = row_gives (pattern_items bytes) _ _ (sym (told_by_items bytes Outside) ∙ sure) row

-- ---- what is named

-- the parts are those that the pattern names, and have the fraction that each text gives
record Sure (p : Parsed) (bytes : List ℕ) : Type 0 where
  like : Like p (named_parts bytes)
  has : has_fraction bytes ≡ true → Has p

front_sure : (bytes text : List ℕ) (p : Parsed) (rest : List ℕ) → ReadsFront (pattern_items bytes) text p rest → Sure p bytes
front_sure bytes text p rest row = record { like = front_like bytes text rest p ((front_exact bytes text p rest).1 row); has = λ sure. front_has bytes text p rest sure row }

text_sure : (bytes text : List ℕ) (p : Parsed) → text_read bytes text ≡ Ok p → Sure p bytes
text_sure bytes text p is = record { like = read_like bytes text p is; has = λ sure. front_has bytes text p [] sure ((text_exact bytes text p).0 is) }

sure_date_by : (b : Bool) (p : Parsed) → names_date (with_sure_fraction b p) ≡ names_date p
unfolding names_date names_calendar names_ordinal names_week names_year_week
sure_date_by true p = refl
sure_date_by false p = refl

-- a date has no fraction
pub sure_date : (bytes : List ℕ) → names_date (sure_parts bytes) ≡ names_date (named_parts bytes)
sure_date bytes = sure_date_by (has_fraction bytes) (named_parts bytes)

date_named : (p : Parsed) (bytes : List ℕ) → Sure p bytes → names_date p ≡ names_date (sure_parts bytes)
date_named p bytes sure = date_of_like p (named_parts bytes) sure.like ∙ sym (sure_date bytes)

second_true : (s n t m : Option ℤ) → is_present s ≡ is_present t → is_present n ≡ true → is_enough s n ≡ true → is_enough t m ≡ true
second_true s n (Some w) m e given named = refl
second_true (Some v) n None m e given named = absurd (true≢false e)
second_true None n None m e given named = absurd (false≢true (sym (ap (λ (b : Bool). if b then false else true) given) ∙ named))

second_false : (t : Option ℤ) → is_enough t None ≡ true
second_false None = refl
second_false (Some w) = refl

second_sure : (b : Bool) (p q : Parsed) → is_present p.second ≡ is_present q.second → (b ≡ true → Has p) → names_second p ≡ true
    → names_second (with_sure_fraction b q) ≡ true
second_sure true p q e has named = second_true p.second p.nanosecond q.second q.nanosecond e (has refl) named
second_sure false p q e has named = second_false q.second

pick : (a b c x y : Bool) → (y ≡ true → x ≡ true) → ((a && b) && (c && y)) ≡ (((a && b) && (c && x)) && y)
pick false b c x y h = refl
pick true false c x y h = refl
pick true true false x y h = refl
pick true true true x true h = sym (ap (λ (z : Bool). z && true) (h refl))
pick true true true true false h = refl
pick true true true false false h = refl

time_with : (p q : Parsed) (x : Bool) → Like p q → (names_second p ≡ true → x ≡ true)
    → ((is_present p.hour_div_12 && is_present p.hour_mod_12) && (is_present p.minute && names_second p))
    ≡ (((is_present q.hour_div_12 && is_present q.hour_mod_12) && (is_present q.minute && x)) && names_second p)
time_with p q x e h =
    let half = same_given p.hour_div_12 q.hour_div_12 (ap (λ (t : Parsed). t.hour_div_12) e.same) in
    let hour = same_given p.hour_mod_12 q.hour_mod_12 (ap (λ (t : Parsed). t.hour_mod_12) e.same) in
    let minute = same_given p.minute q.minute (ap (λ (t : Parsed). t.minute) e.same) in
    ap (λ (b : Bool). (b && is_present p.hour_mod_12) && (is_present p.minute && names_second p)) half
    ∙ ap (λ (b : Bool). (is_present q.hour_div_12 && b) && (is_present p.minute && names_second p)) hour
    ∙ ap (λ (b : Bool). (is_present q.hour_div_12 && is_present q.hour_mod_12) && (b && names_second p)) minute
    ∙ pick (is_present q.hour_div_12) (is_present q.hour_mod_12) (is_present q.minute) x (names_second p) h

time_by : (b : Bool) (p q : Parsed) → Like p q → (b ≡ true → Has p) → names_time p ≡ (names_time (with_sure_fraction b q) && names_second p)
unfolding names_time
time_by true p q e has =
    time_with p q (names_second (with_sure_fraction true q)) e (second_sure true p q (same_given p.second q.second (ap (λ (t : Parsed). t.second) e.same)) has)
time_by false p q e has =
    time_with p q (names_second (with_sure_fraction false q)) e (second_sure false p q (same_given p.second q.second (ap (λ (t : Parsed). t.second) e.same)) has)

-- a time of day is named where one may be, but by a fraction with no second before it
time_named : (p : Parsed) (bytes : List ℕ) → Sure p bytes → names_time p ≡ (names_time (sure_parts bytes) && names_second p)
time_named p bytes sure = time_by (has_fraction bytes) p (named_parts bytes) sure.like sure.has

no_time : (p : Parsed) (bytes : List ℕ) → Sure p bytes → names_time (sure_parts bytes) ≡ false → names_time p ≡ false
no_time p bytes sure none = time_named p bytes sure ∙ ap (λ (b : Bool). b && names_second p) none

and_true : (b : Bool) → (b && true) ≡ b
and_true true = refl
and_true false = refl

some_time : (p : Parsed) (bytes : List ℕ) → Sure p bytes → names_second p ≡ true → names_time p ≡ names_time (sure_parts bytes)
some_time p bytes sure second =
    time_named p bytes sure ∙ ap (λ (b : Bool). names_time (sure_parts bytes) && b) second ∙ and_true (names_time (sure_parts bytes))

stamp_sure_by : (b : Bool) (q : Parsed) → is_present (with_sure_fraction b q).timestamp ≡ is_present q.timestamp
stamp_sure_by true q = refl
stamp_sure_by false q = refl

stamp_named : (p : Parsed) (bytes : List ℕ) → Sure p bytes → is_present p.timestamp ≡ is_present (sure_parts bytes).timestamp
stamp_named p bytes sure = stamp_of_like p (named_parts bytes) sure.like ∙ sym (stamp_sure_by (has_fraction bytes) (named_parts bytes))

offset_sure_by : (b : Bool) (q : Parsed) → is_present (with_sure_fraction b q).offset ≡ is_present q.offset
offset_sure_by true q = refl
offset_sure_by false q = refl

offset_named : (p : Parsed) (bytes : List ℕ) → Sure p bytes → is_present p.offset ≡ is_present (sure_parts bytes).offset
offset_named p bytes sure = offset_of_like p (named_parts bytes) sure.like ∙ sym (offset_sure_by (has_fraction bytes) (named_parts bytes))

none_of : (s t a b c d : Bool) → s ≡ t → (c ≡ false → a ≡ false) → (d ≡ false → b ≡ false) → (if t then true else c && d) ≡ false
    → (if s then true else a && b) ≡ false
none_of s true a b c d e first second none = absurd (true≢false none)
none_of true false a b c d e first second none = absurd (true≢false e)
none_of false false a b false d e first second none = ap (λ (x : Bool). x && b) (first refl)
none_of false false true b true d e first second none = second none
none_of false false false b true d e first second none = refl

no_moment : (p : Parsed) (bytes : List ℕ) → Sure p bytes → names_moment (sure_parts bytes) ≡ false → names_moment p ≡ false
unfolding names_moment
no_moment p bytes sure none =
    let q = sure_parts bytes in
    none_of (is_present p.timestamp) (is_present q.timestamp) (names_date p) (names_time p) (names_date q) (names_time q)
    (stamp_named p bytes sure) (λ h. date_named p bytes sure ∙ h) (λ h. no_time p bytes sure h) none

some_moment : (p : Parsed) (bytes : List ℕ) → Sure p bytes → names_second p ≡ true → names_moment p ≡ names_moment (sure_parts bytes)
unfolding names_moment
some_moment p bytes sure second =
    let q = sure_parts bytes in
    ap (λ (b : Bool). if b then true else names_date p && names_time p) (stamp_named p bytes sure)
    ∙ ap (λ (b : Bool). if is_present q.timestamp then true else b && names_time p) (date_named p bytes sure)
    ∙ ap (λ (b : Bool). if is_present q.timestamp then true else names_date q && b) (some_time p bytes sure second)

no_zoned : (p : Parsed) (bytes : List ℕ) → Sure p bytes → names_zoned (sure_parts bytes) ≡ false → names_zoned p ≡ false
unfolding names_zoned
no_zoned p bytes sure none =
    let q = sure_parts bytes in
    none_of (is_present p.timestamp) (is_present q.timestamp) (names_moment p) (is_present p.offset) (names_moment q) (is_present q.offset)
    (stamp_named p bytes sure) (λ h. no_moment p bytes sure h) (λ h. offset_named p bytes sure ∙ h) none

some_zoned : (p : Parsed) (bytes : List ℕ) → Sure p bytes → names_second p ≡ true → names_zoned p ≡ names_zoned (sure_parts bytes)
unfolding names_zoned
some_zoned p bytes sure second =
    let q = sure_parts bytes in
    ap (λ (b : Bool). if b then true else names_moment p && is_present p.offset) (stamp_named p bytes sure)
    ∙ ap (λ (b : Bool). if is_present q.timestamp then true else b && is_present p.offset) (some_moment p bytes sure second)
    ∙ ap (λ (b : Bool). if is_present q.timestamp then true else names_moment q && b) (offset_named p bytes sure)

-- ---- of a text

pub no_text_date : (bytes text : List ℕ) (p : Parsed) → names_date (sure_parts bytes) ≡ false → text_read bytes text ≡ Ok p → names_date p ≡ false
no_text_date bytes text p none is = date_named p bytes (text_sure bytes text p is) ∙ none

pub no_text_time : (bytes text : List ℕ) (p : Parsed) → names_time (sure_parts bytes) ≡ false → text_read bytes text ≡ Ok p → names_time p ≡ false
no_text_time bytes text p none is = no_time p bytes (text_sure bytes text p is) none

pub no_text_moment : (bytes text : List ℕ) (p : Parsed) → names_moment (sure_parts bytes) ≡ false → text_read bytes text ≡ Ok p → names_moment p ≡ false
no_text_moment bytes text p none is = no_moment p bytes (text_sure bytes text p is) none

pub no_text_zoned : (bytes text : List ℕ) (p : Parsed) → names_zoned (sure_parts bytes) ≡ false → text_read bytes text ≡ Ok p → names_zoned p ≡ false
no_text_zoned bytes text p none is = no_zoned p bytes (text_sure bytes text p is) none

pub each_text_date : (bytes text : List ℕ) (p : Parsed) → text_read bytes text ≡ Ok p → names_date p ≡ names_date (sure_parts bytes)
each_text_date bytes text p is = date_named p bytes (text_sure bytes text p is)

pub each_text_time : (bytes text : List ℕ) (p : Parsed) → text_read bytes text ≡ Ok p → names_second p ≡ true → names_time p ≡ names_time (sure_parts bytes)
each_text_time bytes text p is second = some_time p bytes (text_sure bytes text p is) second

pub each_text_moment : (bytes text : List ℕ) (p : Parsed) → text_read bytes text ≡ Ok p → names_second p ≡ true
    → names_moment p ≡ names_moment (sure_parts bytes)
each_text_moment bytes text p is second = some_moment p bytes (text_sure bytes text p is) second

pub each_text_zoned : (bytes text : List ℕ) (p : Parsed) → text_read bytes text ≡ Ok p → names_second p ≡ true
    → names_zoned p ≡ names_zoned (sure_parts bytes)
each_text_zoned bytes text p is second = some_zoned p bytes (text_sure bytes text p is) second

-- ---- no text is of a value that the pattern does not name

unnamed : (b : Bool) → b ≡ true → b ≡ false → ⊥
unnamed b named none = true≢false (sym named ∙ none)

pub no_date : (bytes text : List ℕ) (n : ℤ) → names_date (sure_parts bytes) ≡ false → IsDateBy bytes text n → ⊥
no_date bytes text n none is = unnamed (names_date is.parts) is.named (no_text_date bytes text is.parts none is.read)

pub no_time_of_day : (bytes text : List ℕ) (t : TimeOfDay) → names_time (sure_parts bytes) ≡ false → IsTimeBy bytes text t → ⊥
no_time_of_day bytes text t none is = unnamed (names_time is.parts) is.named (no_text_time bytes text is.parts none is.read)

pub no_date_time : (bytes text : List ℕ) (m : Moment) → names_moment (sure_parts bytes) ≡ false → IsMomentBy bytes text m → ⊥
no_date_time bytes text m none is = unnamed (names_moment is.parts) is.named (no_text_moment bytes text is.parts none is.read)

pub no_zoned_one : (bytes text : List ℕ) (m : Moment) (x : ℤ) → names_zoned (sure_parts bytes) ≡ false → IsZonedBy bytes text m x → ⊥
no_zoned_one bytes text m x none is = unnamed (names_zoned is.parts) is.named (no_text_zoned bytes text is.parts none is.read)

pub no_date_in_front : (bytes text : List ℕ) (n : ℤ) (rest : List ℕ) → names_date (sure_parts bytes) ≡ false → IsDateInFront bytes text n rest → ⊥
no_date_in_front bytes text n rest none is =
    unnamed (names_date is.parts) is.named (date_named is.parts bytes (front_sure bytes text is.parts rest is.read) ∙ none)

pub no_time_in_front : (bytes text : List ℕ) (t : TimeOfDay) (rest : List ℕ) → names_time (sure_parts bytes) ≡ false → IsTimeInFront bytes text t rest → ⊥
no_time_in_front bytes text t rest none is =
    unnamed (names_time is.parts) is.named (no_time is.parts bytes (front_sure bytes text is.parts rest is.read) none)

pub no_date_time_in_front : (bytes text : List ℕ) (m : Moment) (rest : List ℕ) → names_moment (sure_parts bytes) ≡ false
    → IsMomentInFront bytes text m rest → ⊥
no_date_time_in_front bytes text m rest none is =
    unnamed (names_moment is.parts) is.named (no_moment is.parts bytes (front_sure bytes text is.parts rest is.read) none)

pub no_zoned_in_front : (bytes text : List ℕ) (m : Moment) (x : ℤ) (rest : List ℕ) → names_zoned (sure_parts bytes) ≡ false
    → IsZonedInFront bytes text m x rest → ⊥
no_zoned_in_front bytes text m x rest none is =
    unnamed (names_zoned is.parts) is.named (no_zoned is.parts bytes (front_sure bytes text is.parts rest is.read) none)
