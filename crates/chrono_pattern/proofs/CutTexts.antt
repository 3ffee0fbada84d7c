-- A pattern writes the same of a date-time without the digits of its fraction that the pattern does not write.
use Rattle.std.proofs.Common.{◌≡◌, ℕ, zero, suc, ◌+◌, ◌-◌, ◌/◌, ◌%◌, ◌^◌, ◌<◌, ◌≤◌, ◌==◌, max, min, Bool, true, false, ◌&&◌, if◌then◌else◌, nat_lt, List, [], ◌∷◌, ◌++◌, codes, take, Option, Some, None, ℤ, pos, refl, ap, sym, ◌∙◌, arith}
use Rattle.std.proofs.lemmas.Bool.Decides.{nat_tests}
use Rattle.chrono_text.proofs.Decimals.{digits_cut}
use Rattle.chrono_text.proofs.FractionLemmas.{length-all_digits}
use Rattle.chrono_text.proofs.TextLemmas.{front_is}
use Rattle.chrono_text.specs.Text.{all_digits}
use Rattle.chrono_datetime.specs.Moment.{Moment, moment}
use Rattle.chrono_datetime.specs.Time.{TimeOfDay, second_of}
use Rattle.chrono_pattern.specs.CutFractions.{as_written, cut_time, places_from, places_written}
use Rattle.chrono_pattern.specs.DateParts.{is_present}
use Rattle.chrono_pattern.specs.NamedParts.{with_group, with_named, with_number_field, word_part}
use Rattle.chrono_pattern.specs.Parts.{no_parts}
use Rattle.chrono_pattern.specs.Patterns.{text_at_offset, text_from, text_of_item}
use Rattle.chrono_pattern.specs.PatternSteps.{pattern_step}
use Rattle.chrono_pattern.specs.ReadBack.{if_named, parts_of}
use Rattle.chrono_pattern.specs.Subseconds.{fraction_with, nine_digits, subsecond_of}
use Rattle.chrono_pattern.specs.declared.item.GroupField.{GroupField}
use Rattle.chrono_pattern.specs.declared.item.GroupField.TheVariants.{YearMonthDay, MonthDayYear, HourMinute, HourMinuteSecond, HalfClock, DayMonthYear, DateAndTime}
use Rattle.chrono_pattern.specs.declared.item.Item.{Item}
use Rattle.chrono_pattern.specs.declared.item.Item.TheVariants.{Empty, Byte, Number, Word, Group, Subsecond, Zoned}
use Rattle.chrono_pattern.specs.declared.item.NumberField.{NumberField}
use Rattle.chrono_pattern.specs.declared.item.NumberField.TheVariants.{Year, Century, YearOfCentury, Quarter, Month, Day, SpacedDay, DayOfYear, FromMonday, FromSunday, IsoYear, IsoYearOfCentury, IsoWeek, WeekFromSunday, WeekFromMonday, Hour, SpacedHour, HalfHour, SpacedHalfHour, Minute, Second, Nanosecond}
use Rattle.chrono_pattern.specs.declared.item.Padding.{Padding}
use Rattle.chrono_pattern.specs.declared.item.State.{State}
use Rattle.chrono_pattern.specs.declared.item.State.TheVariants.{Outside}
use Rattle.chrono_pattern.specs.declared.item.WordField.{WordField}
use Rattle.chrono_pattern.specs.declared.item.WordField.TheVariants.{MonthName, MonthLetters, WeekdayName, WeekdayLetters, Half, SmallHalf}
use Rattle.chrono_pattern.specs.declared.item.ZonedField.TheVariants.{Offset, ZoneName, Stamp, Iso8601}
use Rattle.chrono_pattern.specs.declared.parsed.Parsed.{Parsed}
use Rattle.chrono_pattern.proofs.BackAgain.{Same, absent_same, group_same, number_same, word_same}
use Rattle.chrono_pattern.proofs.BackSubseconds.{asked, below, fraction_of, nine_same}
use Rattle.chrono_pattern.proofs.BackStarts.{some_count}
use Rattle.chrono_pattern.proofs.PatternLemmas.{text_from-more, text_from-none, text_from-nothing}
use Rattle.chrono_pattern.proofs.PieceExact.{taken_again}

-- ---- a fraction that is cut

-- all nine digits are left
uncut : (k F : ℕ) → 9 ≤ k → F - F % 10 ^ (9 - k) ≡ F
uncut k F many =
    let none : 9 - k ≡ 0 = omega (arith, many) in
    ap (λ (j : ℕ). F - F % 10 ^ j) none ∙ omega arith

record IsCut (k F : ℕ) : Type 0 where
  whole : (F - F % 10 ^ (9 - k)) / 10 ^ 9 ≡ F / 10 ^ 9
  front : (F - F % 10 ^ (9 - k)) % 10 ^ 9 / 10 ^ (9 - k) ≡ F % 10 ^ 9 / 10 ^ (9 - k)

cut_is : (k F : ℕ) → IsCut k F
cut_is zero F = record { whole = omega arith; front = omega arith }
cut_is (suc zero) F = record { whole = omega arith; front = omega arith }
cut_is (suc (suc zero)) F = record { whole = omega arith; front = omega arith }
cut_is (suc (suc (suc zero))) F = record { whole = omega arith; front = omega arith }
cut_is (suc (suc (suc (suc zero)))) F = record { whole = omega arith; front = omega arith }
cut_is (suc (suc (suc (suc (suc zero))))) F = record { whole = omega arith; front = omega arith }
cut_is (suc (suc (suc (suc (suc (suc zero)))))) F = record { whole = omega arith; front = omega arith }
cut_is (suc (suc (suc (suc (suc (suc (suc zero))))))) F = record { whole = omega arith; front = omega arith }
cut_is (suc (suc (suc (suc (suc (suc (suc (suc zero)))))))) F = record { whole = omega arith; front = omega arith }
cut_is (suc (suc (suc (suc (suc (suc (suc (suc (suc k))))))))) F =
    let same = uncut (suc (suc (suc (suc (suc (suc (suc (suc (suc k))))))))) F (omega arith) in
    record { whole = ap (λ (n : ℕ). n / 10 ^ 9) same; front = ap (λ (n : ℕ). n % 10 ^ 9 / 10 ^ (9 - suc (suc (suc (suc (suc (suc (suc (suc (suc k)))))))))) same }

uncut_time : (k : ℕ) (t : TimeOfDay) → 9 ≤ k → cut_time k t ≡ t
uncut_time k t many = ap (λ (f : ℕ). record t { fraction = f }) (uncut k t.fraction many)

-- ---- its digits

front_digits : (k b f : ℕ) → k + b ≡ 9 → f < 10 ^ 9 → take k (all_digits 9 f) ≡ all_digits k (f / 10 ^ b)
front_digits k b f sum small =
    let front = all_digits k (f / 10 ^ b) in
    let back = all_digits b (f % 10 ^ b) in
    let fits : f < 10 ^ (k + b) = ap-below in
    ap (λ (n : ℕ). take k (all_digits n f)) (sym sum)
    ∙ ap (λ (l : List ℕ). take k l) (digits_cut k b f (omega (arith, sum)) fits)
    ∙ (front_is (front ++ back) front back k (length-all_digits k (f / 10 ^ b)) refl).0
  where
    ap-below : f < 10 ^ (k + b)
    ap-below = rw sum small

same_front : (k : ℕ) (t : TimeOfDay) → k ≤ 9 → take k (nine_digits (fraction_of (cut_time k t))) ≡ take k (nine_digits (fraction_of t))
same_front k t few =
    let b = 9 - k in
    let sum : k + b ≡ 9 = omega (arith, few) in
    let cut = fraction_of (cut_time k t) in
    ap (λ (l : List ℕ). take k l) (nine_same cut (below (cut_time k t)))
    ∙ front_digits k b cut sum (below (cut_time k t))
    ∙ ap (λ (n : ℕ). all_digits k n) (cut_is k t.fraction).front
    ∙ sym (front_digits k b (fraction_of t) sum (below t))
    ∙ sym (ap (λ (l : List ℕ). take k l) (nine_same (fraction_of t) (below t)))

first_digits : (j k : ℕ) (t : TimeOfDay) → j ≤ k → k ≤ 9 → take j (nine_digits (fraction_of (cut_time k t))) ≡ take j (nine_digits (fraction_of t))
first_digits j k t less few =
    sym (taken_again (nine_digits (fraction_of (cut_time k t))) k j less)
    ∙ ap (λ (l : List ℕ). take j l) (same_front k t few)
    ∙ taken_again (nine_digits (fraction_of t)) k j less

-- ---- an item that writes it

asked_cut : (point : Bool) (count k : ℕ) (t : TimeOfDay) → 0 < count → min count 9 ≤ k → k ≤ 9 → subsecond_of point count (cut_time k t) ≡ subsecond_of point count t
unfolding subsecond_of
asked_cut point count k t some less few =
    let j = min count 9 in
    let cut = fraction_of (cut_time k t) in
    ap (λ (i : ℕ). fraction_with point i cut) (asked count cut some)
    ∙ ap (λ (l : List ℕ). (if point && nat_lt 0 j then codes "." else []) ++ l) (first_digits j k t less few)
    ∙ sym (ap (λ (i : ℕ). fraction_with point i (fraction_of t)) (asked count (fraction_of t) some))

subsecond_cut : (point : Bool) (count k : ℕ) (t : TimeOfDay) → (if count == 0 then 9 else min count 9) ≤ k → subsecond_of point count (cut_time k t) ≡ subsecond_of point count t
subsecond_cut point count k t enough = by_size (nat_lt k 9) refl
  where
    whole : 9 ≤ k → subsecond_of point count (cut_time k t) ≡ subsecond_of point count t
    whole many = ap (λ (u : TimeOfDay). subsecond_of point count u) (uncut_time k t many)

    by_count : k < 9 → (z : Bool) → (count == 0) ≡ z → (if z then 9 else min count 9) ≤ k → subsecond_of point count (cut_time k t) ≡ subsecond_of point count t
    by_count less true e h = absurd (omega (arith, less, h))
    by_count less false e h = asked_cut point count k t (some_count count e) h (omega (arith, less))

    by_size : (b : Bool) → nat_lt k 9 ≡ b → subsecond_of point count (cut_time k t) ≡ subsecond_of point count t
    by_size true e = by_count (grind (arith, nat_tests, e)) (count == 0) refl enough
    by_size false e = whole (grind (arith, nat_tests, e))

-- ---- the other items

-- the parts are the same but for the fraction
cut_same : (q : Parsed) (m : Moment) (x : ℤ) (k : ℕ) → is_present q.nanosecond ≡ false → Same q m x (moment m.date (cut_time k m.time)) x
cut_same q m x k none =
    let t = cut_time k m.time in
    ap (λ (o : Option ℤ). record (parts_of q m x) { second = o })
    (ap (λ (n : ℕ). if_named q.second (pos (second_of m.time + n))) (sym (cut_is k m.time.fraction).whole))
    ∙ ap (λ (o : Option ℤ). record (parts_of q (moment m.date t) x) { nanosecond = o })
    (absent_same q.nanosecond (pos (fraction_of m.time)) (pos (fraction_of t)) none)

number_cut : (field : NumberField) (padding : Padding) (m : Moment) (x : ℤ) (k : ℕ) → is_present (with_number_field field no_parts).nanosecond ≡ false
    → text_of_item (Number field padding) m x ≡ text_of_item (Number field padding) (moment m.date (cut_time k m.time)) x
number_cut field padding m x k none =
    number_same field padding no_parts m x (moment m.date (cut_time k m.time)) x (cut_same (with_number_field field no_parts) m x k none)

word_cut : (word : WordField) (m : Moment) (x : ℤ) (k : ℕ) → is_present (with_named (word_part word) no_parts).nanosecond ≡ false
    → text_of_item (Word word) m x ≡ text_of_item (Word word) (moment m.date (cut_time k m.time)) x
word_cut word m x k none = word_same word no_parts m x (moment m.date (cut_time k m.time)) x (cut_same (with_named (word_part word) no_parts) m x k none)

group_cut : (g : GroupField) (m : Moment) (x : ℤ) (k : ℕ) → is_present (with_group g no_parts).nanosecond ≡ false
    → text_of_item (Group g) m x ≡ text_of_item (Group g) (moment m.date (cut_time k m.time)) x
group_cut g m x k none = group_same g no_parts m x (moment m.date (cut_time k m.time)) x (cut_same (with_group g no_parts) m x k none)

no_fraction : (g : GroupField) → is_present (with_group g no_parts).nanosecond ≡ false
unfolding with_group
no_fraction YearMonthDay = refl
no_fraction MonthDayYear = refl
no_fraction HourMinute = refl
no_fraction HourMinuteSecond = refl
no_fraction HalfClock = refl
no_fraction DayMonthYear = refl
no_fraction DateAndTime = refl

abbrev CutSame : Item → Moment → ℤ → ℕ → Type 0
CutSame item m x k = text_of_item item m x ≡ text_of_item item (moment m.date (cut_time k m.time)) x

whole_same : (item : Item) (m : Moment) (x : ℤ) (k : ℕ) → 9 ≤ k → CutSame item m x k
whole_same item m x k many = ap (λ (t : TimeOfDay). text_of_item item (moment m.date t) x) (sym (uncut_time k m.time many))

any_number_cut : (field : NumberField) (padding : Padding) (m : Moment) (x : ℤ) (k : ℕ) → places_written (Number field padding) ≤ k → CutSame (Number field padding) m x k
any_number_cut Year padding m x k enough = number_cut Year padding m x k refl
any_number_cut Century padding m x k enough = number_cut Century padding m x k refl
any_number_cut YearOfCentury padding m x k enough = number_cut YearOfCentury padding m x k refl
any_number_cut Quarter padding m x k enough = number_cut Quarter padding m x k refl
any_number_cut Month padding m x k enough = number_cut Month padding m x k refl
any_number_cut Day padding m x k enough = number_cut Day padding m x k refl
any_number_cut SpacedDay padding m x k enough = number_cut SpacedDay padding m x k refl
any_number_cut DayOfYear padding m x k enough = number_cut DayOfYear padding m x k refl
any_number_cut FromMonday padding m x k enough = number_cut FromMonday padding m x k refl
any_number_cut FromSunday padding m x k enough = number_cut FromSunday padding m x k refl
any_number_cut IsoYear padding m x k enough = number_cut IsoYear padding m x k refl
any_number_cut IsoYearOfCentury padding m x k enough = number_cut IsoYearOfCentury padding m x k refl
any_number_cut IsoWeek padding m x k enough = number_cut IsoWeek padding m x k refl
any_number_cut WeekFromSunday padding m x k enough = number_cut WeekFromSunday padding m x k refl
any_number_cut WeekFromMonday padding m x k enough = number_cut WeekFromMonday padding m x k refl
any_number_cut Hour padding m x k enough = number_cut Hour padding m x k refl
any_number_cut SpacedHour padding m x k enough = number_cut SpacedHour padding m x k refl
any_number_cut HalfHour padding m x k enough = number_cut HalfHour padding m x k refl
any_number_cut SpacedHalfHour padding m x k enough = number_cut SpacedHalfHour padding m x k refl
any_number_cut Minute padding m x k enough = number_cut Minute padding m x k refl
any_number_cut Second padding m x k enough = number_cut Second padding m x k refl
any_number_cut Nanosecond padding m x k enough = whole_same (Number Nanosecond padding) m x k enough

any_word_cut : (word : WordField) (m : Moment) (x : ℤ) (k : ℕ) → CutSame (Word word) m x k
any_word_cut MonthName m x k = word_cut MonthName m x k refl
any_word_cut MonthLetters m x k = word_cut MonthLetters m x k refl
any_word_cut WeekdayName m x k = word_cut WeekdayName m x k refl
any_word_cut WeekdayLetters m x k = word_cut WeekdayLetters m x k refl
any_word_cut Half m x k = word_cut Half m x k refl
any_word_cut SmallHalf m x k = word_cut SmallHalf m x k refl

item_cut : (item : Item) (m : Moment) (x : ℤ) (k : ℕ) → places_written item ≤ k → CutSame item m x k
item_cut Empty m x k enough = refl
item_cut (Byte c) m x k enough = refl
item_cut (Number field padding) m x k enough = any_number_cut field padding m x k enough
item_cut (Word word) m x k enough = any_word_cut word m x k
item_cut (Group g) m x k enough = group_cut g m x k (no_fraction g)
item_cut (Subsecond point count) m x k enough = sym (subsecond_cut point count k m.time enough)
item_cut (Zoned (Offset form)) m x k enough = refl
item_cut (Zoned ZoneName) m x k enough = refl
item_cut (Zoned Stamp) m x k enough = refl
item_cut (Zoned Iso8601) m x k enough = whole_same (Zoned Iso8601) m x k enough

-- ---- a pattern

places-more : (s : State) (c : ℕ) (bytes : List ℕ) (next : State × Item) → pattern_step s c ≡ Some next
    → places_from s (c ∷ bytes) ≡ max (places_written next.1) (places_from next.0 bytes)
unfolding places_from
places-more s c bytes next e =
    ap (λ (o : Option (State × Item)). elim o as (λ _. ℕ) [ None ↦ 0 | Some n ↦ max (places_written n.1) (places_from n.0 bytes) ]) e

abbrev FromSame : List ℕ → Moment → ℤ → ℕ → Type 0
FromSame bytes m x k = (s : State) → places_from s bytes ≤ k → text_from s bytes m x ≡ text_from s bytes (moment m.date (cut_time k m.time)) x

step_cut : (c : ℕ) (bytes : List ℕ) (m : Moment) (x : ℤ) (k : ℕ) → FromSame bytes m x k → (s : State) (o : Option (State × Item)) → pattern_step s c ≡ o
    → places_from s (c ∷ bytes) ≤ k → text_from s (c ∷ bytes) m x ≡ text_from s (c ∷ bytes) (moment m.date (cut_time k m.time)) x
step_cut c bytes m x k rest s None e enough = text_from-none s c bytes m x e ∙ sym (text_from-none s c bytes (moment m.date (cut_time k m.time)) x e)
step_cut c bytes m x k rest s (Some next) e enough =
    let cut = moment m.date (cut_time k m.time) in
    let most = places-more s c bytes next e in
    let first : places_written next.1 ≤ k = omega (arith, enough, most) in
    let behind : places_from next.0 bytes ≤ k = omega (arith, enough, most) in
    text_from-more s c bytes m x next e
    ∙ ap (λ (l : List ℕ). l ++ text_from next.0 bytes m x) (item_cut next.1 m x k first)
    ∙ ap (λ (l : List ℕ). text_of_item next.1 cut x ++ l) (rest next.0 behind)
    ∙ sym (text_from-more s c bytes cut x next e)

from_cut : (bytes : List ℕ) (m : Moment) (x : ℤ) (k : ℕ) → FromSame bytes m x k
from_cut [] m x k s enough = text_from-nothing s m x ∙ sym (text_from-nothing s (moment m.date (cut_time k m.time)) x)
from_cut (c ∷ bytes) m x k s enough = step_cut c bytes m x k (from_cut bytes m x k) s (pattern_step s c) refl enough

-- the pattern writes the same of a date-time with the digits that it writes
pub cut_text : (bytes : List ℕ) (m : Moment) (x : ℤ) → text_at_offset bytes m x ≡ text_at_offset bytes (as_written bytes m) x
cut_text bytes m x = from_cut bytes m x (places_from Outside bytes) Outside (omega arith)
