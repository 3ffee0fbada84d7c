-- What an item begins with, where a bar says what may not stand there.
use Rattle.std.proofs.Common.{◌≡◌, ◌≢◌, ℕ, suc, ◌+◌, ◌^◌, ◌<◌, ◌==◌, min, Bool, true, false, if◌then◌else◌, List, [], ◌∷◌, ◌++◌, append_assoc, codes, drop, length, ℤ, pos, negsuc, refl, ap, sym, subst, ◌∙◌, arith}
use Rattle.std.proofs.lemmas.Bool.{and_parts, false≢true}
use Rattle.std.proofs.lemmas.Bool.Decides.{nat_tests}
use Rattle.std.specs.Char.{is_ascii_digit}
use Rattle.std.specs.Fmt.{decimal}
use Rattle.std.specs.List.{prefix_len}
use Rattle.std.specs.Int.RustNames.{int_lt}
use Rattle.std.specs.Prelude.{unsigned_abs, ◌-ℤ◌}
use Rattle.chrono_text.proofs.TextLemmas.{is_negative-pos}
use Rattle.chrono_datetime.specs.Days.{year_of}
use Rattle.chrono_datetime.specs.Moment.{Moment}
use Rattle.chrono_datetime.specs.Time.{IsTime}
use Rattle.chrono_datetime.specs.Weeks.{iso_year_of}
use Rattle.chrono_instant.specs.Instants.{epoch_second}
use Rattle.chrono_pattern.specs.Groups.{group_text, usual_text}
use Rattle.chrono_pattern.specs.Kept.{keeps_group, keeps_item, keeps_number, keeps_stamp, keeps_subsecond, keeps_year}
use Rattle.chrono_pattern.specs.Numbers.{field_text, least_digits, padded, padding_of, sign_of, size_of}
use Rattle.chrono_pattern.specs.OffsetReads.{behind_colons}
use Rattle.chrono_pattern.specs.Patterns.{text_of_item}
use Rattle.chrono_pattern.specs.Progress.{behind_blanks, class_len, is_of, is_pattern_blank}
use Rattle.chrono_pattern.specs.Separable.{bar_behind, bar_of_byte, bar_of_subsecond, takes_byte, takes_digit, takes_few, takes_group, takes_item, takes_number, takes_point, takes_subsecond}
use Rattle.chrono_pattern.specs.Subseconds.{digit_count, fraction_with, subsecond_of}
use Rattle.chrono_pattern.specs.ZonedPieces.{iso_piece, offset_piece, stamp_piece}
use Rattle.chrono_pattern.specs.declared.class.Class.TheVariants.{Digit, Gap}
use Rattle.chrono_pattern.specs.declared.item.Bar.{Bar}
use Rattle.chrono_pattern.specs.declared.item.Bar.TheVariants.{Free, NoDigit, NoFraction, NoPoint, NoMinutes}
use Rattle.chrono_pattern.specs.declared.item.GroupField.{GroupField}
use Rattle.chrono_pattern.specs.declared.item.GroupField.TheVariants.{YearMonthDay, MonthDayYear, HourMinute, HourMinuteSecond, HalfClock, DayMonthYear, DateAndTime}
use Rattle.chrono_pattern.specs.declared.item.Item.{Item}
use Rattle.chrono_pattern.specs.declared.item.Item.TheVariants.{Empty, Byte, Number, Word, Group, Subsecond, Zoned}
use Rattle.chrono_pattern.specs.declared.item.NumberField.{NumberField}
use Rattle.chrono_pattern.specs.declared.item.NumberField.TheVariants.{Year, Century, YearOfCentury, Quarter, Month, Day, SpacedDay, DayOfYear, FromMonday, FromSunday, IsoYear, IsoYearOfCentury, IsoWeek, WeekFromSunday, WeekFromMonday, Hour, SpacedHour, HalfHour, SpacedHalfHour, Minute, Second, Nanosecond}
use Rattle.chrono_pattern.specs.declared.item.OffsetForm.TheVariants.{Colon}
use Rattle.chrono_pattern.specs.declared.item.Padding.{Padding}
use Rattle.chrono_pattern.specs.declared.item.Padding.TheVariants.{Usual}
use Rattle.chrono_pattern.specs.declared.item.WordField.TheVariants.{MonthLetters, WeekdayLetters, Half}
use Rattle.chrono_pattern.specs.declared.item.ZonedField.TheVariants.{Offset, ZoneName, Stamp, Iso8601}
use Rattle.chrono_pattern.specs.Words.{word_text}
use Rattle.chrono_pattern.proofs.BackItems.{four_joined, three_joined}
use Rattle.chrono_pattern.proofs.BackDigits.{Ends, begins_point, blanks_go, decimal_digits, digits_no_point, digits_stay, number_digits, number_digits-are, padded_parts, spaces_blank, spaces_of}
use Rattle.chrono_pattern.proofs.BackNumbers.{blank_goes, front_stays}
use Rattle.chrono_pattern.proofs.BackOffsets.{offset_opens, small_stamp}
use Rattle.chrono_pattern.proofs.BackParts.{size_small, year_range}
use Rattle.chrono_pattern.proofs.BackSubseconds.{asked, below, few_held, fraction_of, held_asked, places, places_are, pointed, unpointed}
use Rattle.chrono_pattern.proofs.BackWords.{colons_stay, no_digits, opens, opens_ends, opens_stays, plain_byte, word_opens}

not_so : (b : Bool) → (if b then false else true) ≡ true → b ≡ false
not_so true h = absurd (false≢true h)
not_so false h = refl

-- ---- a byte

unpointed_byte : (c : ℕ) (rest : List ℕ) → (c == 46) ≡ false → Ends (if is_pattern_blank c then NoPoint else Free) rest → begins_point (behind_blanks (c ∷ rest)) ≡ false
unpointed_byte c rest not ends = by_test (is_pattern_blank c) refl ends
  where
    by_test : (b : Bool) → is_pattern_blank c ≡ b → Ends (if b then NoPoint else Free) rest → begins_point (behind_blanks (c ∷ rest)) ≡ false
    by_test true e h = ap (λ (l : List ℕ). begins_point l) (blank_goes c rest e) ∙ h
    by_test false e h = ap (λ (l : List ℕ). begins_point l) (front_stays c rest e) ∙ not

pub gap_goes : (c : ℕ) (rest : List ℕ) → is_of Gap c ≡ true → behind_colons (c ∷ rest) ≡ behind_colons rest
unfolding class_len
gap_goes c rest is =
    let more : 1 + prefix_len (is_of Gap) rest ≡ suc (prefix_len (is_of Gap) rest) = omega arith in
    ap (λ (b : Bool). drop (if b then 1 + prefix_len (is_of Gap) rest else 0) (c ∷ rest)) is ∙ ap (λ (k : ℕ). drop k (c ∷ rest)) more

no_minutes_byte : (c : ℕ) (rest : List ℕ) → is_ascii_digit c ≡ false → Ends (if is_of Gap c then NoMinutes else Free) rest → class_len Digit (behind_colons (c ∷ rest)) ≡ 0
no_minutes_byte c rest not ends = by_test (is_of Gap c) refl ends
  where
    by_test : (b : Bool) → is_of Gap c ≡ b → Ends (if b then NoMinutes else Free) rest → class_len Digit (behind_colons (c ∷ rest)) ≡ 0
    by_test true e h = ap (λ (l : List ℕ). class_len Digit l) (gap_goes c rest e) ∙ h
    by_test false e h = ap (λ (l : List ℕ). class_len Digit l) (colons_stay c rest e) ∙ no_digits c rest not

byte_starts : (bar : Bar) (c : ℕ) (rest : List ℕ) → takes_byte bar c ≡ true → Ends (bar_of_byte bar c) rest → Ends bar (c ∷ rest)
byte_starts Free c rest takes ends = refl
byte_starts NoDigit c rest takes ends =
    no_digits c rest (not_so (is_ascii_digit c) (and_parts (if is_ascii_digit c then false else true) true takes).0)
byte_starts NoFraction c rest takes ends =
    let both = and_parts (if is_ascii_digit c then false else true) (if c == 46 then false else true) takes in
    (no_digits c rest (not_so (is_ascii_digit c) both.0), unpointed_byte c rest (not_so (c == 46) both.1) ends)
byte_starts NoPoint c rest takes ends = unpointed_byte c rest (not_so (c == 46) (and_parts true (if c == 46 then false else true) takes).1) ends
byte_starts NoMinutes c rest takes ends =
    no_minutes_byte c rest (not_so (is_ascii_digit c) (and_parts (if is_ascii_digit c then false else true) true takes).0) ends

-- ---- a number

-- behind a sign or none stands what stood without it
signed_start : (a b : Bool) (text : List ℕ) → behind_blanks text ≡ text → begins_point text ≡ false
    → begins_point (behind_blanks ((if a then codes "-" else if b then codes "+" else []) ++ text)) ≡ false
signed_start true b text stays not = ap (λ (l : List ℕ). begins_point l) (front_stays 45 text refl)
signed_start false true text stays not = ap (λ (l : List ℕ). begins_point l) (front_stays 43 text refl)
signed_start false false text stays not = ap (λ (l : List ℕ). begins_point l) stays ∙ not

padded_start : (padding : Padding) (least n : ℕ) (a b : Bool) (rest : List ℕ) → n < 2 ^ 64
    → begins_point (behind_blanks (padded padding least (if a then codes "-" else if b then codes "+" else []) n ++ rest)) ≡ false
padded_start padding least n a b rest fits =
    let sign = if a then codes "-" else if b then codes "+" else [] in
    let ds = number_digits padding least n in
    let are = number_digits-are padding least n fits in
    ap (λ (l : List ℕ). begins_point l)
    (ap (λ (l : List ℕ). behind_blanks l) (padded_parts padding least n sign rest) ∙ blanks_go (spaces_of padding least n) (sign ++ (ds ++ rest)) (spaces_blank padding least n))
    ∙ signed_start a b (ds ++ rest) (digits_stay ds rest n are) (digits_no_point ds rest n are)

pub number_start : (wide : Bool) (field : NumberField) (padding : Padding) (m : Moment) (rest : List ℕ) → IsTime m.time → keeps_number wide field m ≡ true
    → begins_point (behind_blanks (field_text field padding m ++ rest)) ≡ false
unfolding field_text
number_start wide Year padding m rest time keeps =
    let small = year_range wide (year_of m.date) keeps in
    padded_start (padding_of Year padding) 4 (unsigned_abs (year_of m.date)) (int_lt (year_of m.date) (pos 0)) (int_lt (pos 9_999) (year_of m.date)) rest (omega (arith, small))
number_start wide IsoYear padding m rest time keeps =
    let small = year_range wide (iso_year_of m.date) keeps in
    padded_start (padding_of IsoYear padding) 4 (unsigned_abs (iso_year_of m.date)) (int_lt (iso_year_of m.date) (pos 0)) (int_lt (pos 9_999) (iso_year_of m.date)) rest (omega (arith, small))
number_start wide Century padding m rest time keeps =
    padded_start (padding_of Century padding) (least_digits Century (length (sign_of Century m))) (size_of Century m) (int_lt (year_of m.date) (pos 0)) false rest
    (omega (arith, size_small Century m time refl keeps))
number_start wide YearOfCentury padding m rest time keeps =
    padded_start (padding_of YearOfCentury padding) (least_digits YearOfCentury 0) (size_of YearOfCentury m) false false rest (omega (arith, size_small YearOfCentury m time refl refl))
number_start wide Quarter padding m rest time keeps =
    padded_start (padding_of Quarter padding) (least_digits Quarter 0) (size_of Quarter m) false false rest (omega (arith, size_small Quarter m time refl refl))
number_start wide Month padding m rest time keeps =
    padded_start (padding_of Month padding) (least_digits Month 0) (size_of Month m) false false rest (omega (arith, size_small Month m time refl refl))
number_start wide Day padding m rest time keeps =
    padded_start (padding_of Day padding) (least_digits Day 0) (size_of Day m) false false rest (omega (arith, size_small Day m time refl refl))
number_start wide SpacedDay padding m rest time keeps =
    padded_start (padding_of SpacedDay padding) (least_digits SpacedDay 0) (size_of SpacedDay m) false false rest (omega (arith, size_small SpacedDay m time refl refl))
number_start wide DayOfYear padding m rest time keeps =
    padded_start (padding_of DayOfYear padding) (least_digits DayOfYear 0) (size_of DayOfYear m) false false rest (omega (arith, size_small DayOfYear m time refl refl))
number_start wide FromMonday padding m rest time keeps =
    padded_start (padding_of FromMonday padding) (least_digits FromMonday 0) (size_of FromMonday m) false false rest (omega (arith, size_small FromMonday m time refl refl))
number_start wide FromSunday padding m rest time keeps =
    padded_start (padding_of FromSunday padding) (least_digits FromSunday 0) (size_of FromSunday m) false false rest (omega (arith, size_small FromSunday m time refl refl))
number_start wide IsoYearOfCentury padding m rest time keeps =
    padded_start (padding_of IsoYearOfCentury padding) (least_digits IsoYearOfCentury 0) (size_of IsoYearOfCentury m) false false rest (omega (arith, size_small IsoYearOfCentury m time refl refl))
number_start wide IsoWeek padding m rest time keeps =
    padded_start (padding_of IsoWeek padding) (least_digits IsoWeek 0) (size_of IsoWeek m) false false rest (omega (arith, size_small IsoWeek m time refl refl))
number_start wide WeekFromSunday padding m rest time keeps =
    padded_start (padding_of WeekFromSunday padding) (least_digits WeekFromSunday 0) (size_of WeekFromSunday m) false false rest (omega (arith, size_small WeekFromSunday m time refl refl))
number_start wide WeekFromMonday padding m rest time keeps =
    padded_start (padding_of WeekFromMonday padding) (least_digits WeekFromMonday 0) (size_of WeekFromMonday m) false false rest (omega (arith, size_small WeekFromMonday m time refl refl))
number_start wide Hour padding m rest time keeps =
    padded_start (padding_of Hour padding) (least_digits Hour 0) (size_of Hour m) false false rest (omega (arith, size_small Hour m time refl refl))
number_start wide SpacedHour padding m rest time keeps =
    padded_start (padding_of SpacedHour padding) (least_digits SpacedHour 0) (size_of SpacedHour m) false false rest (omega (arith, size_small SpacedHour m time refl refl))
number_start wide HalfHour padding m rest time keeps =
    padded_start (padding_of HalfHour padding) (least_digits HalfHour 0) (size_of HalfHour m) false false rest (omega (arith, size_small HalfHour m time refl refl))
number_start wide SpacedHalfHour padding m rest time keeps =
    padded_start (padding_of SpacedHalfHour padding) (least_digits SpacedHalfHour 0) (size_of SpacedHalfHour m) false false rest (omega (arith, size_small SpacedHalfHour m time refl refl))
number_start wide Minute padding m rest time keeps =
    padded_start (padding_of Minute padding) (least_digits Minute 0) (size_of Minute m) false false rest (omega (arith, size_small Minute m time refl refl))
number_start wide Second padding m rest time keeps =
    padded_start (padding_of Second padding) (least_digits Second 0) (size_of Second m) false false rest (omega (arith, size_small Second m time refl refl))
number_start wide Nanosecond padding m rest time keeps =
    padded_start (padding_of Nanosecond padding) (least_digits Nanosecond 0) (size_of Nanosecond m) false false rest (omega (arith, size_small Nanosecond m time refl refl))

-- ---- a group

opens_more : (text rest : List ℕ) → opens text ≡ true → opens (text ++ rest) ≡ true
opens_more [] rest h = absurd (false≢true h)
opens_more (c ∷ text) rest h = h

opens_three : (text a b c rest : List ℕ) → opens text ≡ true → opens ((((text ++ a) ++ b) ++ c) ++ rest) ≡ true
opens_three text a b c rest h = opens_more (((text ++ a) ++ b) ++ c) rest (opens_more ((text ++ a) ++ b) c (opens_more (text ++ a) b (opens_more text a h)))

opens_no_point : (text : List ℕ) → opens text ≡ true → begins_point text ≡ false
opens_no_point [] h = refl
opens_no_point (c ∷ text) h = (plain_byte c h).point

all_opens : (m : Moment) (rest : List ℕ) → opens (group_text DateAndTime m ++ rest) ≡ true
unfolding group_text
all_opens m rest =
    opens_three (word_text WeekdayLetters m ++ (32 ∷ word_text MonthLetters m)) (32 ∷ usual_text SpacedDay m)
    (32 ∷ ((usual_text Hour m ++ (58 ∷ usual_text Minute m)) ++ (58 ∷ usual_text Second m))) (32 ∷ usual_text Year m) rest
    (word_opens WeekdayLetters (32 ∷ word_text MonthLetters m) m)

group_start : (wide : Bool) (bar : Bar) (g : GroupField) (m : Moment) (rest : List ℕ) → IsTime m.time → keeps_group wide g m ≡ true
    → takes_digit bar ≡ true → begins_point (behind_blanks (group_text g m ++ rest)) ≡ false
unfolding group_text
group_start wide bar YearMonthDay m rest time keeps takes =
    ap (λ (l : List ℕ). begins_point (behind_blanks l)) (three_joined (usual_text Year m) (usual_text Month m) (usual_text Day m) rest 45 45)
    ∙ number_start true Year Usual m _ time keeps
group_start wide bar MonthDayYear m rest time keeps takes =
    ap (λ (l : List ℕ). begins_point (behind_blanks l)) (three_joined (usual_text Month m) (usual_text Day m) (usual_text YearOfCentury m) rest 47 47)
    ∙ number_start false Month Usual m _ time refl
group_start wide bar HourMinute m rest time keeps takes =
    ap (λ (l : List ℕ). begins_point (behind_blanks l)) (append_assoc (usual_text Hour m) (58 ∷ usual_text Minute m) rest)
    ∙ number_start false Hour Usual m _ time refl
group_start wide bar HourMinuteSecond m rest time keeps takes =
    ap (λ (l : List ℕ). begins_point (behind_blanks l)) (three_joined (usual_text Hour m) (usual_text Minute m) (usual_text Second m) rest 58 58)
    ∙ number_start false Hour Usual m _ time refl
group_start wide bar HalfClock m rest time keeps takes =
    ap (λ (l : List ℕ). begins_point (behind_blanks l)) (four_joined (usual_text HalfHour m) (usual_text Minute m) (usual_text Second m) (word_text Half m) rest 58 58 32)
    ∙ number_start false HalfHour Usual m _ time refl
group_start wide bar DayMonthYear m rest time keeps takes =
    ap (λ (l : List ℕ). begins_point (behind_blanks l)) (three_joined (usual_text SpacedDay m) (word_text MonthLetters m) (usual_text Year m) rest 45 45)
    ∙ number_start false SpacedDay Usual m _ time refl
group_start wide bar DateAndTime m rest time keeps takes =
    let text = group_text DateAndTime m ++ rest in
    ap (λ (l : List ℕ). begins_point l) (opens_stays text (all_opens m rest)) ∙ opens_no_point text (all_opens m rest)

-- what takes a digit bars no digit
by_digit : (bar : Bar) (text : List ℕ) → takes_digit bar ≡ true → begins_point (behind_blanks text) ≡ false → Ends bar text
by_digit Free text takes start = refl
by_digit NoDigit text takes start = absurd (false≢true takes)
by_digit NoFraction text takes start = absurd (false≢true takes)
by_digit NoPoint text takes start = start
by_digit NoMinutes text takes start = absurd (false≢true takes)

group_starts : (wide : Bool) (bar : Bar) (g : GroupField) (m : Moment) (rest : List ℕ) → IsTime m.time → keeps_group wide g m ≡ true
    → takes_group bar g ≡ true → Ends bar (group_text g m ++ rest)
group_starts wide bar YearMonthDay m rest time keeps takes = by_digit bar _ takes (group_start wide bar YearMonthDay m rest time keeps takes)
group_starts wide bar MonthDayYear m rest time keeps takes = by_digit bar _ takes (group_start wide bar MonthDayYear m rest time keeps takes)
group_starts wide bar HourMinute m rest time keeps takes = by_digit bar _ takes (group_start wide bar HourMinute m rest time keeps takes)
group_starts wide bar HourMinuteSecond m rest time keeps takes = by_digit bar _ takes (group_start wide bar HourMinuteSecond m rest time keeps takes)
group_starts wide bar HalfClock m rest time keeps takes = by_digit bar _ takes (group_start wide bar HalfClock m rest time keeps takes)
group_starts wide bar DayMonthYear m rest time keeps takes = by_digit bar _ takes (group_start wide bar DayMonthYear m rest time keeps takes)
group_starts wide bar DateAndTime m rest time keeps takes = opens_ends bar _ (all_opens m rest)

-- ---- a fraction

point_ends : (bar : Bar) (rest : List ℕ) → takes_point bar ≡ true → Ends bar (46 ∷ rest)
point_ends Free rest takes = refl
point_ends NoDigit rest takes = no_digits 46 rest refl
point_ends NoFraction rest takes = absurd (false≢true takes)
point_ends NoPoint rest takes = absurd (false≢true takes)
point_ends NoMinutes rest takes = ap (λ (l : List ℕ). class_len Digit l) (colons_stay 46 rest refl) ∙ no_digits 46 rest refl

-- few digits, or none
few_ends : (bar : Bar) (rest : List ℕ) → takes_few bar ≡ true → Ends NoFraction rest → Ends bar rest
few_ends Free rest takes ends = refl
few_ends NoDigit rest takes ends = ends.0
few_ends NoFraction rest takes ends = absurd (false≢true takes)
few_ends NoPoint rest takes ends = absurd (false≢true takes)
few_ends NoMinutes rest takes ends = absurd (false≢true takes)

few_takes_point : (bar : Bar) → takes_few bar ≡ true → takes_point bar ≡ true
few_takes_point Free takes = refl
few_takes_point NoDigit takes = refl
few_takes_point NoFraction takes = absurd (false≢true takes)
few_takes_point NoPoint takes = absurd (false≢true takes)
few_takes_point NoMinutes takes = absurd (false≢true takes)

few_starts : (bar : Bar) (m : Moment) (rest : List ℕ) → takes_few bar ≡ true → Ends NoFraction rest → Ends bar (subsecond_of true 0 m.time ++ rest)
unfolding subsecond_of
few_starts bar m rest takes ends = by_test (fraction_of m.time == 0) refl
  where
    by_test : (z : Bool) → (fraction_of m.time == 0) ≡ z → Ends bar (fraction_with true (digit_count 0 (fraction_of m.time)) (fraction_of m.time) ++ rest)
    by_test true e =
        let none : fraction_of m.time ≡ 0 = grind (arith, nat_tests) in
        subst (λ (l : List ℕ). Ends bar l) (sym (ap (λ (k : ℕ). fraction_with true (digit_count 0 k) k ++ rest) none)) (few_ends bar rest takes ends)
    by_test false e =
        let some : fraction_of m.time ≢ 0 = λ z. false≢true (sym e ∙ grind (arith, nat_tests, z)) in
        let held = few_held (fraction_of m.time) (below m.time) some false e in
        subst (λ (l : List ℕ). Ends bar l) (sym (pointed (digit_count 0 (fraction_of m.time)) (fraction_of m.time) rest held.some held.below))
        (point_ends bar _ (few_takes_point bar takes))

asked_starts : (bar : Bar) (count : ℕ) (m : Moment) (rest : List ℕ) → 0 < count → takes_point bar ≡ true → Ends bar (subsecond_of true count m.time ++ rest)
unfolding subsecond_of
asked_starts bar count m rest some takes =
    let f = fraction_of m.time in
    subst (λ (l : List ℕ). Ends bar l)
    (sym (ap (λ (k : ℕ). fraction_with true k f ++ rest) (asked count f some) ∙ pointed (min count 9) f rest (omega (arith, some)) (below m.time)))
    (point_ends bar _ takes)

fixed_starts : (bar : Bar) (count : ℕ) (m : Moment) (rest : List ℕ) → 0 < count → keeps_subsecond count m.time ≡ true → takes_digit bar ≡ true
    → Ends bar (subsecond_of false count m.time ++ rest)
unfolding subsecond_of
fixed_starts bar count m rest some keeps takes =
    let f = fraction_of m.time in
    let held = held_asked count m.time some keeps in
    let are = places_are (min count 9) f held in
    subst (λ (l : List ℕ). Ends bar l)
    (sym (ap (λ (k : ℕ). fraction_with false k f ++ rest) (asked count f some) ∙ unpointed (min count 9) f rest held.below))
    (by_digit bar (places (min count 9) f ++ rest) takes
    (ap (λ (l : List ℕ). begins_point l) (digits_stay (places (min count 9) f) rest _ are) ∙ digits_no_point (places (min count 9) f) rest _ are))

-- ---- an offset, the seconds from 1970, and all

stamp_start : (s : ℤ) (rest : List ℕ) → keeps_stamp s ≡ true → begins_point (behind_blanks (stamp_piece s ++ rest)) ≡ false
unfolding stamp_piece
stamp_start (pos n) rest keeps =
    let are = decimal_digits n (omega (arith, small_stamp (pos n) keeps)) in
    ap (λ (t : Bool). begins_point (behind_blanks (((if t then codes "-" else []) ++ decimal n) ++ rest))) (is_negative-pos n)
    ∙ ap (λ (l : List ℕ). begins_point l) (digits_stay (decimal n) rest n are) ∙ digits_no_point (decimal n) rest n are
stamp_start (negsuc n) rest keeps = ap (λ (l : List ℕ). begins_point l) (front_stays 45 (decimal (suc n) ++ rest) refl)

iso_joined : (a b c d rest : List ℕ) → (((a ++ (84 ∷ b)) ++ c) ++ d) ++ rest ≡ a ++ (84 ∷ (b ++ (c ++ (d ++ rest))))
iso_joined a b c d rest =
    append_assoc ((a ++ (84 ∷ b)) ++ c) d rest ∙ append_assoc (a ++ (84 ∷ b)) c (d ++ rest) ∙ append_assoc a (84 ∷ b) (c ++ (d ++ rest))

pub iso_text : (m : Moment) (x : ℤ) (rest : List ℕ) → iso_piece m x ++ rest
    ≡ group_text YearMonthDay m ++ (84 ∷ (group_text HourMinuteSecond m ++ (subsecond_of true 0 m.time ++ (offset_piece Colon x ++ rest))))
unfolding iso_piece
iso_text m x rest = iso_joined (group_text YearMonthDay m) (group_text HourMinuteSecond m) (subsecond_of true 0 m.time) (offset_piece Colon x) rest

iso_start : (m : Moment) (x : ℤ) (rest : List ℕ) → IsTime m.time → keeps_year true (year_of m.date) ≡ true → begins_point (behind_blanks (iso_piece m x ++ rest)) ≡ false
iso_start m x rest time keeps =
    ap (λ (l : List ℕ). begins_point (behind_blanks l)) (iso_text m x rest) ∙ group_start true Free YearMonthDay m _ time keeps refl

-- ---- an item

number_takes : (wide : Bool) (bar : Bar) (field : NumberField) → takes_number wide bar field ≡ true → takes_digit bar ≡ true
number_takes true bar Century takes = absurd (false≢true takes)
number_takes false bar Century takes = takes
number_takes wide bar Year takes = takes
number_takes wide bar YearOfCentury takes = takes
number_takes wide bar Quarter takes = takes
number_takes wide bar Month takes = takes
number_takes wide bar Day takes = takes
number_takes wide bar SpacedDay takes = takes
number_takes wide bar DayOfYear takes = takes
number_takes wide bar FromMonday takes = takes
number_takes wide bar FromSunday takes = takes
number_takes wide bar IsoYear takes = takes
number_takes wide bar IsoYearOfCentury takes = takes
number_takes wide bar IsoWeek takes = takes
number_takes wide bar WeekFromSunday takes = takes
number_takes wide bar WeekFromMonday takes = takes
number_takes wide bar Hour takes = takes
number_takes wide bar SpacedHour takes = takes
number_takes wide bar HalfHour takes = takes
number_takes wide bar SpacedHalfHour takes = takes
number_takes wide bar Minute takes = takes
number_takes wide bar Second takes = takes
number_takes wide bar Nanosecond takes = takes

pub some_count : (count : ℕ) → (count == 0) ≡ false → 0 < count
some_count count e = grind (arith, nat_tests)

subsecond_starts : (bar : Bar) (point : Bool) (count : ℕ) (m : Moment) (rest : List ℕ) → takes_subsecond bar point count ≡ true → keeps_subsecond count m.time ≡ true
    → Ends (bar_of_subsecond point count) rest → Ends bar (subsecond_of point count m.time ++ rest)
subsecond_starts bar true count m rest takes keeps ends = by_test (count == 0) refl takes ends
  where
    by_test : (z : Bool) → (count == 0) ≡ z → (if z then takes_few bar else takes_point bar) ≡ true → Ends (if z then NoFraction else NoDigit) rest
        → Ends bar (subsecond_of true count m.time ++ rest)
    by_test true e t h =
        let none : count ≡ 0 = grind (arith, nat_tests) in
        subst (λ (k : ℕ). Ends bar (subsecond_of true k m.time ++ rest)) (sym none) (few_starts bar m rest t h)
    by_test false e t h = asked_starts bar count m rest (some_count count e) t
subsecond_starts bar false count m rest takes keeps ends = by_test (count == 0) refl takes
  where
    by_test : (z : Bool) → (count == 0) ≡ z → (if z then false else takes_digit bar) ≡ true → Ends bar (subsecond_of false count m.time ++ rest)
    by_test true e t = absurd (false≢true t)
    by_test false e t = fixed_starts bar count m rest (some_count count e) keeps t

pub item_starts : (wide : Bool) (bar : Bar) (item : Item) (m : Moment) (x : ℤ) (rest : List ℕ) → IsTime m.time → takes_item wide bar item ≡ true
    → keeps_item wide item m x ≡ true → Ends (bar_behind wide bar item) rest → Ends bar (text_of_item item m x ++ rest)
item_starts wide bar Empty m x rest time takes keeps ends = ends
item_starts wide bar (Byte c) m x rest time takes keeps ends = byte_starts bar c rest takes ends
item_starts wide bar (Number field padding) m x rest time takes keeps ends =
    by_digit bar _ (number_takes wide bar field takes) (number_start wide field padding m rest time keeps)
item_starts wide bar (Word word) m x rest time takes keeps ends = opens_ends bar _ (word_opens word rest m)
item_starts wide bar (Group g) m x rest time takes keeps ends = group_starts wide bar g m rest time keeps takes
item_starts wide bar (Subsecond point count) m x rest time takes keeps ends = subsecond_starts bar point count m rest takes keeps ends
item_starts wide bar (Zoned (Offset form)) m x rest time takes keeps ends = opens_ends bar _ (offset_opens form x rest)
item_starts wide bar (Zoned ZoneName) m x rest time takes keeps ends = absurd (false≢true takes)
item_starts wide bar (Zoned Stamp) m x rest time takes keeps ends = by_digit bar _ takes (stamp_start (epoch_second m -ℤ x) rest keeps)
item_starts wide bar (Zoned Iso8601) m x rest time takes keeps ends =
    by_digit bar _ takes (iso_start m x rest time (and_parts _ _ keeps).0)
