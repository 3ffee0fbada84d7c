-- Numbers, bytes and groups are read back.
use Rattle.std.proofs.Common.{◌≡◌, ℕ, ◌<◌, ◌^◌, ◌==◌, Bool, true, false, ◌&&◌, if◌then◌else◌, List, [], ◌∷◌, ◌++◌, append_assoc, codes, length, ℤ, pos, Result, Ok, Err, refl, ap, sym, ◌∙◌, arith}
use Rattle.std.proofs.lemmas.Bool.Decides.{nat_tests}
use Rattle.std.specs.Char.{is_ascii_digit}
use Rattle.std.specs.Int.RustNames.{int_lt}
use Rattle.chrono_text.proofs.Decimals.{at_most}
use Rattle.chrono_datetime.specs.Days.{year_of}
use Rattle.chrono_datetime.specs.Moment.{Moment}
use Rattle.chrono_datetime.specs.Time.{IsTime}
use Rattle.chrono_datetime.specs.Weeks.{iso_year_of}
use Rattle.chrono_pattern.specs.Groups.{group_text, usual_text}
use Rattle.chrono_pattern.specs.ItemReads.{behind_read, clock_year_read, day_read, group_read, half_clock_read, short_date_read, three_read, two_read, word_behind_read}
use Rattle.chrono_pattern.specs.Kept.{keeps_group, keeps_number, keeps_year}
use Rattle.chrono_pattern.specs.NamedParts.{with_clock, with_group, with_named, with_number_field, word_part}
use Rattle.chrono_pattern.specs.NumberReads.{has_sign, most_digits, number_put, number_read}
use Rattle.chrono_pattern.specs.Numbers.{field_text, least_digits, padded, padding_of, size_of}
use Rattle.chrono_pattern.specs.OffsetReads.{at_rest}
use Rattle.chrono_pattern.specs.Progress.{Progress, behind_blanks, byte_behind, is_pattern_blank, literal_read, stopped, then_read}
use Rattle.chrono_pattern.specs.ReadBack.{parts_of}
use Rattle.chrono_pattern.specs.Separable.{bar_of_group, bar_of_number, is_filled}
use Rattle.chrono_pattern.specs.WordReads.{word_read}
use Rattle.chrono_pattern.specs.Words.{word_text}
use Rattle.chrono_pattern.specs.declared.error.ReadFault.TheVariants.{Invalid}
use Rattle.chrono_pattern.specs.declared.item.Bar.TheVariants.{Free, NoDigit}
use Rattle.chrono_pattern.specs.declared.item.GroupField.{GroupField}
use Rattle.chrono_pattern.specs.declared.item.GroupField.TheVariants.{YearMonthDay, MonthDayYear, HourMinute, HourMinuteSecond, HalfClock, DayMonthYear, DateAndTime}
use Rattle.chrono_pattern.specs.declared.item.NumberField.{NumberField}
use Rattle.chrono_pattern.specs.declared.item.NumberField.TheVariants.{Year, Century, YearOfCentury, Quarter, Month, Day, SpacedDay, DayOfYear, FromMonday, FromSunday, IsoYear, IsoYearOfCentury, IsoWeek, WeekFromSunday, WeekFromMonday, Hour, SpacedHour, HalfHour, SpacedHalfHour, Minute, Second, Nanosecond}
use Rattle.chrono_pattern.specs.declared.item.Padding.{Padding}
use Rattle.chrono_pattern.specs.declared.item.Padding.TheVariants.{Usual}
use Rattle.chrono_pattern.specs.declared.item.WordField.{WordField}
use Rattle.chrono_pattern.specs.declared.item.WordField.TheVariants.{MonthLetters, WeekdayLetters, Half}
use Rattle.chrono_pattern.specs.declared.parsed.Parsed.{Parsed}
use Rattle.chrono_pattern.specs.declared.stop.Stop.{Stop}
use Rattle.chrono_pattern.proofs.BackDigits.{Ends, digits_within, skip, unsigned_back}
use Rattle.chrono_pattern.proofs.BackNumbers.{blank_goes, front_stays, nothing_stays}
use Rattle.chrono_pattern.proofs.BackParts.{few_centuries, number_given, size_small}
use Rattle.chrono_pattern.proofs.BackWords.{no_digits, opens_skips, word_back, word_opens}
use Rattle.chrono_pattern.proofs.BackYears.{signed_back}

-- ---- numbers

-- a number is read back: in front of any text that the bar allows
abbrev Back : Bool → NumberField → Padding → Bool → List ℕ → Parsed → Moment → ℤ → Type 0
Back wide field padding b rest q m x =
    number_read field (at_rest (skip b (field_text field padding m ++ rest)) (parts_of q m x)) ≡ Ok (at_rest rest (parts_of (with_number_field field q) m x))

small_back : (wide : Bool) (field : NumberField) (padding : Padding) (b : Bool) (n : ℕ) (rest : List ℕ) (p q : Parsed) → has_sign field ≡ false
    → n < 10 ^ 9 → n < 10 ^ most_digits field → Ends (bar_of_number wide field padding) rest → number_put field (pos n) p ≡ Ok q
    → number_read field (at_rest (skip b (padded (padding_of field padding) (least_digits field 0) [] n ++ rest)) p) ≡ Ok (at_rest rest q)
small_back wide field padding b n rest p q unsigned fits small ends put =
    unsigned_back wide field padding b n rest p q unsigned fits (at_most (most_digits field) n (digits_within field).0 small (omega (arith, fits))) ends put

-- a century with no sign
century_back : (wide : Bool) (padding : Padding) (b : Bool) (rest : List ℕ) (q : Parsed) (m : Moment) (x : ℤ) → IsTime m.time
    → keeps_number wide Century m ≡ true → Ends (bar_of_number wide Century padding) rest → int_lt (year_of m.date) (pos 0) ≡ false → Back wide Century padding b rest q m x
unfolding field_text
century_back wide padding b rest q m x time keeps ends ahead =
    let small = size_small Century m time refl keeps in
    let n = size_of Century m in
    ap (λ (t : Bool). number_read Century (at_rest (skip b (padded (padding_of Century padding) (least_digits Century (length (if t then codes "-" else []))) (if t then codes "-" else []) n ++ rest)) (parts_of q m x))) ahead
    ∙ small_back wide Century padding b n rest _ _ refl (omega (arith, small)) small ends (number_given wide Century q m x time keeps)

pub number_back : (wide : Bool) (field : NumberField) (padding : Padding) (b : Bool) (rest : List ℕ) (q : Parsed) (m : Moment) (x : ℤ) → IsTime m.time
    → keeps_number wide field m ≡ true → Ends (bar_of_number wide field padding) rest → Back wide field padding b rest q m x
unfolding field_text
number_back wide Year padding b rest q m x time keeps ends =
    signed_back wide Year padding b (year_of m.date) rest _ _ refl refl keeps ends (number_given wide Year q m x time keeps)
number_back wide IsoYear padding b rest q m x time keeps ends =
    signed_back wide IsoYear padding b (iso_year_of m.date) rest _ _ refl refl keeps ends (number_given wide IsoYear q m x time keeps)
number_back wide Century padding b rest q m x time keeps ends =
    century_back wide padding b rest q m x time keeps ends (few_centuries (year_of m.date) keeps).2
number_back wide YearOfCentury padding b rest q m x time keeps ends =
    let small = size_small YearOfCentury m time refl refl in
    small_back wide YearOfCentury padding b (size_of YearOfCentury m) rest _ _ refl (omega (arith, small)) small ends (number_given wide YearOfCentury q m x time keeps)
number_back wide Quarter padding b rest q m x time keeps ends =
    let small = size_small Quarter m time refl refl in
    small_back wide Quarter padding b (size_of Quarter m) rest _ _ refl (omega (arith, small)) small ends (number_given wide Quarter q m x time keeps)
number_back wide Month padding b rest q m x time keeps ends =
    let small = size_small Month m time refl refl in
    small_back wide Month padding b (size_of Month m) rest _ _ refl (omega (arith, small)) small ends (number_given wide Month q m x time keeps)
number_back wide Day padding b rest q m x time keeps ends =
    let small = size_small Day m time refl refl in
    small_back wide Day padding b (size_of Day m) rest _ _ refl (omega (arith, small)) small ends (number_given wide Day q m x time keeps)
number_back wide SpacedDay padding b rest q m x time keeps ends =
    let small = size_small SpacedDay m time refl refl in
    small_back wide SpacedDay padding b (size_of SpacedDay m) rest _ _ refl (omega (arith, small)) small ends (number_given wide SpacedDay q m x time keeps)
number_back wide DayOfYear padding b rest q m x time keeps ends =
    let small = size_small DayOfYear m time refl refl in
    small_back wide DayOfYear padding b (size_of DayOfYear m) rest _ _ refl (omega (arith, small)) small ends (number_given wide DayOfYear q m x time keeps)
number_back wide FromMonday padding b rest q m x time keeps ends =
    let small = size_small FromMonday m time refl refl in
    small_back wide FromMonday padding b (size_of FromMonday m) rest _ _ refl (omega (arith, small)) small ends (number_given wide FromMonday q m x time keeps)
number_back wide FromSunday padding b rest q m x time keeps ends =
    let small = size_small FromSunday m time refl refl in
    small_back wide FromSunday padding b (size_of FromSunday m) rest _ _ refl (omega (arith, small)) small ends (number_given wide FromSunday q m x time keeps)
number_back wide IsoYearOfCentury padding b rest q m x time keeps ends =
    let small = size_small IsoYearOfCentury m time refl refl in
    small_back wide IsoYearOfCentury padding b (size_of IsoYearOfCentury m) rest _ _ refl (omega (arith, small)) small ends (number_given wide IsoYearOfCentury q m x time keeps)
number_back wide IsoWeek padding b rest q m x time keeps ends =
    let small = size_small IsoWeek m time refl refl in
    small_back wide IsoWeek padding b (size_of IsoWeek m) rest _ _ refl (omega (arith, small)) small ends (number_given wide IsoWeek q m x time keeps)
number_back wide WeekFromSunday padding b rest q m x time keeps ends =
    let small = size_small WeekFromSunday m time refl refl in
    small_back wide WeekFromSunday padding b (size_of WeekFromSunday m) rest _ _ refl (omega (arith, small)) small ends (number_given wide WeekFromSunday q m x time keeps)
number_back wide WeekFromMonday padding b rest q m x time keeps ends =
    let small = size_small WeekFromMonday m time refl refl in
    small_back wide WeekFromMonday padding b (size_of WeekFromMonday m) rest _ _ refl (omega (arith, small)) small ends (number_given wide WeekFromMonday q m x time keeps)
number_back wide Hour padding b rest q m x time keeps ends =
    let small = size_small Hour m time refl refl in
    small_back wide Hour padding b (size_of Hour m) rest _ _ refl (omega (arith, small)) small ends (number_given wide Hour q m x time keeps)
number_back wide SpacedHour padding b rest q m x time keeps ends =
    let small = size_small SpacedHour m time refl refl in
    small_back wide SpacedHour padding b (size_of SpacedHour m) rest _ _ refl (omega (arith, small)) small ends (number_given wide SpacedHour q m x time keeps)
number_back wide HalfHour padding b rest q m x time keeps ends =
    let small = size_small HalfHour m time refl refl in
    small_back wide HalfHour padding b (size_of HalfHour m) rest _ _ refl (omega (arith, small)) small ends (number_given wide HalfHour q m x time keeps)
number_back wide SpacedHalfHour padding b rest q m x time keeps ends =
    let small = size_small SpacedHalfHour m time refl refl in
    small_back wide SpacedHalfHour padding b (size_of SpacedHalfHour m) rest _ _ refl (omega (arith, small)) small ends (number_given wide SpacedHalfHour q m x time keeps)
number_back wide Minute padding b rest q m x time keeps ends =
    let small = size_small Minute m time refl refl in
    small_back wide Minute padding b (size_of Minute m) rest _ _ refl (omega (arith, small)) small ends (number_given wide Minute q m x time keeps)
number_back wide Second padding b rest q m x time keeps ends =
    let small = size_small Second m time refl refl in
    small_back wide Second padding b (size_of Second m) rest _ _ refl (omega (arith, small)) small ends (number_given wide Second q m x time keeps)
number_back wide Nanosecond padding b rest q m x time keeps ends =
    let small = size_small Nanosecond m time refl refl in
    small_back wide Nanosecond padding b (size_of Nanosecond m) rest _ _ refl (omega (arith, small)) small ends (number_given wide Nanosecond q m x time keeps)

-- ---- bytes

same_byte : (c : ℕ) → (c == c) ≡ true
same_byte c = grind (arith, nat_tests)

shown_back : (c : ℕ) (b : Bool) (rest : List ℕ) (p : Parsed) → is_pattern_blank c ≡ false → literal_read c (at_rest (skip b (c ∷ rest)) p) ≡ Ok (at_rest rest p)
unfolding literal_read
shown_back c b rest p not =
    ap (λ (l : List ℕ). literal_read c (at_rest l p)) (stays b)
    ∙ ap (λ (t : Bool). if t then Ok (at_rest (behind_blanks (c ∷ rest)) p) else byte_behind c (c ∷ rest) p) not
    ∙ ap (λ (t : Bool). if t then Ok (at_rest rest p) else Err (stopped Invalid (c ∷ rest))) (same_byte c)
  where
    stays : (s : Bool) → skip s (c ∷ rest) ≡ c ∷ rest
    stays true = front_stays c rest not
    stays false = refl

blanks_twice : (text : List ℕ) → behind_blanks (behind_blanks text) ≡ behind_blanks text
blanks_twice [] = ap (λ (l : List ℕ). behind_blanks l) nothing_stays
blanks_twice (c ∷ text) = by_test (is_pattern_blank c) refl (blanks_twice text)
  where
    by_test : (b : Bool) → is_pattern_blank c ≡ b → behind_blanks (behind_blanks text) ≡ behind_blanks text → behind_blanks (behind_blanks (c ∷ text)) ≡ behind_blanks (c ∷ text)
    by_test true e twice = ap (λ (l : List ℕ). behind_blanks l) (blank_goes c text e) ∙ twice ∙ sym (blank_goes c text e)
    by_test false e twice = ap (λ (l : List ℕ). behind_blanks l) (front_stays c text e)

blank_back : (c : ℕ) (b : Bool) (rest : List ℕ) (p : Parsed) → is_pattern_blank c ≡ true
    → literal_read c (at_rest (skip b (c ∷ rest)) p) ≡ Ok (at_rest (behind_blanks rest) p)
unfolding literal_read
blank_back c b rest p is =
    ap (λ (t : Bool). if t then Ok (at_rest (behind_blanks (skip b (c ∷ rest))) p) else byte_behind c (skip b (c ∷ rest)) p) is
    ∙ ap (λ (l : List ℕ). Ok (at_rest l p)) (goes b)
  where
    goes : (s : Bool) → behind_blanks (skip s (c ∷ rest)) ≡ behind_blanks rest
    goes true = blanks_twice (c ∷ rest) ∙ blank_goes c rest is
    goes false = blank_goes c rest is

-- a byte is read back, and with a blank all blanks behind it
pub byte_back : (c : ℕ) (b : Bool) (rest : List ℕ) (p : Parsed) → literal_read c (at_rest (skip b (c ∷ rest)) p) ≡ Ok (at_rest (skip (is_pattern_blank c) rest) p)
byte_back c b rest p = by_test (is_pattern_blank c) refl
  where
    by_test : (t : Bool) → is_pattern_blank c ≡ t → literal_read c (at_rest (skip b (c ∷ rest)) p) ≡ Ok (at_rest (skip t rest) p)
    by_test true e = blank_back c b rest p e
    by_test false e = shown_back c b rest p e

-- ---- what stands behind a number

-- no digit ends any number
pub number_ends : (wide : Bool) (field : NumberField) (padding : Padding) (c : ℕ) (rest : List ℕ) → is_ascii_digit c ≡ false
    → Ends (bar_of_number wide field padding) (c ∷ rest)
number_ends wide field padding c rest not = by_tests (wide && has_sign field) (is_filled field padding)
  where
    by_tests : (s t : Bool) → Ends (if s then NoDigit else if t then Free else NoDigit) (c ∷ rest)
    by_tests true t = no_digits c rest not
    by_tests false true = refl
    by_tests false false = no_digits c rest not

-- ---- groups

number_behind : (wide : Bool) (c : ℕ) (field : NumberField) (rest : List ℕ) (q : Parsed) (m : Moment) (x : ℤ) → IsTime m.time → keeps_number wide field m ≡ true
    → Ends (bar_of_number wide field Usual) rest
    → behind_read c field (at_rest (c ∷ (usual_text field m ++ rest)) (parts_of q m x)) ≡ Ok (at_rest rest (parts_of (with_number_field field q) m x))
number_behind wide c field rest q m x time keeps ends =
    ap (λ (o : Result Progress Stop). then_read o (number_read field)) (byte_back c false (usual_text field m ++ rest) (parts_of q m x))
    ∙ number_back wide field Usual (is_pattern_blank c) rest q m x time keeps ends

word_behind : (c : ℕ) (word : WordField) (rest : List ℕ) (q : Parsed) (m : Moment) (x : ℤ) → IsTime m.time
    → word_behind_read c word (at_rest (c ∷ (word_text word m ++ rest)) (parts_of q m x)) ≡ Ok (at_rest rest (parts_of (with_named (word_part word) q) m x))
word_behind c word rest q m x time =
    ap (λ (o : Result Progress Stop). then_read o (word_read word)) (byte_back c false (word_text word m ++ rest) (parts_of q m x))
    ∙ ap (λ (l : List ℕ). word_read word (at_rest l (parts_of q m x))) (opens_skips (is_pattern_blank c) (word_text word m ++ rest) (word_opens word rest m))
    ∙ word_back word rest q m x time

-- two numbers with a byte between them
two_back : (wide last : Bool) (c : ℕ) (first second : NumberField) (b : Bool) (rest : List ℕ) (q : Parsed) (m : Moment) (x : ℤ) → IsTime m.time → is_ascii_digit c ≡ false
    → keeps_number wide first m ≡ true → keeps_number last second m ≡ true → Ends (bar_of_number last second Usual) rest
    → two_read first c second (at_rest (skip b (usual_text first m ++ (c ∷ (usual_text second m ++ rest)))) (parts_of q m x))
    ≡ Ok (at_rest rest (parts_of (with_number_field second (with_number_field first q)) m x))
two_back wide last c first second b rest q m x time not one two ends =
    ap (λ (o : Result Progress Stop). then_read o (behind_read c second))
    (number_back wide first Usual b (c ∷ (usual_text second m ++ rest)) q m x time one (number_ends wide first Usual c (usual_text second m ++ rest) not))
    ∙ number_behind last c second rest (with_number_field first q) m x time two ends

-- three numbers with a byte between each two
three_back : (wide middle last : Bool) (c : ℕ) (first second third : NumberField) (b : Bool) (rest : List ℕ) (q : Parsed) (m : Moment) (x : ℤ) → IsTime m.time → is_ascii_digit c ≡ false
    → keeps_number wide first m ≡ true → keeps_number middle second m ≡ true → keeps_number last third m ≡ true → Ends (bar_of_number last third Usual) rest
    → three_read first c second third (at_rest (skip b (usual_text first m ++ (c ∷ (usual_text second m ++ (c ∷ (usual_text third m ++ rest)))))) (parts_of q m x))
    ≡ Ok (at_rest rest (parts_of (with_number_field third (with_number_field second (with_number_field first q))) m x))
three_back wide middle last c first second third b rest q m x time not one two three ends =
    ap (λ (o : Result Progress Stop). then_read o (behind_read c third))
    (two_back wide middle c first second b (c ∷ (usual_text third m ++ rest)) q m x time not one two (number_ends middle second Usual c (usual_text third m ++ rest) not))
    ∙ number_behind last c third rest (with_number_field second (with_number_field first q)) m x time three ends

pub three_joined : (a b c rest : List ℕ) (x y : ℕ) → ((a ++ (x ∷ b)) ++ (y ∷ c)) ++ rest ≡ a ++ (x ∷ (b ++ (y ∷ (c ++ rest))))
three_joined a b c rest x y = append_assoc (a ++ (x ∷ b)) (y ∷ c) rest ∙ append_assoc a (x ∷ b) (y ∷ (c ++ rest))

pub four_joined : (a b c d rest : List ℕ) (x y z : ℕ) → (((a ++ (x ∷ b)) ++ (y ∷ c)) ++ (z ∷ d)) ++ rest ≡ a ++ (x ∷ (b ++ (y ∷ (c ++ (z ∷ (d ++ rest))))))
four_joined a b c d rest x y z = append_assoc ((a ++ (x ∷ b)) ++ (y ∷ c)) (z ∷ d) rest ∙ three_joined a b c (z ∷ (d ++ rest)) x y

-- the clock of twelve hours
half_clock_back : (b : Bool) (rest : List ℕ) (q : Parsed) (m : Moment) (x : ℤ) → IsTime m.time
    → half_clock_read (at_rest (skip b (usual_text HalfHour m ++ (58 ∷ (usual_text Minute m ++ (58 ∷ (usual_text Second m ++ (32 ∷ (word_text Half m ++ rest)))))))) (parts_of q m x))
    ≡ Ok (at_rest rest (parts_of (with_group HalfClock q) m x))
unfolding with_group
half_clock_back b rest q m x time =
    ap (λ (o : Result Progress Stop). then_read o (word_behind_read 32 Half))
    (three_back false false false 58 HalfHour Minute Second b (32 ∷ (word_text Half m ++ rest)) q m x time refl refl refl refl refl)
    ∙ word_behind 32 Half rest (with_clock HalfHour q) m x time

-- a day, a month and a year
short_date_back : (wide b : Bool) (rest : List ℕ) (q : Parsed) (m : Moment) (x : ℤ) → IsTime m.time → keeps_year wide (year_of m.date) ≡ true
    → Ends (bar_of_number wide Year Usual) rest
    → short_date_read (at_rest (skip b (usual_text SpacedDay m ++ (45 ∷ (word_text MonthLetters m ++ (45 ∷ (usual_text Year m ++ rest)))))) (parts_of q m x))
    ≡ Ok (at_rest rest (parts_of (with_group DayMonthYear q) m x))
unfolding with_group
short_date_back wide b rest q m x time keeps ends =
    let year = 45 ∷ (usual_text Year m ++ rest) in
    ap (λ (o : Result Progress Stop). then_read (then_read o (word_behind_read 45 MonthLetters)) (behind_read 45 Year))
    (number_back false SpacedDay Usual b (45 ∷ (word_text MonthLetters m ++ year)) q m x time refl (number_ends false SpacedDay Usual 45 (word_text MonthLetters m ++ year) refl))
    ∙ ap (λ (o : Result Progress Stop). then_read o (behind_read 45 Year)) (word_behind 45 MonthLetters year (with_number_field SpacedDay q) m x time)
    ∙ number_behind wide 45 Year rest (with_named (word_part MonthLetters) (with_number_field SpacedDay q)) m x time keeps ends

-- a weekday, a month and a day
abbrev day_parts : Parsed → Parsed
day_parts q = with_number_field SpacedDay (with_named (word_part MonthLetters) (with_named (word_part WeekdayLetters) q))

day_back : (rest : List ℕ) (q : Parsed) (m : Moment) (x : ℤ) → IsTime m.time
    → day_read (at_rest (word_text WeekdayLetters m ++ (32 ∷ (word_text MonthLetters m ++ (32 ∷ (usual_text SpacedDay m ++ (32 ∷ rest)))))) (parts_of q m x))
    ≡ Ok (at_rest (32 ∷ rest) (parts_of (day_parts q) m x))
day_back rest q m x time =
    let day = 32 ∷ (usual_text SpacedDay m ++ (32 ∷ rest)) in
    ap (λ (o : Result Progress Stop). then_read (then_read o (word_behind_read 32 MonthLetters)) (behind_read 32 SpacedDay))
    (word_back WeekdayLetters (32 ∷ (word_text MonthLetters m ++ day)) q m x time)
    ∙ ap (λ (o : Result Progress Stop). then_read o (behind_read 32 SpacedDay)) (word_behind 32 MonthLetters day (with_named (word_part WeekdayLetters) q) m x time)
    ∙ number_behind false 32 SpacedDay (32 ∷ rest) (with_named (word_part MonthLetters) (with_named (word_part WeekdayLetters) q)) m x time refl
    (number_ends false SpacedDay Usual 32 rest refl)

-- an hour, a minute, a second and a year
clock_year_back : (wide : Bool) (rest : List ℕ) (q : Parsed) (m : Moment) (x : ℤ) → IsTime m.time → keeps_year wide (year_of m.date) ≡ true
    → Ends (bar_of_number wide Year Usual) rest
    → clock_year_read (at_rest (32 ∷ (usual_text Hour m ++ (58 ∷ (usual_text Minute m ++ (58 ∷ (usual_text Second m ++ (32 ∷ (usual_text Year m ++ rest)))))))) (parts_of q m x))
    ≡ Ok (at_rest rest (parts_of (with_number_field Year (with_clock Hour q)) m x))
clock_year_back wide rest q m x time keeps ends =
    let year = 32 ∷ (usual_text Year m ++ rest) in
    let second = 58 ∷ (usual_text Second m ++ year) in
    let minute = 58 ∷ (usual_text Minute m ++ second) in
    let hour = with_number_field Hour q in
    ap (λ (o : Result Progress Stop). then_read (then_read (then_read o (behind_read 58 Minute)) (behind_read 58 Second)) (behind_read 32 Year))
    (number_behind false 32 Hour minute q m x time refl (number_ends false Hour Usual 58 (usual_text Minute m ++ second) refl))
    ∙ ap (λ (o : Result Progress Stop). then_read (then_read o (behind_read 58 Second)) (behind_read 32 Year))
    (number_behind false 58 Minute second hour m x time refl (number_ends false Minute Usual 58 (usual_text Second m ++ year) refl))
    ∙ ap (λ (o : Result Progress Stop). then_read o (behind_read 32 Year))
    (number_behind false 58 Second year (with_number_field Minute hour) m x time refl (number_ends false Second Usual 32 (usual_text Year m ++ rest) refl))
    ∙ number_behind wide 32 Year rest (with_clock Hour q) m x time keeps ends

-- the text of `%c`, piece by piece
all_joined : (w o d h i s y rest : List ℕ) (a b c e f g : ℕ)
    → ((((w ++ (a ∷ o)) ++ (b ∷ d)) ++ (c ∷ ((h ++ (e ∷ i)) ++ (f ∷ s)))) ++ (g ∷ y)) ++ rest
    ≡ w ++ (a ∷ (o ++ (b ∷ (d ++ (c ∷ (h ++ (e ∷ (i ++ (f ∷ (s ++ (g ∷ (y ++ rest))))))))))))
all_joined w o d h i s y rest a b c e f g =
    append_assoc (((w ++ (a ∷ o)) ++ (b ∷ d)) ++ (c ∷ ((h ++ (e ∷ i)) ++ (f ∷ s)))) (g ∷ y) rest
    ∙ four_joined w o d ((h ++ (e ∷ i)) ++ (f ∷ s)) (g ∷ (y ++ rest)) a b c
    ∙ ap (λ (l : List ℕ). w ++ (a ∷ (o ++ (b ∷ (d ++ (c ∷ l)))))) (three_joined h i s (g ∷ (y ++ rest)) e f)

all_back : (wide b : Bool) (rest : List ℕ) (q : Parsed) (m : Moment) (x : ℤ) → IsTime m.time → keeps_year wide (year_of m.date) ≡ true
    → Ends (bar_of_number wide Year Usual) rest
    → group_read DateAndTime (at_rest (skip b (group_text DateAndTime m ++ rest)) (parts_of q m x)) ≡ Ok (at_rest rest (parts_of (with_group DateAndTime q) m x))
unfolding group_read group_text with_group
all_back wide b rest q m x time keeps ends =
    let year = usual_text Year m ++ rest in
    let clock = usual_text Hour m ++ (58 ∷ (usual_text Minute m ++ (58 ∷ (usual_text Second m ++ (32 ∷ year))))) in
    let month = 32 ∷ (word_text MonthLetters m ++ (32 ∷ (usual_text SpacedDay m ++ (32 ∷ clock)))) in
    ap (λ (l : List ℕ). then_read (day_read (at_rest (skip b l) (parts_of q m x))) clock_year_read) (all_joined
    (word_text WeekdayLetters m) (word_text MonthLetters m) (usual_text SpacedDay m) (usual_text Hour m) (usual_text Minute m) (usual_text Second m) (usual_text Year m) rest 32 32 32 58 58 32)
    ∙ ap (λ (l : List ℕ). then_read (day_read (at_rest l (parts_of q m x))) clock_year_read) (opens_skips b (word_text WeekdayLetters m ++ month) (word_opens WeekdayLetters month m))
    ∙ ap (λ (o : Result Progress Stop). then_read o clock_year_read) (day_back clock q m x time)
    ∙ clock_year_back wide rest (day_parts q) m x time keeps ends

-- behind a group that ends with a year
year_bar : (wide : Bool) (rest : List ℕ) → Ends (if wide then NoDigit else Free) rest → Ends (bar_of_number wide Year Usual) rest
year_bar true rest ends = ends
year_bar false rest ends = refl

pub group_back : (wide : Bool) (g : GroupField) (b : Bool) (rest : List ℕ) (q : Parsed) (m : Moment) (x : ℤ) → IsTime m.time → keeps_group wide g m ≡ true
    → Ends (bar_of_group wide g) rest
    → group_read g (at_rest (skip b (group_text g m ++ rest)) (parts_of q m x)) ≡ Ok (at_rest rest (parts_of (with_group g q) m x))
unfolding group_read group_text with_group
group_back wide YearMonthDay b rest q m x time keeps ends =
    ap (λ (l : List ℕ). three_read Year 45 Month Day (at_rest (skip b l) (parts_of q m x))) (three_joined (usual_text Year m) (usual_text Month m) (usual_text Day m) rest 45 45)
    ∙ three_back true false false 45 Year Month Day b rest q m x time refl keeps refl refl refl
group_back wide MonthDayYear b rest q m x time keeps ends =
    ap (λ (l : List ℕ). three_read Month 47 Day YearOfCentury (at_rest (skip b l) (parts_of q m x))) (three_joined (usual_text Month m) (usual_text Day m) (usual_text YearOfCentury m) rest 47 47)
    ∙ three_back false false false 47 Month Day YearOfCentury b rest q m x time refl refl refl refl refl
group_back wide HourMinute b rest q m x time keeps ends =
    ap (λ (l : List ℕ). two_read Hour 58 Minute (at_rest (skip b l) (parts_of q m x))) (append_assoc (usual_text Hour m) (58 ∷ usual_text Minute m) rest)
    ∙ two_back false false 58 Hour Minute b rest q m x time refl refl refl refl
group_back wide HourMinuteSecond b rest q m x time keeps ends =
    ap (λ (l : List ℕ). three_read Hour 58 Minute Second (at_rest (skip b l) (parts_of q m x))) (three_joined (usual_text Hour m) (usual_text Minute m) (usual_text Second m) rest 58 58)
    ∙ three_back false false false 58 Hour Minute Second b rest q m x time refl refl refl refl refl
group_back wide HalfClock b rest q m x time keeps ends =
    ap (λ (l : List ℕ). half_clock_read (at_rest (skip b l) (parts_of q m x)))
    (four_joined (usual_text HalfHour m) (usual_text Minute m) (usual_text Second m) (word_text Half m) rest 58 58 32)
    ∙ half_clock_back b rest q m x time
group_back wide DayMonthYear b rest q m x time keeps ends =
    ap (λ (l : List ℕ). short_date_read (at_rest (skip b l) (parts_of q m x))) (three_joined (usual_text SpacedDay m) (word_text MonthLetters m) (usual_text Year m) rest 45 45)
    ∙ short_date_back wide b rest q m x time keeps (year_bar wide rest ends)
group_back wide DateAndTime b rest q m x time keeps ends = all_back wide b rest q m x time keeps (year_bar wide rest ends)
