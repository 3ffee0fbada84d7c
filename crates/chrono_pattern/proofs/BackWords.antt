-- Words are read back, whatever is behind them.
use Rattle.std.proofs.Common.{◌≡◌, ℕ, ◌+◌, ◌-◌, ◌≤◌, ◌<◌, ◌/◌, ◌==◌, Bool, true, false, ◌&&◌, if◌then◌else◌, nat_lt, List, [], ◌∷◌, ◌++◌, codes, drop, length, length-append, take, ℤ, pos, Option, Some, Result, Ok, Err, refl, ap, sym, ◌∙◌, arith}
use Rattle.std.proofs.lemmas.Bool.{agree_below_at, eqb-true, false≢true, le-leb}
use Rattle.std.proofs.lemmas.Bool.Decides.{nat_tests}
use Rattle.std.specs.Char.{is_ascii_digit}
use Rattle.std.proofs.lemmas.List.{length-take}
use Rattle.std.specs.List.{prefix_len}
use Rattle.std.specs.Str.{str_eq_ignore_ascii_case}
use Rattle.chrono_calendar.proofs.NamedDates.{calendar_name-exists}
use Rattle.chrono_text.proofs.TextLemmas.{front_is}
use Rattle.chrono_datetime.specs.Days.{month_of}
use Rattle.chrono_datetime.specs.Moment.{Moment}
use Rattle.chrono_datetime.specs.Month.{month_from_number, month_name, number_from_month}
use Rattle.chrono_datetime.specs.Names.{month_of_letters, weekday_name, weekday_of_letters}
use Rattle.chrono_datetime.specs.Time.{IsTime, TimeOfDay, hour_of}
use Rattle.chrono_datetime.specs.Weekday.{number_from_monday}
use Rattle.chrono_datetime.specs.WeekdayText.{weekday_text}
use Rattle.chrono_datetime.specs.Weeks.{weekday_of}
use Rattle.chrono_datetime.specs.declared.Month.{Month}
use Rattle.chrono_datetime.specs.declared.Month.TheVariants.{January, February, March, April, May, June, July, August, September, October, November, December}
use Rattle.chrono_datetime.specs.declared.Weekday.{Weekday}
use Rattle.chrono_datetime.specs.declared.Weekday.TheVariants.{Mon, Tue, Wed, Thu, Fri, Sat, Sun}
use Rattle.chrono_datetime.proofs.DayNames.{length-weekday_text}
use Rattle.chrono_pattern.specs.NamedParts.{with_named, word_part}
use Rattle.chrono_pattern.specs.OffsetReads.{at_rest, behind_colons}
use Rattle.chrono_pattern.specs.Parts.{put}
use Rattle.chrono_pattern.specs.Progress.{behind_blanks, class_len, is_of, is_pattern_blank, progress, put_behind, stopped}
use Rattle.chrono_pattern.specs.ReadBack.{parts_of}
use Rattle.chrono_pattern.specs.WordReads.{half_read, least_letters, letters_read, month_behind, month_read, name_len, weekday_behind, weekday_read, word_read}
use Rattle.chrono_pattern.specs.Words.{word_text}
use Rattle.chrono_pattern.specs.declared.class.Class.TheVariants.{Digit, Gap}
use Rattle.chrono_pattern.specs.declared.error.ReadFault.{ReadFault}
use Rattle.chrono_pattern.specs.declared.error.ReadFault.TheVariants.{TooShort}
use Rattle.chrono_pattern.specs.declared.item.Bar.{Bar}
use Rattle.chrono_pattern.specs.declared.item.Bar.TheVariants.{Free, NoDigit, NoFraction, NoPoint, NoMinutes}
use Rattle.chrono_pattern.specs.declared.item.WordField.{WordField}
use Rattle.chrono_pattern.specs.declared.item.WordField.TheVariants.{MonthName, MonthLetters, WeekdayName, WeekdayLetters, Half, SmallHalf}
use Rattle.chrono_pattern.specs.declared.parsed.Parsed.{Parsed}
use Rattle.chrono_pattern.specs.declared.parsed.Part.{Part}
use Rattle.chrono_pattern.specs.declared.parsed.Part.TheVariants.{MonthOfYear, DayOfWeek, HourDiv12}
use Rattle.chrono_pattern.proofs.BackDigits.{Ends, begins_point, skip}
use Rattle.chrono_pattern.proofs.BackNumbers.{front_stays}
use Rattle.chrono_pattern.proofs.BackParts.{put_half, put_month, put_weekday}

-- ---- texts that begin with a letter or a sign

-- the byte is no digit, no blank, no colon and no point
abbrev pub is_plain : ℕ → Bool
is_plain c = if is_ascii_digit c then false else if is_of Gap c then false else if c == 46 then false else true

abbrev pub opens : List ℕ → Bool
opens [] = false
opens (c ∷ rest) = is_plain c

pub record PlainByte (c : ℕ) : Type 0 where
  pub digit : is_ascii_digit c ≡ false
  pub gap : is_of Gap c ≡ false
  pub blank : is_pattern_blank c ≡ false
  pub point : (c == 46) ≡ false

no_blank : (c : ℕ) → is_of Gap c ≡ false → is_pattern_blank c ≡ false
no_blank c h = grind (arith, nat_tests)

pub plain_byte : (c : ℕ) → is_plain c ≡ true → PlainByte c
plain_byte c h = by_tests (is_ascii_digit c) (is_of Gap c) (c == 46) refl refl refl h
  where
    by_tests : (a b d : Bool) → is_ascii_digit c ≡ a → is_of Gap c ≡ b → (c == 46) ≡ d → (if a then false else if b then false else if d then false else true) ≡ true → PlainByte c
    by_tests true b d x y z k = absurd (false≢true k)
    by_tests false true d x y z k = absurd (false≢true k)
    by_tests false false true x y z k = absurd (false≢true k)
    by_tests false false false x y z k = record { digit = x; gap = y; blank = no_blank c y; point = z }

-- no digit is in front
pub no_digits : (c : ℕ) (rest : List ℕ) → is_ascii_digit c ≡ false → class_len Digit (c ∷ rest) ≡ 0
unfolding class_len
no_digits c rest not = ap (λ (b : Bool). if b then 1 + prefix_len (is_of Digit) rest else 0) not

-- no colon and no blank is
pub colons_stay : (c : ℕ) (rest : List ℕ) → is_of Gap c ≡ false → behind_colons (c ∷ rest) ≡ c ∷ rest
unfolding class_len
colons_stay c rest not = ap (λ (b : Bool). drop (if b then 1 + prefix_len (is_of Gap) rest else 0) (c ∷ rest)) not

byte_ends : (bar : Bar) (c : ℕ) (rest : List ℕ) → PlainByte c → Ends bar (c ∷ rest)
byte_ends Free c rest h = refl
byte_ends NoDigit c rest h = no_digits c rest h.digit
byte_ends NoFraction c rest h = (no_digits c rest h.digit, ap (λ (l : List ℕ). begins_point l) (front_stays c rest h.blank) ∙ h.point)
byte_ends NoPoint c rest h = ap (λ (l : List ℕ). begins_point l) (front_stays c rest h.blank) ∙ h.point
byte_ends NoMinutes c rest h = ap (λ (l : List ℕ). class_len Digit l) (colons_stay c rest h.gap) ∙ no_digits c rest h.digit

pub opens_ends : (bar : Bar) (text : List ℕ) → opens text ≡ true → Ends bar text
opens_ends bar [] h = absurd (false≢true h)
opens_ends bar (c ∷ rest) h = byte_ends bar c rest (plain_byte c h)

pub opens_stays : (text : List ℕ) → opens text ≡ true → behind_blanks text ≡ text
opens_stays [] h = absurd (false≢true h)
opens_stays (c ∷ rest) h = front_stays c rest (plain_byte c h).blank

pub opens_skips : (b : Bool) (text : List ℕ) → opens text ≡ true → skip b text ≡ text
opens_skips true text h = opens_stays text h
opens_skips false text h = refl

-- ---- months

month_named : (k : Month) (rest : List ℕ) → month_of_letters (take 3 (month_name k ++ rest)) ≡ Some k
unfolding month_of_letters
month_named January rest = refl
month_named February rest = refl
month_named March rest = refl
month_named April rest = refl
month_named May rest = refl
month_named June rest = refl
month_named July rest = refl
month_named August rest = refl
month_named September rest = refl
month_named October rest = refl
month_named November rest = refl
month_named December rest = refl

month_begins : (k : Month) (rest : List ℕ) → month_of_letters (take 3 (take 3 (month_name k) ++ rest)) ≡ Some k
unfolding month_of_letters
month_begins January rest = refl
month_begins February rest = refl
month_begins March rest = refl
month_begins April rest = refl
month_begins May rest = refl
month_begins June rest = refl
month_begins July rest = refl
month_begins August rest = refl
month_begins September rest = refl
month_begins October rest = refl
month_begins November rest = refl
month_begins December rest = refl

month_same : (k : Month) (rest : List ℕ) → str_eq_ignore_ascii_case (take (length (month_name k)) (month_name k ++ rest)) (month_name k) ≡ true
month_same January rest = refl
month_same February rest = refl
month_same March rest = refl
month_same April rest = refl
month_same May rest = refl
month_same June rest = refl
month_same July rest = refl
month_same August rest = refl
month_same September rest = refl
month_same October rest = refl
month_same November rest = refl
month_same December rest = refl

month_opens : (k : Month) (rest : List ℕ) → opens (month_name k ++ rest) ≡ true
month_opens January rest = refl
month_opens February rest = refl
month_opens March rest = refl
month_opens April rest = refl
month_opens May rest = refl
month_opens June rest = refl
month_opens July rest = refl
month_opens August rest = refl
month_opens September rest = refl
month_opens October rest = refl
month_opens November rest = refl
month_opens December rest = refl

month_letters_open : (k : Month) (rest : List ℕ) → opens (take 3 (month_name k) ++ rest) ≡ true
month_letters_open January rest = refl
month_letters_open February rest = refl
month_letters_open March rest = refl
month_letters_open April rest = refl
month_letters_open May rest = refl
month_letters_open June rest = refl
month_letters_open July rest = refl
month_letters_open August rest = refl
month_letters_open September rest = refl
month_letters_open October rest = refl
month_letters_open November rest = refl
month_letters_open December rest = refl

month_letters_are : (k : Month) → length (take 3 (month_name k)) ≡ 3
month_letters_are January = refl
month_letters_are February = refl
month_letters_are March = refl
month_letters_are April = refl
month_letters_are May = refl
month_letters_are June = refl
month_letters_are July = refl
month_letters_are August = refl
month_letters_are September = refl
month_letters_are October = refl
month_letters_are November = refl
month_letters_are December = refl

-- ---- weekdays

weekday_named : (k : Weekday) (rest : List ℕ) → weekday_of_letters 3 (take 3 (weekday_name k ++ rest)) ≡ Some k
unfolding weekday_of_letters
weekday_named Mon rest = refl
weekday_named Tue rest = refl
weekday_named Wed rest = refl
weekday_named Thu rest = refl
weekday_named Fri rest = refl
weekday_named Sat rest = refl
weekday_named Sun rest = refl

weekday_begins : (k : Weekday) (rest : List ℕ) → weekday_of_letters 3 (take 3 (weekday_text k ++ rest)) ≡ Some k
unfolding weekday_of_letters
weekday_begins Mon rest = refl
weekday_begins Tue rest = refl
weekday_begins Wed rest = refl
weekday_begins Thu rest = refl
weekday_begins Fri rest = refl
weekday_begins Sat rest = refl
weekday_begins Sun rest = refl

weekday_same : (k : Weekday) (rest : List ℕ) → str_eq_ignore_ascii_case (take (length (weekday_name k)) (weekday_name k ++ rest)) (weekday_name k) ≡ true
weekday_same Mon rest = refl
weekday_same Tue rest = refl
weekday_same Wed rest = refl
weekday_same Thu rest = refl
weekday_same Fri rest = refl
weekday_same Sat rest = refl
weekday_same Sun rest = refl

pub weekday_long : (k : Weekday) → 3 ≤ length (weekday_name k)
weekday_long Mon = omega arith
weekday_long Tue = omega arith
weekday_long Wed = omega arith
weekday_long Thu = omega arith
weekday_long Fri = omega arith
weekday_long Sat = omega arith
weekday_long Sun = omega arith

weekday_opens : (k : Weekday) (rest : List ℕ) → opens (weekday_name k ++ rest) ≡ true
weekday_opens Mon rest = refl
weekday_opens Tue rest = refl
weekday_opens Wed rest = refl
weekday_opens Thu rest = refl
weekday_opens Fri rest = refl
weekday_opens Sat rest = refl
weekday_opens Sun rest = refl

weekday_letters_open : (k : Weekday) (rest : List ℕ) → opens (weekday_text k ++ rest) ≡ true
weekday_letters_open Mon rest = refl
weekday_letters_open Tue rest = refl
weekday_letters_open Wed rest = refl
weekday_letters_open Thu rest = refl
weekday_letters_open Fri rest = refl
weekday_letters_open Sat rest = refl
weekday_letters_open Sun rest = refl

-- ---- a word

not_less : (a b : ℕ) → b ≤ a → nat_lt a b ≡ false
not_less a b h = grind (arith, nat_tests, h)

long_enough : (word : WordField) (text rest : List ℕ) (p : Parsed) → least_letters word ≤ length text
    → word_read word (at_rest (text ++ rest) p) ≡ letters_read word (at_rest (text ++ rest) p)
unfolding word_read
long_enough word text rest p long =
    ap (λ (b : Bool). if b then Err (stopped TooShort (text ++ rest)) else letters_read word (at_rest (text ++ rest) p))
    (not_less (length (text ++ rest)) (least_letters word) (omega (arith, length-append text rest, long)))

-- a whole name is taken whole
whole_len : (name rest : List ℕ) → str_eq_ignore_ascii_case (take (length name) (name ++ rest)) name ≡ true → name_len true name (name ++ rest) ≡ length name
whole_len name rest same =
    ap (λ (b : Bool). if true && b && str_eq_ignore_ascii_case (take (length name) (name ++ rest)) name then length name else 3)
    (le-leb (length name) (length (name ++ rest)) (omega (arith, length-append name rest)))
    ∙ ap (λ (b : Bool). if true && true && b then length name else 3) same

put_front : (count : ℕ) (text rest : List ℕ) (part : Part) (v : ℤ) (p q : Parsed) → count ≡ length text → put part v p ≡ Ok q
    → put_behind count (text ++ rest) part v p ≡ Ok (at_rest rest q)
put_front count text rest part v p q is done =
    ap (λ (k : ℕ). put_behind k (text ++ rest) part v p) is
    ∙ ap (λ (l : List ℕ). progress (put part v p) l (text ++ rest)) (front_is (text ++ rest) text rest (length text) refl refl).1
    ∙ ap (λ (o : Result Parsed ReadFault). progress o rest (text ++ rest)) done

month_name_back : (k : Month) (rest : List ℕ) (p q : Parsed) → put MonthOfYear (pos (number_from_month k)) p ≡ Ok q
    → word_read MonthName (at_rest (month_name k ++ rest) p) ≡ Ok (at_rest rest q)
unfolding month_read
month_name_back k rest p q put =
    long_enough MonthName (month_name k) rest p (omega (arith, month_letters_are k, length-take 3 (month_name k)))
    ∙ ap (λ (o : Option Month). month_behind o true (month_name k ++ rest) p) (month_named k rest)
    ∙ put_front _ (month_name k) rest MonthOfYear _ p q (whole_len (month_name k) rest (month_same k rest)) put

month_letters_back : (k : Month) (rest : List ℕ) (p q : Parsed) → put MonthOfYear (pos (number_from_month k)) p ≡ Ok q
    → word_read MonthLetters (at_rest (take 3 (month_name k) ++ rest) p) ≡ Ok (at_rest rest q)
unfolding month_read
month_letters_back k rest p q put =
    long_enough MonthLetters (take 3 (month_name k)) rest p (omega (arith, month_letters_are k))
    ∙ ap (λ (o : Option Month). month_behind o false (take 3 (month_name k) ++ rest) p) (month_begins k rest)
    ∙ put_front 3 (take 3 (month_name k)) rest MonthOfYear _ p q (sym (month_letters_are k)) put

weekday_name_back : (k : Weekday) (rest : List ℕ) (p q : Parsed) → put DayOfWeek (pos (number_from_monday k)) p ≡ Ok q
    → word_read WeekdayName (at_rest (weekday_name k ++ rest) p) ≡ Ok (at_rest rest q)
unfolding weekday_read
weekday_name_back k rest p q put =
    long_enough WeekdayName (weekday_name k) rest p (weekday_long k)
    ∙ ap (λ (o : Option Weekday). weekday_behind o true (weekday_name k ++ rest) p) (weekday_named k rest)
    ∙ put_front _ (weekday_name k) rest DayOfWeek _ p q (whole_len (weekday_name k) rest (weekday_same k rest)) put

weekday_letters_back : (k : Weekday) (rest : List ℕ) (p q : Parsed) → put DayOfWeek (pos (number_from_monday k)) p ≡ Ok q
    → word_read WeekdayLetters (at_rest (weekday_text k ++ rest) p) ≡ Ok (at_rest rest q)
unfolding weekday_read
weekday_letters_back k rest p q put =
    long_enough WeekdayLetters (weekday_text k) rest p (omega (arith, length-weekday_text k))
    ∙ ap (λ (o : Option Weekday). weekday_behind o false (weekday_text k ++ rest) p) (weekday_begins k rest)
    ∙ put_front 3 (weekday_text k) rest DayOfWeek _ p q (sym (length-weekday_text k)) put

-- the half of the day by its first hour
abbrev half_at : Bool → ℤ
half_at morning = if morning then pos 0 else pos 1

half_is : (t : TimeOfDay) → IsTime t → (b : Bool) → nat_lt (hour_of t) 12 ≡ b → pos (hour_of t / 12) ≡ half_at b
half_is t time true e = let few : hour_of t < 12 = grind (arith, nat_tests) in ap (λ (k : ℕ). pos k) (omega (arith, few))
half_is t time false e = let many : 12 ≤ hour_of t = grind (arith, nat_tests) in ap (λ (k : ℕ). pos k) (omega (arith, many, time.second))

half_back : (morning : Bool) (rest : List ℕ) (p q : Parsed) → put HourDiv12 (half_at morning) p ≡ Ok q
    → word_read Half (at_rest ((if morning then codes "AM" else codes "PM") ++ rest) p) ≡ Ok (at_rest rest q)
unfolding half_read
half_back true rest p q put =
    long_enough Half (codes "AM") rest p (omega arith) ∙ put_front 2 (codes "AM") rest HourDiv12 (pos 0) p q refl put
half_back false rest p q put =
    long_enough Half (codes "PM") rest p (omega arith) ∙ put_front 2 (codes "PM") rest HourDiv12 (pos 1) p q refl put

small_half_back : (morning : Bool) (rest : List ℕ) (p q : Parsed) → put HourDiv12 (half_at morning) p ≡ Ok q
    → word_read SmallHalf (at_rest ((if morning then codes "am" else codes "pm") ++ rest) p) ≡ Ok (at_rest rest q)
unfolding half_read
small_half_back true rest p q put =
    long_enough SmallHalf (codes "am") rest p (omega arith) ∙ put_front 2 (codes "am") rest HourDiv12 (pos 0) p q refl put
small_half_back false rest p q put =
    long_enough SmallHalf (codes "pm") rest p (omega arith) ∙ put_front 2 (codes "pm") rest HourDiv12 (pos 1) p q refl put

half_opens : (morning : Bool) (rest : List ℕ) → opens ((if morning then codes "AM" else codes "PM") ++ rest) ≡ true
half_opens true rest = refl
half_opens false rest = refl

small_half_opens : (morning : Bool) (rest : List ℕ) → opens ((if morning then codes "am" else codes "pm") ++ rest) ≡ true
small_half_opens true rest = refl
small_half_opens false rest = refl

abbrev month_test : ℕ → Bool
month_test k = number_from_month (month_from_number (k + 1)) == k + 1

month_again : (n : ℤ) → number_from_month (month_from_number (month_of n)) ≡ month_of n
month_again n =
    let name = (calendar_name-exists n).0 in
    let same : month_of n - 1 + 1 ≡ month_of n = omega (arith, name) in
    eqb-true (number_from_month (month_from_number (month_of n))) (month_of n)
    (sym (ap (λ (k : ℕ). number_from_month (month_from_number k) == k) same) ∙ agree_below_at month_test (λ j. true) 12 (month_of n - 1) refl (omega (arith, name)))

month_put : (q : Parsed) (m : Moment) (x : ℤ) → put MonthOfYear (pos (number_from_month (month_from_number (month_of m.date)))) (parts_of q m x) ≡ Ok (parts_of (with_named MonthOfYear q) m x)
month_put q m x = ap (λ (k : ℕ). put MonthOfYear (pos k) (parts_of q m x)) (month_again m.date) ∙ put_month q m x

half_put : (q : Parsed) (m : Moment) (x : ℤ) → IsTime m.time → put HourDiv12 (half_at (nat_lt (hour_of m.time) 12)) (parts_of q m x) ≡ Ok (parts_of (with_named HourDiv12 q) m x)
half_put q m x time = ap (λ (v : ℤ). put HourDiv12 v (parts_of q m x)) (sym (half_is m.time time (nat_lt (hour_of m.time) 12) refl)) ∙ put_half q m x time

pub word_back : (word : WordField) (rest : List ℕ) (q : Parsed) (m : Moment) (x : ℤ) → IsTime m.time
    → word_read word (at_rest (word_text word m ++ rest) (parts_of q m x)) ≡ Ok (at_rest rest (parts_of (with_named (word_part word) q) m x))
unfolding word_text
word_back MonthName rest q m x time = month_name_back (month_from_number (month_of m.date)) rest _ _ (month_put q m x)
word_back MonthLetters rest q m x time = month_letters_back (month_from_number (month_of m.date)) rest _ _ (month_put q m x)
word_back WeekdayName rest q m x time = weekday_name_back (weekday_of m.date) rest _ _ (put_weekday q m x)
word_back WeekdayLetters rest q m x time = weekday_letters_back (weekday_of m.date) rest _ _ (put_weekday q m x)
word_back Half rest q m x time = half_back (nat_lt (hour_of m.time) 12) rest _ _ (half_put q m x time)
word_back SmallHalf rest q m x time = small_half_back (nat_lt (hour_of m.time) 12) rest _ _ (half_put q m x time)

pub word_opens : (word : WordField) (rest : List ℕ) (m : Moment) → opens (word_text word m ++ rest) ≡ true
unfolding word_text
word_opens MonthName rest m = month_opens (month_from_number (month_of m.date)) rest
word_opens MonthLetters rest m = month_letters_open (month_from_number (month_of m.date)) rest
word_opens WeekdayName rest m = weekday_opens (weekday_of m.date) rest
word_opens WeekdayLetters rest m = weekday_letters_open (weekday_of m.date) rest
word_opens Half rest m = half_opens (nat_lt (hour_of m.time) 12) rest
word_opens SmallHalf rest m = small_half_opens (nat_lt (hour_of m.time) 12) rest
