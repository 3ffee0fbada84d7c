-- A byte, a number, a word and a fraction are read exactly where their pieces stand.
use Rattle.std.proofs.Common.{◌≡◌, ℕ, suc, ◌+◌, ◌-◌, ◌*◌, ◌^◌, ◌<◌, ◌≤◌, ◌==◌, ◌&&◌, ◌⊎◌, inl, inr, nat_lt, nat_le, min, Bool, true, false, if◌then◌else◌, List, [], ◌∷◌, ◌++◌, drop, take, take-append-drop, take-take, length, length-append, length-take, ℤ, pos, Option, Some, None, Result, Ok, Err, refl, ap, sym, ◌∙◌, arith}
use Rattle.std.proofs.lemmas.Bool.{and_parts, false≢true}
use Rattle.std.proofs.lemmas.Bool.Decides.{nat_tests}
use Rattle.std.proofs.lemmas.List.Sums.{prefix_len-le-length}
use Rattle.std.proofs.lemmas.Option.{cond_some}
use Rattle.std.specs.List.{list_all, prefix_len}
use Rattle.std.specs.Str.{all_ascii_digits, str_eq_ignore_ascii_case}
use Rattle.chrono_datetime.specs.Month.{month_name, number_from_month}
use Rattle.chrono_datetime.specs.Names.{month_of_letters, weekday_name, weekday_of_letters}
use Rattle.chrono_datetime.specs.Weekday.{number_from_monday}
use Rattle.chrono_datetime.specs.declared.Month.{Month as MonthOf}
use Rattle.chrono_datetime.specs.declared.Month.TheVariants.{January, February, March, April, May, June, July, August, September, October, November, December}
use Rattle.chrono_datetime.specs.declared.Weekday.{Weekday}
use Rattle.chrono_text.proofs.AnswerLemmas.{same_Ok}
use Rattle.chrono_text.proofs.TextLemmas.{front_is}
use Rattle.chrono_text.specs.Numbers.{digits_of, natural_of, signed, value_of}
use Rattle.chrono_pattern.specs.NumberReads.{digits_in, digits_read, has_sign, most_digits, number_put, number_read, signed_read, value_read}
use Rattle.chrono_pattern.specs.OffsetReads.{at_rest}
use Rattle.chrono_pattern.specs.Parts.{put}
use Rattle.chrono_pattern.specs.Progress.{Progress, behind_blanks, byte_read, class_len, is_of, is_pattern_blank, literal_read, progress, stopped}
use Rattle.chrono_pattern.specs.SubsecondReads.{fixed_read, places_read, places_value, point_behind, subsecond_read}
use Rattle.chrono_pattern.specs.TextPieces.{AllOf, AreFrontDigits, IsByte, IsNothing, NoneOf, ReadsBlank, ReadsByte, ReadsHalf, ReadsMonth, ReadsNumber, ReadsPlaces, ReadsPoint, ReadsSubsecond, ReadsWeekday, ReadsWord, SkipsAll, is_below, may_have, most_with, sign_text}
use Rattle.chrono_pattern.specs.WordReads.{half_behind, half_of, half_read, least_letters, letters_read, month_behind, month_read, name_len, weekday_behind, weekday_read, word_read}
use Rattle.chrono_pattern.specs.declared.class.Class.{Class}
use Rattle.chrono_pattern.specs.declared.class.Class.TheVariants.{Blank, Digit}
use Rattle.chrono_pattern.specs.declared.error.ReadFault.{ReadFault}
use Rattle.chrono_pattern.specs.declared.error.ReadFault.TheVariants.{Invalid, TooShort}
use Rattle.chrono_pattern.specs.declared.item.NumberField.{NumberField}
use Rattle.chrono_pattern.specs.declared.item.WordField.{WordField}
use Rattle.chrono_pattern.specs.declared.item.WordField.TheVariants.{MonthName, MonthLetters, WeekdayName, WeekdayLetters, Half, SmallHalf}
use Rattle.chrono_pattern.specs.declared.parsed.Parsed.{Parsed}
use Rattle.chrono_pattern.specs.declared.parsed.Part.TheVariants.{DayOfWeek, HourDiv12, MonthOfYear, NanosecondOfSecond}
use Rattle.chrono_pattern.specs.declared.stop.Stop.{Stop}
use Rattle.chrono_pattern.proofs.BackDigits.{IsDigits, blanks_go, digits_back, digits_stay, unsigned_digits}
use Rattle.chrono_pattern.proofs.BackNumbers.{front_stays}
use Rattle.chrono_pattern.proofs.BackWords.{weekday_long}
use Rattle.chrono_pattern.proofs.OffsetExact.{front_all, no_answer, same_byte}

-- the reader reads exactly where the piece stands
abbrev pub Exact : (Progress → Result Progress Stop) → (Progress → Progress → Type 0) → Type 0
Exact f Piece = (r q : Progress) → (f r ≡ Ok q → Piece r q) × (Piece r q → f r ≡ Ok q)

-- ---- the bytes of a class in front of a text

pub run_counted : (class : Class) (bytes rest : List ℕ) → AllOf class bytes → class_len class (bytes ++ rest) ≡ length bytes + class_len class rest
unfolding class_len
run_counted class [] rest all = omega arith
run_counted class (c ∷ bytes) rest all =
    let parts = and_parts (is_of class c) (list_all (is_of class) bytes) all in
    ap (λ (b : Bool). if b then 1 + prefix_len (is_of class) (bytes ++ rest) else 0) parts.0 ∙ omega (arith, run_counted class bytes rest parts.1)

front_ends_by : (class : Class) (c : ℕ) (text : List ℕ) → NoneOf class (drop (class_len class text) text) → (b : Bool) → is_of class c ≡ b
    → class_len class (drop (if b then 1 + prefix_len (is_of class) text else 0) (c ∷ text)) ≡ 0
unfolding class_len
front_ends_by class c text ends true e =
    let more : 1 + prefix_len (is_of class) text ≡ suc (prefix_len (is_of class) text) = omega arith in
    ap (λ (k : ℕ). prefix_len (is_of class) (drop k (c ∷ text))) more ∙ ends
front_ends_by class c text ends false e = ap (λ (b : Bool). if b then 1 + prefix_len (is_of class) text else 0) e

-- none is behind them
pub front_ends : (class : Class) (text : List ℕ) → NoneOf class (drop (class_len class text) text)
unfolding class_len
front_ends class [] = refl
front_ends class (c ∷ text) = front_ends_by class c text (front_ends class text) (is_of class c) refl

pub front_within : (class : Class) (text : List ℕ) → class_len class text ≤ length text
unfolding class_len
front_within class text = prefix_len-le-length (is_of class) text

-- as many bytes as stand there are so many
pub front_long : (text : List ℕ) (k : ℕ) → k ≤ length text → length (take k text) ≡ k
front_long text k few = omega (arith, length-take k text, few)

pub behind_run : (class : Class) (bytes rest : List ℕ) → AllOf class bytes → NoneOf class rest → drop (class_len class (bytes ++ rest)) (bytes ++ rest) ≡ rest
behind_run class bytes rest all ends =
    (front_is (bytes ++ rest) bytes rest (class_len class (bytes ++ rest)) (omega (arith, run_counted class bytes rest all, ends)) refl).1

-- parts that are put, and the text behind them
pub put_gives : (o : Result Parsed ReadFault) (rest text : List ℕ) (q : Progress) → progress o rest text ≡ Ok q → (o ≡ Ok q.parsed) × (rest ≡ q.rest)
put_gives (Err e) rest text q h = no_answer _ _ h
put_gives (Ok p) rest text q h = let same = same_Ok _ _ h in (ap (λ (r : Progress). Ok r.parsed) same, ap (λ (r : Progress). r.rest) same)

pub put_done : (o : Result Parsed ReadFault) (rest text : List ℕ) (q : Progress) → o ≡ Ok q.parsed → rest ≡ q.rest → progress o rest text ≡ Ok q
put_done o rest text q done is = ap (λ (s : Result Parsed ReadFault). progress s rest text) done ∙ ap (λ (l : List ℕ). Ok (at_rest l q.parsed)) is

-- ---- bytes

pub skips : (class : Class) (r q : Progress) → at_rest (drop (class_len class r.rest) r.rest) r.parsed ≡ q → SkipsAll class r q
skips class r q e =
    let rest = ap (λ (s : Progress). s.rest) e in
    let count = class_len class r.rest in
    record {
      bytes = take count r.rest;
      all = front_all class r.rest;
      ends = ap (λ (l : List ℕ). class_len class l) (sym rest) ∙ front_ends class r.rest;
      written = sym (take-append-drop count r.rest) ∙ ap (λ (l : List ℕ). take count r.rest ++ l) rest;
      same = sym (ap (λ (s : Progress). s.parsed) e);
    }

pub skipped : (class : Class) (r q : Progress) → SkipsAll class r q → at_rest (drop (class_len class r.rest) r.rest) r.parsed ≡ q
skipped class r q is =
    ap (λ (l : List ℕ). at_rest (drop (class_len class l) l) r.parsed) is.written
    ∙ ap (λ (l : List ℕ). at_rest l r.parsed) (behind_run class is.bytes q.rest is.all is.ends)
    ∙ ap (λ (p : Parsed). at_rest q.rest p) (sym is.same)

byte_by : (c d : ℕ) (text : List ℕ) (p : Parsed) (q : Progress) → (b : Bool) → (d == c) ≡ b
    → (if b then Ok (at_rest text p) else Err (stopped Invalid (d ∷ text))) ≡ Ok q → IsByte c (at_rest (d ∷ text) p) q
byte_by c d text p q false e h = no_answer _ _ h
byte_by c d text p q true e h =
    let same = same_Ok _ _ h in
    record {
      written = ap (λ (k : ℕ). k ∷ text) (same_byte d c e) ∙ ap (λ (s : Progress). c ∷ s.rest) same;
      same = sym (ap (λ (s : Progress). s.parsed) same);
    }

pub byte_is : (c : ℕ) (text : List ℕ) (p : Parsed) (q : Progress) → byte_read c (at_rest text p) ≡ Ok q → IsByte c (at_rest text p) q
byte_is c [] p q h = no_answer _ _ h
byte_is c (d ∷ text) p q h = byte_by c d text p q (d == c) refl h

equal_bytes : (c : ℕ) → (c == c) ≡ true
equal_bytes c = grind (arith, nat_tests)

pub byte_is_read : (c : ℕ) (text : List ℕ) (p : Parsed) (q : Progress) → IsByte c (at_rest text p) q → byte_read c (at_rest text p) ≡ Ok q
byte_is_read c text p q is =
    ap (λ (l : List ℕ). byte_read c (at_rest l p)) is.written
    ∙ ap (λ (b : Bool). if b then Ok (at_rest q.rest p) else Err (stopped Invalid (c ∷ q.rest))) (equal_bytes c)
    ∙ ap (λ (s : Parsed). Ok (at_rest q.rest s)) (sym is.same)

pub literal_exact : (c : ℕ) → Exact (literal_read c) (ReadsByte c)
unfolding literal_read
literal_exact c r q = by_blank (is_pattern_blank c)
  where
    by_blank : (b : Bool) → ((if b then Ok (at_rest (behind_blanks r.rest) r.parsed) else byte_read c r) ≡ Ok q → ReadsBlank b c r q)
        × (ReadsBlank b c r q → (if b then Ok (at_rest (behind_blanks r.rest) r.parsed) else byte_read c r) ≡ Ok q)
    by_blank true = (λ h. skips Blank r q (same_Ok _ _ h), λ is. ap (λ (s : Progress). Ok s) (skipped Blank r q is))
    by_blank false = (byte_is c r.rest r.parsed q, byte_is_read c r.rest r.parsed q)

-- ---- digits

if_some : (t : Bool) (o : Option ℕ) (n : ℕ) → (if t then o else None) ≡ Some n → (t ≡ true) × (o ≡ Some n)
if_some true o n h = (refl, h)
if_some false o n h = let wrong : ⊥ = cc in absurd wrong

natural_digits : (ds : List ℕ) (n : ℕ) → natural_of ds ≡ Some n → IsDigits ds n
unfolding natural_of
natural_digits [] n h = let wrong : ⊥ = cc in absurd wrong
natural_digits (c ∷ cs) n h =
    let k = cond_some (all_ascii_digits (c ∷ cs)) (value_of (c ∷ cs)) n h in record { tested = k.0; some = omega arith; value = k.1 }

pub numeral : (most n : ℕ) (ds : List ℕ) → digits_of most ds ≡ Some n → IsDigits ds n × (length ds ≤ most)
unfolding digits_of
numeral most n ds h =
    let both = if_some (nat_le (length ds) most) (natural_of ds) n h in
    (natural_digits ds n both.1, few (length ds) both.0)
  where
    few : (k : ℕ) → nat_le k most ≡ true → k ≤ most
    few k e = grind (arith, nat_tests, e)

-- digits in front of a text, and what they give
pub record GivesDigits (field : NumberField) (most : ℕ) (negative : Bool) (text : List ℕ) (p : Parsed) (q : Progress) : Type 0 where
  pub digits : List ℕ
  pub n : ℕ
  pub are : AreFrontDigits most digits q.rest n
  pub written : text ≡ digits ++ q.rest
  pub given : number_put field (signed negative n) p ≡ Ok q.parsed

digits_by : (field : NumberField) (most : ℕ) (negative : Bool) (text : List ℕ) (p : Parsed) (q : Progress) → (o : Option ℕ)
    → digits_of most (take (digits_in most text) text) ≡ o → value_read o field most negative text p ≡ Ok q → GivesDigits field most negative text p q
digits_by field most negative text p q None is h = no_answer _ _ h
digits_by field most negative text p q (Some n) is h =
    let k = digits_in most text in
    let gives = put_gives (number_put field (signed negative n) p) (drop k text) text q h in
    let count = class_len Digit text in
    let within = front_within Digit text in
    record {
      digits = take k text;
      n = n;
      are = record {
        value = is;
        ends = λ (less : length (take k text) < most).
            let all : k ≡ count = omega (arith, less, length-take k text, within) in
            ap (λ (l : List ℕ). class_len Digit l) (sym gives.1 ∙ ap (λ (j : ℕ). drop j text) all) ∙ front_ends Digit text;
      };
      written = sym (take-append-drop k text) ∙ ap (λ (l : List ℕ). take k text ++ l) gives.1;
      given = gives.0;
    }

pub digits_are_read : (field : NumberField) (most : ℕ) (negative : Bool) (text : List ℕ) (p : Parsed) (q : Progress)
    → digits_read field most negative text p ≡ Ok q → GivesDigits field most negative text p q
unfolding digits_read
digits_are_read field most negative text p q h = digits_by field most negative text p q (digits_of most (take (digits_in most text) text)) refl h

pub digits_read_back : (field : NumberField) (most : ℕ) (negative : Bool) (text : List ℕ) (p : Parsed) (q : Progress)
    → GivesDigits field most negative text p q → digits_read field most negative text p ≡ Ok q
digits_read_back field most negative text p q is =
    let are = numeral most is.n is.digits is.are.value in
    ap (λ (l : List ℕ). digits_read field most negative l p) is.written
    ∙ digits_back field most is.n negative is.digits q.rest p q.parsed are.0 are.1 is.are.ends is.given

-- ---- a sign and digits

record GivesSigned (field : NumberField) (text : List ℕ) (p : Parsed) (q : Progress) : Type 0 where
  sign : Option Bool
  digits : List ℕ
  n : ℕ
  may : may_have field sign ≡ true
  are : AreFrontDigits (most_with field sign) digits q.rest n
  written : text ≡ sign_text sign ++ (digits ++ q.rest)
  given : number_put field (signed (is_below sign) n) p ≡ Ok q.parsed

unsigned_gives : (field : NumberField) (text : List ℕ) (p : Parsed) (q : Progress) → digits_read field (most_digits field) false text p ≡ Ok q → GivesSigned field text p q
unsigned_gives field text p q h =
    let is = digits_are_read field (most_digits field) false text p q h in
    record { sign = None; digits = is.digits; n = is.n; may = refl; are = is.are; written = is.written; given = is.given }

signed_gives : (field : NumberField) (negative : Bool) (c : ℕ) (text : List ℕ) (p : Parsed) (q : Progress) → has_sign field ≡ true → c ≡ (if negative then 45 else 43)
    → digits_read field 9 negative text p ≡ Ok q → GivesSigned field (c ∷ text) p q
signed_gives field negative c text p q has sign h =
    let is = digits_are_read field 9 negative text p q h in
    record {
      sign = Some negative;
      digits = is.digits;
      n = is.n;
      may = has;
      are = is.are;
      written = ap (λ (k : ℕ). k ∷ text) sign ∙ ap (λ (l : List ℕ). (if negative then 45 else 43) ∷ l) is.written;
      given = is.given;
    }

signed_by_plus : (field : NumberField) (c : ℕ) (text : List ℕ) (p : Parsed) (q : Progress) → has_sign field ≡ true → (b : Bool) → (c == 43) ≡ b
    → (if b then digits_read field 9 false text p else digits_read field (most_digits field) false (c ∷ text) p) ≡ Ok q → GivesSigned field (c ∷ text) p q
signed_by_plus field c text p q has true e h = signed_gives field false c text p q has (same_byte c 43 e) h
signed_by_plus field c text p q has false e h = unsigned_gives field (c ∷ text) p q h

signed_by_minus : (field : NumberField) (c : ℕ) (text : List ℕ) (p : Parsed) (q : Progress) → has_sign field ≡ true → (b : Bool) → (c == 45) ≡ b
    → (if b then digits_read field 9 true text p else if c == 43 then digits_read field 9 false text p else digits_read field (most_digits field) false (c ∷ text) p) ≡ Ok q
    → GivesSigned field (c ∷ text) p q
signed_by_minus field c text p q has true e h = signed_gives field true c text p q has (same_byte c 45 e) h
signed_by_minus field c text p q has false e h = signed_by_plus field c text p q has (c == 43) refl h

signed_is : (field : NumberField) (text : List ℕ) (p : Parsed) (q : Progress) → has_sign field ≡ true → signed_read field text p ≡ Ok q → GivesSigned field text p q
unfolding signed_read
signed_is field [] p q has h = no_answer _ _ h
signed_is field (c ∷ text) p q has h = signed_by_minus field c text p q has (c == 45) refl h

minus_read : (field : NumberField) (text : List ℕ) (p : Parsed) → signed_read field (45 ∷ text) p ≡ digits_read field 9 true text p
unfolding signed_read
minus_read field text p = refl

plus_read : (field : NumberField) (text : List ℕ) (p : Parsed) → signed_read field (43 ∷ text) p ≡ digits_read field 9 false text p
unfolding signed_read
plus_read field text p = refl

-- ---- a number

number_gives : (field : NumberField) (r q : Progress) → GivesSigned field (behind_blanks r.rest) r.parsed q → ReadsNumber field r q
number_gives field r q is =
    let count = class_len Blank r.rest in
    let blanks = take count r.rest in
    record {
      blanks = blanks;
      sign = is.sign;
      digits = is.digits;
      n = is.n;
      space = front_all Blank r.rest;
      may = is.may;
      are = is.are;
      written = sym (take-append-drop count r.rest) ∙ ap (λ (l : List ℕ). blanks ++ l) is.written;
      given = is.given;
    }

-- the sign and the digits stay behind the blanks
signed_stay : (sign : Option Bool) (ds rest : List ℕ) (n : ℕ) → IsDigits ds n → behind_blanks (sign_text sign ++ (ds ++ rest)) ≡ sign_text sign ++ (ds ++ rest)
signed_stay None ds rest n are = digits_stay ds rest n are
signed_stay (Some true) ds rest n are = front_stays 45 (ds ++ rest) refl
signed_stay (Some false) ds rest n are = front_stays 43 (ds ++ rest) refl

pub behind_signed : (blanks : List ℕ) (sign : Option Bool) (ds rest : List ℕ) (n : ℕ) → AllOf Blank blanks → IsDigits ds n
    → behind_blanks (blanks ++ (sign_text sign ++ (ds ++ rest))) ≡ sign_text sign ++ (ds ++ rest)
behind_signed blanks sign ds rest n space are = blanks_go blanks (sign_text sign ++ (ds ++ rest)) space ∙ signed_stay sign ds rest n are

number_by_sign : (field : NumberField) (sign : Option Bool) (n : ℕ) (ds : List ℕ) (p : Parsed) (q : Progress) → may_have field sign ≡ true
    → AreFrontDigits (most_with field sign) ds q.rest n → number_put field (signed (is_below sign) n) p ≡ Ok q.parsed → (b : Bool) → has_sign field ≡ b
    → (if b then signed_read field (sign_text sign ++ (ds ++ q.rest)) p else digits_read field (most_digits field) false (sign_text sign ++ (ds ++ q.rest)) p) ≡ Ok q
number_by_sign field None n ds p q may are given true e =
    unsigned_digits field ds q.rest n p (numeral (most_digits field) n ds are.value).0
    ∙ digits_read_back field (most_digits field) false (ds ++ q.rest) p q (record { digits = ds; n = n; are = are; written = refl; given = given })
number_by_sign field None n ds p q may are given false e =
    digits_read_back field (most_digits field) false (ds ++ q.rest) p q (record { digits = ds; n = n; are = are; written = refl; given = given })
number_by_sign field (Some true) n ds p q may are given true e =
    minus_read field (ds ++ q.rest) p ∙ digits_read_back field 9 true (ds ++ q.rest) p q (record { digits = ds; n = n; are = are; written = refl; given = given })
number_by_sign field (Some false) n ds p q may are given true e =
    plus_read field (ds ++ q.rest) p ∙ digits_read_back field 9 false (ds ++ q.rest) p q (record { digits = ds; n = n; are = are; written = refl; given = given })
number_by_sign field (Some negative) n ds p q may are given false e = absurd (false≢true (sym e ∙ may))

number_is : (field : NumberField) (r q : Progress) → (b : Bool) → has_sign field ≡ b
    → (if b then signed_read field (behind_blanks r.rest) r.parsed else digits_read field (most_digits field) false (behind_blanks r.rest) r.parsed) ≡ Ok q → ReadsNumber field r q
number_is field r q true e h = number_gives field r q (signed_is field (behind_blanks r.rest) r.parsed q e h)
number_is field r q false e h = number_gives field r q (unsigned_gives field (behind_blanks r.rest) r.parsed q h)

pub number_exact : (field : NumberField) → Exact (number_read field) (ReadsNumber field)
unfolding number_read
number_exact field r q = (number_is field r q (has_sign field) refl, back)
  where
    back : ReadsNumber field r q → (if has_sign field then signed_read field (behind_blanks r.rest) r.parsed else digits_read field (most_digits field) false (behind_blanks r.rest) r.parsed) ≡ Ok q
    back is =
        let are = numeral (most_with field is.sign) is.n is.digits is.are.value in
        let text = ap (λ (l : List ℕ). behind_blanks l) is.written ∙ behind_signed is.blanks is.sign is.digits q.rest is.n is.space are.0 in
        ap (λ (l : List ℕ). if has_sign field then signed_read field l r.parsed else digits_read field (most_digits field) false l r.parsed) text
        ∙ number_by_sign field is.sign is.n is.digits r.parsed q is.may is.are is.given (has_sign field) refl

-- ---- words

not_less : (a b : ℕ) → nat_lt a b ≡ false → b ≤ a
not_less a b e = grind (arith, nat_tests, e)

less_not : (a b : ℕ) → b ≤ a → nat_lt a b ≡ false
less_not a b few = grind (arith, nat_tests, few)

-- a name has three letters or more, and no more than stand there
name_long : (whole : Bool) (full text : List ℕ) → 3 ≤ length full → 3 ≤ name_len whole full text
name_long whole full text long = by_test (whole && nat_le (length full) (length text) && str_eq_ignore_ascii_case (take (length full) text) full)
  where
    by_test : (b : Bool) → 3 ≤ (if b then length full else 3)
    by_test true = long
    by_test false = omega arith

name_within : (whole : Bool) (full text : List ℕ) → 3 ≤ length text → name_len whole full text ≤ length text
name_within whole full text long = by_test whole (nat_le (length full) (length text)) (str_eq_ignore_ascii_case (take (length full) text) full) refl
  where
    by_test : (a b c : Bool) → nat_le (length full) (length text) ≡ b → (if a && b && c then length full else 3) ≤ length text
    by_test true true true e = grind (arith, nat_tests, e)
    by_test true true false e = long
    by_test true false c e = long
    by_test false b c e = long

months_long : (k : MonthOf) → 3 ≤ length (month_name k)
months_long January = omega arith
months_long February = omega arith
months_long March = omega arith
months_long April = omega arith
months_long May = omega arith
months_long June = omega arith
months_long July = omega arith
months_long August = omega arith
months_long September = omega arith
months_long October = omega arith
months_long November = omega arith
months_long December = omega arith

-- a text in front of which a piece stands is as long as the piece at least
pub front_fits : (text piece rest : List ℕ) → text ≡ piece ++ rest → length piece ≤ length text
front_fits text piece rest is = omega (arith, ap (λ (l : List ℕ). length l) is, length-append piece rest)

month_by : (whole : Bool) (r q : Progress) → 3 ≤ length r.rest → (o : Option MonthOf) → month_of_letters (take 3 r.rest) ≡ o
    → month_behind o whole r.rest r.parsed ≡ Ok q → ReadsMonth whole r q
month_by whole r q long None is h = no_answer _ _ h
month_by whole r q long (Some k) is h =
    let count = name_len whole (month_name k) r.rest in
    let gives = put_gives (put MonthOfYear (pos (number_from_month k)) r.parsed) (drop count r.rest) r.rest q h in
    record {
      month = k;
      name = take count r.rest;
      letters = is;
      long = front_long r.rest count (name_within whole (month_name k) r.rest long);
      written = sym (take-append-drop count r.rest) ∙ ap (λ (l : List ℕ). take count r.rest ++ l) gives.1;
      given = gives.0;
    }

month_is : (whole : Bool) (r q : Progress) → 3 ≤ length r.rest → month_read whole r ≡ Ok q → ReadsMonth whole r q
unfolding month_read
month_is whole r q long h = month_by whole r q long (month_of_letters (take 3 r.rest)) refl h

month_is_read : (whole : Bool) (r q : Progress) → ReadsMonth whole r q → (3 ≤ length r.rest) × (month_read whole r ≡ Ok q)
unfolding month_read
month_is_read whole r q is = (
  omega (arith, front_fits r.rest is.name q.rest is.written, is.long, name_long whole (month_name is.month) r.rest (months_long is.month)),
  ap (λ (o : Option MonthOf). month_behind o whole r.rest r.parsed) is.letters
      ∙ put_done (put MonthOfYear (pos (number_from_month is.month)) r.parsed) _ r.rest q is.given (front_is r.rest is.name q.rest _ is.long (sym is.written)).1,
)

weekday_by : (whole : Bool) (r q : Progress) → 3 ≤ length r.rest → (o : Option Weekday) → weekday_of_letters 3 (take 3 r.rest) ≡ o
    → weekday_behind o whole r.rest r.parsed ≡ Ok q → ReadsWeekday whole r q
weekday_by whole r q long None is h = no_answer _ _ h
weekday_by whole r q long (Some k) is h =
    let count = name_len whole (weekday_name k) r.rest in
    let gives = put_gives (put DayOfWeek (pos (number_from_monday k)) r.parsed) (drop count r.rest) r.rest q h in
    record {
      day = k;
      name = take count r.rest;
      letters = is;
      long = front_long r.rest count (name_within whole (weekday_name k) r.rest long);
      written = sym (take-append-drop count r.rest) ∙ ap (λ (l : List ℕ). take count r.rest ++ l) gives.1;
      given = gives.0;
    }

weekday_is : (whole : Bool) (r q : Progress) → 3 ≤ length r.rest → weekday_read whole r ≡ Ok q → ReadsWeekday whole r q
unfolding weekday_read
weekday_is whole r q long h = weekday_by whole r q long (weekday_of_letters 3 (take 3 r.rest)) refl h

weekday_is_read : (whole : Bool) (r q : Progress) → ReadsWeekday whole r q → (3 ≤ length r.rest) × (weekday_read whole r ≡ Ok q)
unfolding weekday_read
weekday_is_read whole r q is = (
  omega (arith, front_fits r.rest is.name q.rest is.written, is.long, name_long whole (weekday_name is.day) r.rest (weekday_long is.day)),
  ap (λ (o : Option Weekday). weekday_behind o whole r.rest r.parsed) is.letters
      ∙ put_done (put DayOfWeek (pos (number_from_monday is.day)) r.parsed) _ r.rest q is.given (front_is r.rest is.name q.rest _ is.long (sym is.written)).1,
)

half_by : (r q : Progress) → 2 ≤ length r.rest → (o : Option ℤ) → half_of (take 2 r.rest) ≡ o → half_behind o r.rest r.parsed ≡ Ok q → ReadsHalf r q
half_by r q long None is h = no_answer _ _ h
half_by r q long (Some half) is h =
    let gives = put_gives (put HourDiv12 half r.parsed) (drop 2 r.rest) r.rest q h in
    record {
      half = half;
      name = take 2 r.rest;
      letters = is;
      long = front_long r.rest 2 long;
      written = sym (take-append-drop 2 r.rest) ∙ ap (λ (l : List ℕ). take 2 r.rest ++ l) gives.1;
      given = gives.0;
    }

half_is : (r q : Progress) → 2 ≤ length r.rest → half_read r ≡ Ok q → ReadsHalf r q
unfolding half_read
half_is r q long h = half_by r q long (half_of (take 2 r.rest)) refl h

half_is_read : (r q : Progress) → ReadsHalf r q → (2 ≤ length r.rest) × (half_read r ≡ Ok q)
unfolding half_read
half_is_read r q is =
    let split = front_is r.rest is.name q.rest 2 is.long (sym is.written) in (
      omega (arith, front_fits r.rest is.name q.rest is.written, is.long),
      ap (λ (o : Option ℤ). half_behind o r.rest r.parsed) (ap (λ (l : List ℕ). half_of l) split.0 ∙ is.letters)
          ∙ put_done (put HourDiv12 is.half r.parsed) (drop 2 r.rest) r.rest q is.given split.1,
    )

letters_are : (word : WordField) (r q : Progress) → least_letters word ≤ length r.rest → letters_read word r ≡ Ok q → ReadsWord word r q
letters_are MonthName r q long h = month_is true r q long h
letters_are MonthLetters r q long h = month_is false r q long h
letters_are WeekdayName r q long h = weekday_is true r q long h
letters_are WeekdayLetters r q long h = weekday_is false r q long h
letters_are Half r q long h = half_is r q long h
letters_are SmallHalf r q long h = half_is r q long h

letters_are_read : (word : WordField) (r q : Progress) → ReadsWord word r q → (least_letters word ≤ length r.rest) × (letters_read word r ≡ Ok q)
letters_are_read MonthName r q is = month_is_read true r q is
letters_are_read MonthLetters r q is = month_is_read false r q is
letters_are_read WeekdayName r q is = weekday_is_read true r q is
letters_are_read WeekdayLetters r q is = weekday_is_read false r q is
letters_are_read Half r q is = half_is_read r q is
letters_are_read SmallHalf r q is = half_is_read r q is

word_by : (word : WordField) (r q : Progress) → (b : Bool) → nat_lt (length r.rest) (least_letters word) ≡ b
    → (if b then Err (stopped TooShort r.rest) else letters_read word r) ≡ Ok q → ReadsWord word r q
word_by word r q true e h = no_answer _ _ h
word_by word r q false e h = letters_are word r q (not_less (length r.rest) (least_letters word) e) h

pub word_exact : (word : WordField) → Exact (word_read word) (ReadsWord word)
unfolding word_read
word_exact word r q = (
  word_by word r q (nat_lt (length r.rest) (least_letters word)) refl,
  λ (is : ReadsWord word r q).
      let both = letters_are_read word r q is in
      ap (λ (b : Bool). if b then Err (stopped TooShort r.rest) else letters_read word r) (less_not (length r.rest) (least_letters word) both.0) ∙ both.1,
)

-- ---- fractions

places_by : (places : ℕ) (r q : Progress) → places ≤ length r.rest → (o : Option ℕ) → digits_of places (take places r.rest) ≡ o
    → places_value o places places r.rest r.parsed ≡ Ok q → ReadsPlaces places r q
places_by places r q long None is h = no_answer _ _ h
places_by places r q long (Some n) is h =
    let gives = put_gives (put NanosecondOfSecond (pos (n * 10 ^ (9 - places))) r.parsed) (drop places r.rest) r.rest q h in
    record {
      digits = take places r.rest;
      n = n;
      value = is;
      long = front_long r.rest places long;
      written = sym (take-append-drop places r.rest) ∙ ap (λ (l : List ℕ). take places r.rest ++ l) gives.1;
      given = gives.0;
    }

fixed_by : (places : ℕ) (r q : Progress) → (b : Bool) → nat_lt (length r.rest) places ≡ b
    → (if b then Err (stopped TooShort r.rest) else places_read places places r.rest r.parsed) ≡ Ok q → ReadsPlaces places r q
unfolding places_read
fixed_by places r q true e h = no_answer _ _ h
fixed_by places r q false e h = places_by places r q (not_less (length r.rest) places e) (digits_of places (take places r.rest)) refl h

fixed_is_read : (places : ℕ) (r q : Progress) → ReadsPlaces places r q → fixed_read places r ≡ Ok q
unfolding places_read
fixed_is_read places r q is =
    let split = front_is r.rest is.digits q.rest places is.long (sym is.written) in
    let fits = front_fits r.rest is.digits q.rest is.written in
    ap (λ (b : Bool). if b then Err (stopped TooShort r.rest) else places_read places places r.rest r.parsed) (less_not (length r.rest) places (omega (arith, fits, is.long)))
    ∙ ap (λ (o : Option ℕ). places_value o places places r.rest r.parsed) (ap (λ (l : List ℕ). digits_of places l) split.0 ∙ is.value)
    ∙ put_done (put NanosecondOfSecond (pos (is.n * 10 ^ (9 - places))) r.parsed) (drop places r.rest) r.rest q is.given split.1

-- all digits behind a point
record AreBehindPoint (text : List ℕ) (p : Parsed) (q : Progress) : Type 0 where
  digits : List ℕ
  n : ℕ
  all : AllOf Digit digits
  value : digits_of (min (length digits) 9) (take (min (length digits) 9) digits) ≡ Some n
  ends : NoneOf Digit q.rest
  written : text ≡ digits ++ q.rest
  given : put NanosecondOfSecond (pos (n * 10 ^ (9 - min (length digits) 9))) p ≡ Ok q.parsed

pub taken_again : (text : List ℕ) (k j : ℕ) → j ≤ k → take j (take k text) ≡ take j text
taken_again text k j few = take-take j k text few

point_by : (text : List ℕ) (p : Parsed) (q : Progress) → (o : Option ℕ) → digits_of (min (class_len Digit text) 9) (take (min (class_len Digit text) 9) text) ≡ o
    → places_value o (min (class_len Digit text) 9) (class_len Digit text) text p ≡ Ok q → AreBehindPoint text p q
point_by text p q None is h = no_answer _ _ h
point_by text p q (Some n) is h =
    let count = class_len Digit text in
    let long = front_long text count (front_within Digit text) in
    let gives = put_gives (put NanosecondOfSecond (pos (n * 10 ^ (9 - min count 9))) p) (drop count text) text q h in
    record {
      digits = take count text;
      n = n;
      all = front_all Digit text;
      value = ap (λ (k : ℕ). digits_of (min k 9) (take (min k 9) (take count text))) long
          ∙ ap (λ (l : List ℕ). digits_of (min count 9) l) (taken_again text count (min count 9) (omega arith))
          ∙ is;
      ends = ap (λ (l : List ℕ). class_len Digit l) (sym gives.1) ∙ front_ends Digit text;
      written = sym (take-append-drop count text) ∙ ap (λ (l : List ℕ). take count text ++ l) gives.1;
      given = ap (λ (k : ℕ). put NanosecondOfSecond (pos (n * 10 ^ (9 - min k 9))) p) long ∙ gives.0;
    }

point_is_read : (text : List ℕ) (p : Parsed) (q : Progress) → AreBehindPoint text p q → places_read (min (class_len Digit text) 9) (class_len Digit text) text p ≡ Ok q
unfolding places_read
point_is_read text p q is =
    let size = length is.digits in
    let count : class_len Digit text ≡ size =
    ap (λ (l : List ℕ). class_len Digit l) is.written ∙ omega (arith, run_counted Digit is.digits q.rest is.all, is.ends) in
    let split = front_is text is.digits q.rest size refl (sym is.written) in
    let front : take (min size 9) text ≡ take (min size 9) is.digits =
    sym (taken_again text size (min size 9) (omega arith)) ∙ ap (λ (l : List ℕ). take (min size 9) l) split.0 in
    ap (λ (k : ℕ). places_value (digits_of (min k 9) (take (min k 9) text)) (min k 9) k text p) count
    ∙ ap (λ (o : Option ℕ). places_value o (min size 9) size text p) (ap (λ (l : List ℕ). digits_of (min size 9) l) front ∙ is.value)
    ∙ put_done (put NanosecondOfSecond (pos (is.n * 10 ^ (9 - min size 9))) p) (drop size text) text q is.given split.1

with_point : (c : ℕ) (text : List ℕ) (p : Parsed) (q : Progress) → c ≡ 46 → AreBehindPoint text p q → ReadsPoint (at_rest (c ∷ text) p) q
with_point c text p q point is = record {
  digits = is.digits;
  n = is.n;
  all = is.all;
  value = is.value;
  ends = is.ends;
  written = ap (λ (k : ℕ). k ∷ text) point ∙ ap (λ (l : List ℕ). 46 ∷ l) is.written;
  given = is.given;
}

pub first_of : (c d : ℕ) (text rest : List ℕ) → ◌≡◌ {A = List ℕ} (c ∷ text) (d ∷ rest) → c ≡ d
first_of c d text rest e = cc

pub no_first : (c : ℕ) (text : List ℕ) → ◌≡◌ {A = List ℕ} [] (c ∷ text) → ⊥
no_first c text e = cc

pub other_byte : (c k : ℕ) → (c == k) ≡ false → c ≡ k → ⊥
other_byte c k e is = grind (arith, nat_tests, e, is)

point_or_not : (c : ℕ) (text : List ℕ) (p : Parsed) (q : Progress) → (b : Bool) → (c == 46) ≡ b
    → (if b then places_read (min (class_len Digit text) 9) (class_len Digit text) text p else Ok (at_rest (c ∷ text) p)) ≡ Ok q
    → ReadsPoint (at_rest (c ∷ text) p) q ⊎ IsNothing 46 (at_rest (c ∷ text) p) q
unfolding places_read
point_or_not c text p q true e h =
    inl (with_point c text p q (same_byte c 46 e) (point_by text p q (digits_of (min (class_len Digit text) 9) (take (min (class_len Digit text) 9) text)) refl h))
point_or_not c text p q false e h =
    inr (record { none = λ rest is. other_byte c 46 e (first_of c 46 text rest is); same = sym (same_Ok _ _ h) })

point_is : (text : List ℕ) (p : Parsed) (q : Progress) → point_behind text p ≡ Ok q → ReadsPoint (at_rest text p) q ⊎ IsNothing 46 (at_rest text p) q
point_is [] p q h = inr (record { none = λ rest is. no_first 46 rest is; same = sym (same_Ok _ _ h) })
point_is (c ∷ text) p q h = point_or_not c text p q (c == 46) refl h

point_given : (text : List ℕ) (p : Parsed) (q : Progress) → ReadsPoint (at_rest text p) q → point_behind text p ≡ Ok q
point_given text p q is =
    ap (λ (l : List ℕ). point_behind l p) is.written
    ∙ point_is_read (is.digits ++ q.rest) p q (record { digits = is.digits; n = is.n; all = is.all; value = is.value; ends = is.ends; written = refl; given = is.given })

nothing_given : (text : List ℕ) (p : Parsed) (q : Progress) → IsNothing 46 (at_rest text p) q → point_behind text p ≡ Ok q
nothing_given [] p q is = ap (λ (s : Progress). Ok s) (sym is.same)
nothing_given (c ∷ text) p q is = by_test (c == 46) refl
  where
    by_test : (b : Bool) → (c == 46) ≡ b → (if b then places_read (min (class_len Digit text) 9) (class_len Digit text) text p else Ok (at_rest (c ∷ text) p)) ≡ Ok q
    by_test true e = absurd (is.none text (ap (λ (k : ℕ). k ∷ text) (same_byte c 46 e)))
    by_test false e = ap (λ (s : Progress). Ok s) (sym is.same)

point_back : (text : List ℕ) (p : Parsed) (q : Progress) → ReadsPoint (at_rest text p) q ⊎ IsNothing 46 (at_rest text p) q → point_behind text p ≡ Ok q
point_back text p q (inl is) = point_given text p q is
point_back text p q (inr is) = nothing_given text p q is

pub subsecond_exact : (point : Bool) (count : ℕ) → Exact (subsecond_read point count) (ReadsSubsecond point count)
unfolding subsecond_read
subsecond_exact true count r q = (point_is r.rest r.parsed q, point_back r.rest r.parsed q)
subsecond_exact false count r q = (fixed_by (min count 9) r q (nat_lt (length r.rest) (min count 9)) refl, fixed_is_read (min count 9) r q)
