-- A number is read back, if what is behind it does not go on as a number.
use Rattle.std.proofs.Common.{◌≡◌, ℕ, zero, suc, ◌+◌, ◌-◌, ◌*◌, ◌<◌, ◌≤◌, ◌^◌, ◌==◌, min, Bool, true, false, ◌&&◌, ◌||◌, if◌then◌else◌, List, [], ◌∷◌, ◌++◌, append_assoc, codes, drop, length, length-append, take, pos, Option, Some, None, Result, Ok, inl, inr, refl, ap, sym, ◌∙◌, arith}
use Rattle.std.proofs.lemmas.Bool.{and_from, and_parts, cases_lt, false≢true}
use Rattle.std.proofs.lemmas.Bool.Decides.{nat_tests}
use Rattle.std.proofs.lemmas.Fmt.{decimal_nonempty, digits_decimal, digits_value-decimal}
use Rattle.std.proofs.lemmas.List.{length-take}
use Rattle.std.proofs.lemmas.Str.Parse.{IsNumeralModel, numerals_by_weight, tells_all_ascii_digits}
use Rattle.std.specs.Char.{is_ascii_digit}
use Rattle.std.specs.Fmt.{decimal}
use Rattle.std.specs.List.{list_all, prefix_len}
use Rattle.std.specs.Str.{all_ascii_digits}
use Rattle.chrono_text.proofs.DigitLemmas.{value_append}
use Rattle.chrono_text.proofs.NaturalLemmas.{digits_read as within_most}
use Rattle.chrono_text.proofs.TextLemmas.{front_is}
use Rattle.chrono_text.specs.Numbers.{digits_of, natural_of, signed, value_of}
use Rattle.chrono_pattern.specs.NumberReads.{digits_in, digits_read, has_sign, most_digits, number_put, number_read, signed_read, value_read}
use Rattle.chrono_pattern.specs.Numbers.{least_digits, padded, padding_of}
use Rattle.chrono_pattern.specs.OffsetReads.{at_rest, behind_colons}
use Rattle.chrono_pattern.specs.Progress.{behind_blanks, class_len, is_of, is_pattern_blank, progress}
use Rattle.chrono_pattern.specs.Separable.{bar_of_number, is_filled, is_zeros}
use Rattle.chrono_pattern.specs.declared.class.Class.TheVariants.{Digit}
use Rattle.chrono_pattern.specs.declared.error.ReadFault.{ReadFault}
use Rattle.chrono_pattern.specs.declared.item.Bar.{Bar}
use Rattle.chrono_pattern.specs.declared.item.Bar.TheVariants.{Free, NoDigit, NoFraction, NoPoint, NoMinutes}
use Rattle.chrono_pattern.specs.declared.item.NumberField.{NumberField}
use Rattle.chrono_pattern.specs.declared.item.NumberField.TheVariants.{Year, Century, YearOfCentury, Quarter, Month, Day, SpacedDay, DayOfYear, FromMonday, FromSunday, IsoYear, IsoYearOfCentury, IsoWeek, WeekFromSunday, WeekFromMonday, Hour, SpacedHour, HalfHour, SpacedHalfHour, Minute, Second, Nanosecond}
use Rattle.chrono_pattern.specs.declared.item.Padding.{Padding}
use Rattle.chrono_pattern.specs.declared.item.Padding.TheVariants.{Usual, Nothing, Spaces, Zeros}
use Rattle.chrono_pattern.specs.declared.parsed.Parsed.{Parsed}
use Rattle.chrono_pattern.proofs.BackNumbers.{blank_goes, front_stays}
use Rattle.chrono_pattern.proofs.ManyDigits.{digits_joined}

-- ---- what a bar says of the text behind it

abbrev pub begins_point : List ℕ → Bool
begins_point [] = false
begins_point (c ∷ rest) = c == 46

abbrev pub Ends : Bar → List ℕ → Type 0
Ends Free rest = true ≡ true
Ends NoDigit rest = class_len Digit rest ≡ 0
Ends NoFraction rest = (class_len Digit rest ≡ 0) × (begins_point (behind_blanks rest) ≡ false)
Ends NoPoint rest = begins_point (behind_blanks rest) ≡ false
Ends NoMinutes rest = class_len Digit (behind_colons rest) ≡ 0

-- ---- blanks in front

-- a text, or what is behind its blanks
abbrev pub skip : Bool → List ℕ → List ℕ
skip true text = behind_blanks text
skip false text = text

pub blanks_go : (blanks text : List ℕ) → list_all is_pattern_blank blanks ≡ true → behind_blanks (blanks ++ text) ≡ behind_blanks text
blanks_go [] text all = refl
blanks_go (c ∷ blanks) text all =
    let parts = and_parts (is_pattern_blank c) (list_all is_pattern_blank blanks) all in
    blank_goes c (blanks ++ text) parts.0 ∙ blanks_go blanks text parts.1

pub skipped : (b : Bool) (blanks text : List ℕ) → list_all is_pattern_blank blanks ≡ true → behind_blanks text ≡ text
    → behind_blanks (skip b (blanks ++ text)) ≡ text
skipped false blanks text all stays = blanks_go blanks text all ∙ stays
skipped true blanks text all stays = ap (λ (l : List ℕ). behind_blanks l) (blanks_go blanks text all ∙ stays) ∙ stays

take_all_of : (p : ℕ → Bool) (xs : List ℕ) (k : ℕ) → list_all p xs ≡ true → list_all p (take k xs) ≡ true
take_all_of p xs zero all = refl
take_all_of p [] (suc k) all = refl
take_all_of p (x ∷ xs) (suc k) all =
    let parts = and_parts (p x) (list_all p xs) all in
    and_from (p x) (list_all p (take k xs)) parts.0 (take_all_of p xs k parts.1)

-- ---- digits

pub record IsDigits (ds : List ℕ) (n : ℕ) : Type 0 where
  pub tested : all_ascii_digits ds ≡ true
  pub some : 0 < length ds
  pub value : value_of ds ≡ n

pub own : IsNumeralModel (λ ds. all_ascii_digits ds ≡ true) value_of
own = numerals_by_weight _ tells_all_ascii_digits value_of (record { empty = refl; more = λ c cs range. refl })

pub decimal_digits : (n : ℕ) → n < 2 ^ 64 → IsDigits (decimal n) n
decimal_digits n fits = record { tested = digits_decimal own n fits; some = decimal_nonempty n fits; value = digits_value-decimal own n fits }

-- zeros in front
abbrev is_zero : ℕ → Bool
is_zero c = c == 48

zero_digit : (c : ℕ) → is_zero c ≡ true → is_ascii_digit c ≡ true
zero_digit c h = grind (arith, nat_tests)

zeros_tested : (zs : List ℕ) → list_all is_zero zs ≡ true → all_ascii_digits zs ≡ true
zeros_tested [] all = refl
zeros_tested (z ∷ zs) all =
    let parts = and_parts (is_zero z) (list_all is_zero zs) all in
    and_from (is_ascii_digit z) (all_ascii_digits zs) (zero_digit z parts.0) (zeros_tested zs parts.1)

zero_worth : (z : ℕ) → is_zero z ≡ true → z - 48 ≡ 0
zero_worth z h = grind (arith, nat_tests)

zeros_value : (zs : List ℕ) → list_all is_zero zs ≡ true → value_of zs ≡ 0
zeros_value [] all = refl
zeros_value (z ∷ zs) all =
    let parts = and_parts (is_zero z) (list_all is_zero zs) all in
    ap (λ (k : ℕ). k * 10 ^ length zs + value_of zs) (zero_worth z parts.0) ∙ omega (arith, zeros_value zs parts.1)

filled : (zs ds : List ℕ) (n : ℕ) → list_all is_zero zs ≡ true → IsDigits ds n → IsDigits (zs ++ ds) n
filled zs ds n zeros is = record {
  tested = digits_joined zs ds ∙ and_from (all_ascii_digits zs) (all_ascii_digits ds) (zeros_tested zs zeros) is.tested;
  some = omega (arith, length-append zs ds, is.some);
  value = value_append zs ds ∙ ap (λ (k : ℕ). k * 10 ^ length ds + value_of ds) (zeros_value zs zeros) ∙ omega (arith, is.value);
}

natural_is : (ds : List ℕ) (n : ℕ) → IsDigits ds n → natural_of ds ≡ Some n
unfolding natural_of
natural_is [] n is = absurd (omega (arith, is.some))
natural_is (c ∷ cs) n is =
    ap (λ (b : Bool). if b then Some (value_of (c ∷ cs)) else None) is.tested ∙ ap (λ (v : ℕ). Some v) is.value

pub digits_are : (most n : ℕ) (ds : List ℕ) → IsDigits ds n → length ds ≤ most → digits_of most ds ≡ Some n
unfolding digits_of
digits_are most n ds is few = within_most ds most n few (natural_is ds n is)

-- all digits in front are counted
pub digits_counted : (ds rest : List ℕ) → all_ascii_digits ds ≡ true → class_len Digit (ds ++ rest) ≡ length ds + class_len Digit rest
unfolding class_len
digits_counted [] rest all = omega arith
digits_counted (c ∷ cs) rest all =
    let parts = and_parts (is_ascii_digit c) (all_ascii_digits cs) all in
    ap (λ (b : Bool). if b then 1 + prefix_len (is_of Digit) (cs ++ rest) else 0) parts.0 ∙ omega (arith, digits_counted cs rest parts.1)

-- the digits end where the number has as many as it may have, or where no digit is behind them
abbrev pub Closed : List ℕ → ℕ → List ℕ → Type 0
Closed ds most rest = length ds < most → class_len Digit rest ≡ 0

digits_in-all : (ds rest : List ℕ) (most : ℕ) → all_ascii_digits ds ≡ true → length ds ≤ most → Closed ds most rest → digits_in most (ds ++ rest) ≡ length ds
digits_in-all ds rest most all few ends = elim (cases_lt (length ds) most) [
  | inl less ↦ omega (arith, digits_counted ds rest all, ends less, less)
  | inr full ↦ omega (arith, digits_counted ds rest all, few, full)
]

pub digits_back : (field : NumberField) (most n : ℕ) (negative : Bool) (ds rest : List ℕ) (p q : Parsed) → IsDigits ds n → length ds ≤ most → Closed ds most rest
    → number_put field (signed negative n) p ≡ Ok q → digits_read field most negative (ds ++ rest) p ≡ Ok (at_rest rest q)
unfolding digits_read
digits_back field most n negative ds rest p q is few ends put =
    let text = ds ++ rest in
    let count = digits_in-all ds rest most is.tested few ends in
    let split = front_is text ds rest (length ds) refl refl in
    ap (λ (o : Option ℕ). value_read o field most negative text p)
    (ap (λ (j : ℕ). digits_of most (take j text)) count ∙ ap (λ (l : List ℕ). digits_of most l) split.0 ∙ digits_are most n ds is few)
    ∙ ap (λ (l : List ℕ). progress (number_put field (signed negative n) p) l text) (ap (λ (j : ℕ). drop j text) count ∙ split.1)
    ∙ ap (λ (o : Result Parsed ReadFault). progress o rest text) put

-- ---- the first digit

digit_no_blank : (c : ℕ) → is_ascii_digit c ≡ true → is_pattern_blank c ≡ false
digit_no_blank c h = grind (arith, nat_tests)

pub digit_no_minus : (c : ℕ) → is_ascii_digit c ≡ true → (c == 45) ≡ false
digit_no_minus c h = grind (arith, nat_tests)

pub digit_no_plus : (c : ℕ) → is_ascii_digit c ≡ true → (c == 43) ≡ false
digit_no_plus c h = grind (arith, nat_tests)

digit_no_point : (c : ℕ) → is_ascii_digit c ≡ true → (c == 46) ≡ false
digit_no_point c h = grind (arith, nat_tests)

pub digits_stay : (ds rest : List ℕ) (n : ℕ) → IsDigits ds n → behind_blanks (ds ++ rest) ≡ ds ++ rest
digits_stay [] rest n is = absurd (omega (arith, is.some))
digits_stay (c ∷ cs) rest n is = front_stays c (cs ++ rest) (digit_no_blank c (and_parts (is_ascii_digit c) (all_ascii_digits cs) is.tested).0)

pub digits_no_point : (ds rest : List ℕ) (n : ℕ) → IsDigits ds n → begins_point (ds ++ rest) ≡ false
digits_no_point [] rest n is = absurd (omega (arith, is.some))
digits_no_point (c ∷ cs) rest n is = digit_no_point c (and_parts (is_ascii_digit c) (all_ascii_digits cs) is.tested).0

pub unsigned_digits : (field : NumberField) (ds rest : List ℕ) (n : ℕ) (p : Parsed) → IsDigits ds n
    → signed_read field (ds ++ rest) p ≡ digits_read field (most_digits field) false (ds ++ rest) p
unfolding signed_read
unsigned_digits field [] rest n p is = absurd (omega (arith, is.some))
unsigned_digits field (c ∷ cs) rest n p is =
    let first = (and_parts (is_ascii_digit c) (all_ascii_digits cs) is.tested).0 in
    let plain = digits_read field (most_digits field) false (c ∷ (cs ++ rest)) p in
    let behind = cs ++ rest in
    ap (λ (b : Bool). if b then digits_read field 9 true behind p else if c == 43 then digits_read field 9 false behind p else plain) (digit_no_minus c first)
    ∙ ap (λ (b : Bool). if b then digits_read field 9 false behind p else plain) (digit_no_plus c first)

-- ---- the text of a number

abbrev pub spaces_of : Padding → ℕ → ℕ → List ℕ
spaces_of Spaces least n = take (least - length (decimal n)) (codes "         ")
spaces_of _ least n = []

abbrev pub number_digits : Padding → ℕ → ℕ → List ℕ
number_digits Zeros least n = take (least - length (decimal n)) (codes "000000000") ++ decimal n
number_digits _ least n = decimal n

pub padded_parts : (padding : Padding) (least n : ℕ) (sign rest : List ℕ)
    → padded padding least sign n ++ rest ≡ spaces_of padding least n ++ (sign ++ (number_digits padding least n ++ rest))
padded_parts Usual least n sign rest = append_assoc sign (decimal n) rest
padded_parts Nothing least n sign rest = append_assoc sign (decimal n) rest
padded_parts Spaces least n sign rest =
    let spaces = take (least - length (decimal n)) (codes "         ") in
    append_assoc (spaces ++ sign) (decimal n) rest ∙ append_assoc spaces sign (decimal n ++ rest)
padded_parts Zeros least n sign rest =
    let zeros = take (least - length (decimal n)) (codes "000000000") in
    append_assoc (sign ++ zeros) (decimal n) rest ∙ append_assoc sign zeros (decimal n ++ rest)
    ∙ ap (λ (l : List ℕ). sign ++ l) (sym (append_assoc zeros (decimal n) rest))

pub spaces_blank : (padding : Padding) (least n : ℕ) → list_all is_pattern_blank (spaces_of padding least n) ≡ true
spaces_blank Usual least n = refl
spaces_blank Nothing least n = refl
spaces_blank Spaces least n = take_all_of is_pattern_blank (codes "         ") (least - length (decimal n)) refl
spaces_blank Zeros least n = refl

pub number_digits-are : (padding : Padding) (least n : ℕ) → n < 2 ^ 64 → IsDigits (number_digits padding least n) n
number_digits-are Usual least n fits = decimal_digits n fits
number_digits-are Nothing least n fits = decimal_digits n fits
number_digits-are Spaces least n fits = decimal_digits n fits
number_digits-are Zeros least n fits =
    filled _ (decimal n) n (take_all_of is_zero (codes "000000000") (least - length (decimal n)) refl) (decimal_digits n fits)

zeros_length : (k n : ℕ) → length (take k (codes "000000000") ++ decimal n) ≡ min k 9 + length (decimal n)
zeros_length k n = omega (arith, length-append (take k (codes "000000000")) (decimal n), length-take k (codes "000000000"))

pub few_digits : (padding : Padding) (least most n : ℕ) → length (decimal n) ≤ most → least ≤ most → length (number_digits padding least n) ≤ most
few_digits Usual least most n few small = few
few_digits Nothing least most n few small = few
few_digits Spaces least most n few small = few
few_digits Zeros least most n few small = omega (arith, zeros_length (least - length (decimal n)) n, few, small)

all_filled : (padding : Padding) (most n : ℕ) → most ≤ 9 → length (decimal n) ≤ most → is_zeros padding ≡ true → length (number_digits padding most n) ≡ most
all_filled Usual most n nine few zeros = absurd (false≢true zeros)
all_filled Nothing most n nine few zeros = absurd (false≢true zeros)
all_filled Spaces most n nine few zeros = absurd (false≢true zeros)
all_filled Zeros most n nine few zeros = omega (arith, zeros_length (most - length (decimal n)) n, few, nine)

one_filled : (padding : Padding) (most n : ℕ) → n < 2 ^ 64 → length (number_digits padding most n) ≤ most → (most == 1) ≡ true → length (number_digits padding most n) ≡ most
one_filled padding most n fits few one =
    let is : most ≡ 1 = grind (arith, nat_tests, one) in
    omega (arith, is, few, (number_digits-are padding most n fits).some)

-- ---- the bar behind a number

filled_by : (a b : Bool) (L most : ℕ) → (a ≡ true → L ≡ most) → (b ≡ true → L ≡ most) → (a || b) ≡ true → L ≡ most
filled_by true b L most one zeros h = one refl
filled_by false b L most one zeros h = zeros h

barred : (a b : Bool) (L most : ℕ) (rest : List ℕ) → (b ≡ true → L ≡ most) → Ends (if a then NoDigit else if b then Free else NoDigit) rest
    → L < most → class_len Digit rest ≡ 0
barred true b L most rest full ends less = ends
barred false true L most rest full ends less = absurd (omega (arith, full refl, less))
barred false false L most rest full ends less = ends

pub number_closed : (wide : Bool) (field : NumberField) (padding : Padding) (n : ℕ) (rest : List ℕ) → n < 2 ^ 64 → most_digits field ≤ 9
    → length (decimal n) ≤ most_digits field → Ends (bar_of_number wide field padding) rest
    → Closed (number_digits (padding_of field padding) (most_digits field) n) (most_digits field) rest
number_closed wide field padding n rest fits nine few ends =
    let most = most_digits field in
    let own = padding_of field padding in
    barred (wide && has_sign field) (is_filled field padding) (length (number_digits own most n)) most rest
    (filled_by (most == 1) (is_zeros own) (length (number_digits own most n)) most
    (one_filled own most n fits (few_digits own most most n few (omega arith))) (all_filled own most n nine few))
    ends

-- ---- numbers without a sign

pub least_is : (field : NumberField) → least_digits field 0 ≡ most_digits field
least_is Year = refl
least_is Century = refl
least_is YearOfCentury = refl
least_is Quarter = refl
least_is Month = refl
least_is Day = refl
least_is SpacedDay = refl
least_is DayOfYear = refl
least_is FromMonday = refl
least_is FromSunday = refl
least_is IsoYear = refl
least_is IsoYearOfCentury = refl
least_is IsoWeek = refl
least_is WeekFromSunday = refl
least_is WeekFromMonday = refl
least_is Hour = refl
least_is SpacedHour = refl
least_is HalfHour = refl
least_is SpacedHalfHour = refl
least_is Minute = refl
least_is Second = refl
least_is Nanosecond = refl

pub digits_within : (field : NumberField) → (0 < most_digits field) × (most_digits field ≤ 9)
digits_within Year = omega arith
digits_within Century = omega arith
digits_within YearOfCentury = omega arith
digits_within Quarter = omega arith
digits_within Month = omega arith
digits_within Day = omega arith
digits_within SpacedDay = omega arith
digits_within DayOfYear = omega arith
digits_within FromMonday = omega arith
digits_within FromSunday = omega arith
digits_within IsoYear = omega arith
digits_within IsoYearOfCentury = omega arith
digits_within IsoWeek = omega arith
digits_within WeekFromSunday = omega arith
digits_within WeekFromMonday = omega arith
digits_within Hour = omega arith
digits_within SpacedHour = omega arith
digits_within HalfHour = omega arith
digits_within SpacedHalfHour = omega arith
digits_within Minute = omega arith
digits_within Second = omega arith
digits_within Nanosecond = omega arith

-- a number without a sign is read back behind blanks
pub unsigned_back : (wide : Bool) (field : NumberField) (padding : Padding) (b : Bool) (n : ℕ) (rest : List ℕ) (p q : Parsed) → has_sign field ≡ false
    → n < 10 ^ 9 → length (decimal n) ≤ most_digits field → Ends (bar_of_number wide field padding) rest → number_put field (pos n) p ≡ Ok q
    → number_read field (at_rest (skip b (padded (padding_of field padding) (least_digits field 0) [] n ++ rest)) p) ≡ Ok (at_rest rest q)
unfolding number_read
unsigned_back wide field padding b n rest p q unsigned fits few ends put =
    let own = padding_of field padding in
    let most = most_digits field in
    let ds = number_digits own most n in
    let within = digits_within field in
    let are = number_digits-are own most n (omega (arith, fits)) in
    let front = ap (λ (k : ℕ). padded own k [] n ++ rest) (least_is field) ∙ padded_parts own most n [] rest in
    let text = ap (λ (l : List ℕ). behind_blanks (skip b l)) front ∙ skipped b (spaces_of own most n) (ds ++ rest) (spaces_blank own most n) (digits_stay ds rest n are) in
    ap (λ (s : Bool). if s then signed_read field (behind_blanks (skip b (padded own (least_digits field 0) [] n ++ rest))) p
    else digits_read field most false (behind_blanks (skip b (padded own (least_digits field 0) [] n ++ rest))) p) unsigned
    ∙ ap (λ (l : List ℕ). digits_read field most false l p) text
    ∙ digits_back field most n false ds rest p q are (few_digits own most most n few (omega arith)) (number_closed wide field padding n rest (omega (arith, fits)) within.1 few ends) put
