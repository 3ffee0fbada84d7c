-- Numbers of two digits and of four are read, whatever is behind them, and blanks in front are skipped.
use Rattle.std.proofs.Common.{◌≡◌, ℕ, suc, ◌+◌, ◌/◌, ◌%◌, ◌<◌, ◌≤◌, ◌==◌, min, Bool, true, false, if◌then◌else◌, List, [], ◌∷◌, ◌++◌, drop, take, pos, Option, refl, ap, sym, ◌∙◌, arith}
use Rattle.std.proofs.lemmas.Bool.Decides.{nat_tests}
use Rattle.std.proofs.lemmas.Int.{ints}
use Rattle.std.specs.Char.{is_ascii_digit}
use Rattle.std.specs.Int.RustNames.{int_lt}
use Rattle.std.specs.List.{prefix_len}
use Rattle.chrono_text.proofs.Decimals.{four_places}
use Rattle.chrono_text.proofs.NaturalLemmas.{four_digits-read, two_digits-read}
use Rattle.chrono_text.specs.Numbers.{digits_of}
use Rattle.chrono_text.specs.Text.{all_digits, two_digits}
use Rattle.chrono_pattern.specs.NumberReads.{digits_in, digits_read, has_sign, most_digits, number_put, number_read, signed_read, value_read}
use Rattle.chrono_pattern.specs.Progress.{behind_blanks, class_len, is_of, is_pattern_blank, progress}
use Rattle.chrono_pattern.specs.declared.class.Class.TheVariants.{Blank, Digit}
use Rattle.chrono_pattern.specs.declared.item.NumberField.{NumberField}
use Rattle.chrono_pattern.specs.declared.parsed.Parsed.{Parsed}

-- ---- bytes

digit_is : (d : ℕ) → d ≤ 9 → is_ascii_digit (48 + d) ≡ true
digit_is d small = grind (arith, nat_tests)

not_blank : (d : ℕ) → d ≤ 9 → is_pattern_blank (48 + d) ≡ false
not_blank d small = grind (arith, nat_tests)

-- a byte that is no blank stays in front
pub front_stays : (c : ℕ) (rest : List ℕ) → is_pattern_blank c ≡ false → behind_blanks (c ∷ rest) ≡ c ∷ rest
unfolding class_len
front_stays c rest not = ap (λ (b : Bool). drop (if b then 1 + prefix_len (is_of Blank) rest else 0) (c ∷ rest)) not

-- and a blank goes, with those behind it
pub blank_goes : (c : ℕ) (rest : List ℕ) → is_pattern_blank c ≡ true → behind_blanks (c ∷ rest) ≡ behind_blanks rest
unfolding class_len
blank_goes c rest is =
    let more : 1 + prefix_len (is_of Blank) rest ≡ suc (prefix_len (is_of Blank) rest) = omega arith in
    ap (λ (b : Bool). drop (if b then 1 + prefix_len (is_of Blank) rest else 0) (c ∷ rest)) is
    ∙ ap (λ (k : ℕ). drop k (c ∷ rest)) more

pub nothing_stays : behind_blanks [] ≡ []
unfolding class_len
nothing_stays = refl

pub digit_stays : (d : ℕ) (rest : List ℕ) → d ≤ 9 → behind_blanks ((48 + d) ∷ rest) ≡ (48 + d) ∷ rest
digit_stays d rest small = front_stays (48 + d) rest (not_blank d small)

-- ---- two digits

two_count : (a b : ℕ) (rest : List ℕ) → a ≤ 9 → b ≤ 9 → digits_in 2 ((48 + a) ∷ (48 + b) ∷ rest) ≡ 2
unfolding class_len
two_count a b rest first second =
    let behind = prefix_len (is_of Digit) rest in
    ap (λ (t : Bool). min (if t then 1 + (if is_ascii_digit (48 + b) then 1 + behind else 0) else 0) 2) (digit_is a first)
    ∙ ap (λ (t : Bool). min (1 + (if t then 1 + behind else 0)) 2) (digit_is b second)
    ∙ omega arith

value_two : (field : NumberField) (n : ℕ) (rest : List ℕ) (p : Parsed) → n < 100 → digits_in 2 (two_digits n ++ rest) ≡ 2
    → digits_read field 2 false (two_digits n ++ rest) p ≡ progress (number_put field (pos n) p) rest (two_digits n ++ rest)
unfolding digits_read
value_two field n rest p small count =
    let text = two_digits n ++ rest in
    ap (λ (o : Option ℕ). value_read o field 2 false text p) (ap (λ (j : ℕ). digits_of 2 (take j text)) count ∙ two_digits-read n small)
    ∙ ap (λ (j : ℕ). progress (number_put field (pos n) p) (drop j text) text) count

two_read : (field : NumberField) (n : ℕ) (rest : List ℕ) (p : Parsed) → n < 100
    → digits_read field 2 false (two_digits n ++ rest) p ≡ progress (number_put field (pos n) p) rest (two_digits n ++ rest)
two_read field n rest p small =
    value_two field n rest p small (two_count (n / 10) (n % 10) rest (omega (arith, small)) (omega arith))

two_in_front : (field : NumberField) (n : ℕ) (rest : List ℕ) (p : Parsed) → has_sign field ≡ false → most_digits field ≡ 2 → n < 100
    → number_read field (record { rest = two_digits n ++ rest; parsed = p }) ≡ progress (number_put field (pos n) p) rest (two_digits n ++ rest)
unfolding number_read
two_in_front field n rest p unsigned two small =
    let text = two_digits n ++ rest in
    ap (λ (b : Bool). if b then signed_read field (behind_blanks text) p else digits_read field (most_digits field) false (behind_blanks text) p) unsigned
    ∙ ap (λ (k : ℕ). digits_read field k false (behind_blanks text) p) two
    ∙ ap (λ (l : List ℕ). digits_read field 2 false l p) (digit_stays (n / 10) ((48 + n % 10) ∷ rest) (omega (arith, small)))
    ∙ two_read field n rest p small

-- a text that begins so
in_front : (field : NumberField) (n most : ℕ) (digits text : List ℕ) (p : Parsed) → most_digits field ≡ most → text ≡ digits ++ drop most text
    → number_read field (record { rest = digits ++ drop most text; parsed = p }) ≡ progress (number_put field (pos n) p) (drop most text) (digits ++ drop most text)
    → number_read field (record { rest = text; parsed = p }) ≡ progress (number_put field (pos n) p) (drop (most_digits field) text) text
in_front field n most digits text p is begins read =
    ap (λ (l : List ℕ). number_read field (record { rest = l; parsed = p })) begins
    ∙ read
    ∙ ap (λ (l : List ℕ). progress (number_put field (pos n) p) (drop most text) l) (sym begins)
    ∙ ap (λ (k : ℕ). progress (number_put field (pos n) p) (drop k text) text) (sym is)

pub plain_two : (field : NumberField) (n : ℕ) (text : List ℕ) (p : Parsed) → has_sign field ≡ false → most_digits field ≡ 2 → n < 100
    → text ≡ two_digits n ++ drop 2 text
    → number_read field (record { rest = text; parsed = p }) ≡ progress (number_put field (pos n) p) (drop (most_digits field) text) text
plain_two field n text p unsigned two small begins =
    in_front field n 2 (two_digits n) text p two begins (two_in_front field n (drop 2 text) p unsigned two small)

-- ---- four digits

abbrev four_digits : ℕ → List ℕ
four_digits n = two_digits (n / 100) ++ two_digits (n % 100)

four_count : (a b c d : ℕ) (rest : List ℕ) → a ≤ 9 → b ≤ 9 → c ≤ 9 → d ≤ 9
    → digits_in 4 ((48 + a) ∷ (48 + b) ∷ (48 + c) ∷ (48 + d) ∷ rest) ≡ 4
unfolding class_len
four_count a b c d rest first second third fourth =
    let behind = prefix_len (is_of Digit) rest in
    ap (λ (t : Bool). min (if t then 1 + (if is_ascii_digit (48 + b) then 1 + (if is_ascii_digit (48 + c) then 1 + (if is_ascii_digit (48 + d) then 1 + behind else 0) else 0) else 0) else 0) 4) (digit_is a first)
    ∙ ap (λ (t : Bool). min (1 + (if t then 1 + (if is_ascii_digit (48 + c) then 1 + (if is_ascii_digit (48 + d) then 1 + behind else 0) else 0) else 0)) 4) (digit_is b second)
    ∙ ap (λ (t : Bool). min (1 + (1 + (if t then 1 + (if is_ascii_digit (48 + d) then 1 + behind else 0) else 0))) 4) (digit_is c third)
    ∙ ap (λ (t : Bool). min (1 + (1 + (1 + (if t then 1 + behind else 0)))) 4) (digit_is d fourth)
    ∙ omega arith

value_four : (field : NumberField) (n : ℕ) (rest : List ℕ) (p : Parsed) → n < 10_000 → digits_in 4 (four_digits n ++ rest) ≡ 4
    → digits_read field 4 false (four_digits n ++ rest) p ≡ progress (number_put field (pos n) p) rest (four_digits n ++ rest)
unfolding digits_read
value_four field n rest p small count =
    let text = four_digits n ++ rest in
    ap (λ (o : Option ℕ). value_read o field 4 false text p) (ap (λ (j : ℕ). digits_of 4 (take j text)) count ∙ four_digits-read n (omega (arith, small)))
    ∙ ap (λ (j : ℕ). progress (number_put field (pos n) p) (drop j text) text) count

four_read : (field : NumberField) (n : ℕ) (rest : List ℕ) (p : Parsed) → n < 10_000
    → digits_read field 4 false (four_digits n ++ rest) p ≡ progress (number_put field (pos n) p) rest (four_digits n ++ rest)
four_read field n rest p small =
    value_four field n rest p small
    (four_count (n / 100 / 10) (n / 100 % 10) (n % 100 / 10) (n % 100 % 10) rest (omega (arith, small)) (omega arith) (omega arith) (omega arith))

-- no sign is a digit
no_sign : (d : ℕ) → ((48 + d) == 45) ≡ false
no_sign d = grind (arith, nat_tests)

no_plus : (d : ℕ) → ((48 + d) == 43) ≡ false
no_plus d = grind (arith, nat_tests)

unsigned_four : (field : NumberField) (n : ℕ) (rest : List ℕ) (p : Parsed)
    → signed_read field (four_digits n ++ rest) p ≡ digits_read field (most_digits field) false (four_digits n ++ rest) p
unfolding signed_read
unsigned_four field n rest p =
    let d = n / 100 / 10 in
    let text = four_digits n ++ rest in
    let digits = (48 + n / 100 % 10) ∷ (48 + n % 100 / 10) ∷ (48 + n % 100 % 10) ∷ rest in
    let plain = digits_read field (most_digits field) false text p in
    ap (λ (b : Bool). if b then digits_read field 9 true digits p else if (48 + d) == 43 then digits_read field 9 false digits p else plain) (no_sign d)
    ∙ ap (λ (b : Bool). if b then digits_read field 9 false digits p else plain) (no_plus d)

four_in_front : (field : NumberField) (n : ℕ) (rest : List ℕ) (p : Parsed) → has_sign field ≡ true → most_digits field ≡ 4 → n < 10_000
    → number_read field (record { rest = four_digits n ++ rest; parsed = p }) ≡ progress (number_put field (pos n) p) rest (four_digits n ++ rest)
unfolding number_read
four_in_front field n rest p signed four small =
    let text = four_digits n ++ rest in
    ap (λ (b : Bool). if b then signed_read field (behind_blanks text) p else digits_read field (most_digits field) false (behind_blanks text) p) signed
    ∙ ap (λ (l : List ℕ). signed_read field l p)
    (digit_stays (n / 100 / 10) ((48 + n / 100 % 10) ∷ (48 + n % 100 / 10) ∷ (48 + n % 100 % 10) ∷ rest) (omega (arith, small)))
    ∙ unsigned_four field n rest p
    ∙ ap (λ (k : ℕ). digits_read field k false text p) four
    ∙ four_read field n rest p small

pub plain_four : (field : NumberField) (n : ℕ) (text : List ℕ) (p : Parsed) → has_sign field ≡ true → most_digits field ≡ 4 → n < 10_000
    → text ≡ all_digits 4 n ++ drop 4 text
    → number_read field (record { rest = text; parsed = p }) ≡ progress (number_put field (pos n) p) (drop (most_digits field) text) text
plain_four field n text p signed four small begins =
    let places = ap (λ (l : List ℕ). l ++ drop 4 text) (four_places n small) in
    in_front field n 4 (four_digits n) text p four (begins ∙ places) (four_in_front field n (drop 4 text) p signed four small)

-- ---- an order

pub not_below : (a b : ℕ) → b ≤ a → int_lt (pos a) (pos b) ≡ false
not_below a b le = grind (arith, ints)
