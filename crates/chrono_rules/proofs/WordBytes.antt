-- What is written in a rule's lists is letters, digits and `-`, and so no separator.
use Rattle.std.proofs.Common.{◌≡◌, ℕ, zero, suc, ◌+◌, ◌-◌, ◌*◌, ◌^◌, ◌<◌, ◌≤◌, ◌==◌, nat_le, Bool, true, false, not, ◌&&◌, ◌||◌, if◌then◌else◌, List, [], ◌∷◌, ◌++◌, refl, sym, ap, ◌∙◌, arith, rules}
use Rattle.std.specs.Char.{is_ascii_digit}
use Rattle.std.specs.Fmt.{decimal, sign_text}
use Rattle.std.specs.List.{list_all}
use Rattle.std.specs.Str.{all_ascii_digits}
use Rattle.std.proofs.lemmas.Bool.{and_from, and_parts, eqb-true, false≢true, le-leb, or_left, or_right}
use Rattle.std.proofs.lemmas.Fmt.{digits_decimal}
use Rattle.std.proofs.lemmas.Str.Parse.{IsNumeralModel, numerals_by_fold}
use Rattle.chrono_text.specs.Lists.{list_text}
use Rattle.chrono_datetime.specs.Names.{weekday_letters}
use Rattle.chrono_datetime.specs.Weekday.{weekday_from_monday}
use Rattle.chrono_datetime.specs.declared.Weekday.{Weekday}
use Rattle.chrono_datetime.specs.declared.Weekday.TheVariants.{Fri, Mon, Sat, Sun, Thu, Tue, Wed}
use Rattle.chrono_sets.specs.FiniteSets.{FiniteSet, has}
use Rattle.chrono_rules.specs.declared.text.list_writer.Naming.{Naming}
use Rattle.chrono_rules.specs.declared.text.list_writer.Naming.TheVariants.{Each, Number, Numbered}
use Rattle.chrono_rules.specs.WrittenRules.{both_items, item_at, item_text, items, numbered_items, letters_from_monday}
use Rattle.chrono_text.proofs.ListLemmas.{all_of, lacks}

-- a capital letter, a digit or `-`
abbrev pub is_word_byte : ℕ → Bool
is_word_byte b = (b == 45) || (is_ascii_digit b || (nat_le 65 b && nat_le b 90))

abbrev pub are_word_bytes : List ℕ → Bool
are_word_bytes text = list_all is_word_byte text

other : (sep b : ℕ) (t : Bool) → (b == sep) ≡ t → is_word_byte sep ≡ false → is_word_byte b ≡ true → not t ≡ true
other sep b true same none is = absurd (false≢true (sym none ∙ sym (ap is_word_byte (eqb-true b sep same)) ∙ is))
other sep b false same none is = refl

pub word_lacks : (sep : ℕ) (text : List ℕ) → is_word_byte sep ≡ false → are_word_bytes text ≡ true → lacks sep text ≡ true
word_lacks sep [] none are = refl
word_lacks sep (b ∷ bs) none are =
    let parts = and_parts (is_word_byte b) (are_word_bytes bs) are in
    and_from (not (b == sep)) (lacks sep bs) (other sep b (b == sep) refl none parts.0) (word_lacks sep bs none parts.1)

pub words_lack : (sep : ℕ) (texts : List (List ℕ)) → is_word_byte sep ≡ false → list_all are_word_bytes texts ≡ true → list_all (lacks sep) texts ≡ true
words_lack sep [] none are = refl
words_lack sep (text ∷ texts) none are =
    let parts = and_parts (are_word_bytes text) (list_all are_word_bytes texts) are in
    and_from (lacks sep text) (list_all (lacks sep) texts) (word_lacks sep text none parts.0) (words_lack sep texts none parts.1)

-- a list with commas has no semicolon
pub list_lacks : (texts : List (List ℕ)) → list_all are_word_bytes texts ≡ true → lacks 59 (list_text texts) ≡ true
list_lacks [] are = refl
list_lacks (text ∷ []) are = word_lacks 59 text refl (and_parts (are_word_bytes text) true are).0
list_lacks (text ∷ next ∷ texts) are =
    let parts = and_parts (are_word_bytes text) (list_all are_word_bytes (next ∷ texts)) are in
    all_of (λ b. not (b == 59)) text (44 ∷ list_text (next ∷ texts)) (word_lacks 59 text refl parts.0) (list_lacks (next ∷ texts) parts.1)

-- ---- digits

abbrev pub read_on : ℕ → List ℕ → ℕ
read_on n [] = n
read_on n (c ∷ cs) = read_on (10 * n + (c - 48)) cs

pub own : IsNumeralModel (λ ds. all_ascii_digits ds ≡ true) (read_on 0)
own = numerals_by_fold _ (search rules) read_on (search rules)

digit_is : (c : ℕ) → is_ascii_digit c ≡ true → is_word_byte c ≡ true
digit_is c is =
    let letter = nat_le 65 c && nat_le c 90 in
    or_right (c == 45) (is_ascii_digit c || letter) (or_left (is_ascii_digit c) letter is)

pub is_digit : (c : ℕ) → 48 ≤ c → c ≤ 57 → is_word_byte c ≡ true
is_digit c low high = digit_is c (and_from (nat_le 48 c) (nat_le c 57) (le-leb 48 c low) (le-leb c 57 high))

digit_words : (ds : List ℕ) → all_ascii_digits ds ≡ true → are_word_bytes ds ≡ true
digit_words [] are = refl
digit_words (c ∷ cs) are =
    let parts = and_parts (is_ascii_digit c) (all_ascii_digits cs) are in
    and_from (is_word_byte c) (are_word_bytes cs) (digit_is c parts.0) (digit_words cs parts.1)

pub decimal_words : (n : ℕ) → n < 2 ^ 64 → are_word_bytes (decimal n) ≡ true
decimal_words n fits = digit_words (decimal n) (digits_decimal own n fits)

-- ---- items

letters_of : (d : Weekday) → are_word_bytes (weekday_letters d) ≡ true
letters_of Mon = refl
letters_of Tue = refl
letters_of Wed = refl
letters_of Thu = refl
letters_of Fri = refl
letters_of Sat = refl
letters_of Sun = refl

pub letters_words : (w : ℕ) → are_word_bytes (letters_from_monday w) ≡ true
unfolding letters_from_monday
letters_words w = letters_of (weekday_from_monday w)

signed_words : (from_end : Bool) (n : ℕ) → n < 2 ^ 64 → are_word_bytes (sign_text from_end ++ decimal n) ≡ true
signed_words true n fits = decimal_words n fits
signed_words false n fits = decimal_words n fits

item_words : (naming : Naming) (from_end : Bool) (n : ℕ) → n < 2 ^ 64 → are_word_bytes (item_text naming from_end n) ≡ true
unfolding item_text
item_words Number from_end n fits = signed_words from_end n fits
item_words Each from_end n fits = letters_words n
item_words (Numbered w) from_end n fits = all_of is_word_byte (sign_text from_end ++ decimal n) (letters_from_monday w) (signed_words from_end n fits) (letters_words w)

one_words : (b : Bool) (text : List ℕ) → are_word_bytes text ≡ true → list_all are_word_bytes (if b then text ∷ [] else []) ≡ true
one_words true text are = and_from (are_word_bytes text) true are refl
one_words false text are = refl

pub items_words : (listed : FiniteSet) (naming : Naming) (from_end : Bool) (count n : ℕ) → n + count ≤ 384 → list_all are_word_bytes (items listed naming from_end count n) ≡ true
unfolding items
items_words listed naming from_end zero n within = refl
items_words listed naming from_end (suc count) n within =
    all_of are_word_bytes (item_at listed naming from_end n) (items listed naming from_end count (n + 1))
    (one_words (has listed n) (item_text naming from_end n) (item_words naming from_end n (omega (arith, within)))) (items_words listed naming from_end count (n + 1) (omega (arith, within)))

pub both_words : (front back : FiniteSet) (most : ℕ) → most < 384 → list_all are_word_bytes (both_items front back most) ≡ true
both_words front back most small =
    all_of are_word_bytes (items front Number false most 1) (items back Number true most 1)
    (items_words front Number false most 1 (omega (arith, small))) (items_words back Number true most 1 (omega (arith, small)))

pub numbered_words : (from_end : Bool) (sets : List FiniteSet) (w : ℕ) → list_all are_word_bytes (numbered_items from_end sets w) ≡ true
unfolding numbered_items
numbered_words from_end [] w = refl
numbered_words from_end (set ∷ sets) w =
    all_of are_word_bytes (items set (Numbered w) from_end 53 1) (numbered_items from_end sets (w + 1))
    (items_words set (Numbered w) from_end 53 1 (omega arith)) (numbered_words from_end sets (w + 1))
