-- An offset that is written whole and the seconds from 1970 are read back.
use Rattle.std.proofs.Common.{◌≡◌, ℕ, suc, ◌+◌, ◌*◌, ◌/◌, ◌%◌, ◌^◌, ◌<◌, ◌≤◌, ◌==◌, Bool, true, false, ◌&&◌, if◌then◌else◌, nat_lt, List, [], codes, ◌∷◌, ◌++◌, drop, length, take, ℤ, pos, negsuc, neg_ℤ, unsigned_abs, Option, Result, Ok, Err, refl, ap, ◌∙◌, arith}
use Rattle.std.proofs.lemmas.Bool.{and_parts, false≢true}
use Rattle.std.proofs.lemmas.Bool.Decides.{nat_tests}
use Rattle.std.proofs.lemmas.Int.{ints}
use Rattle.std.specs.Char.{is_ascii_digit}
use Rattle.std.specs.Fmt.{decimal}
use Rattle.std.specs.Int.RustNames.{int_lt}
use Rattle.std.specs.List.{prefix_len}
use Rattle.std.specs.Str.{all_ascii_digits}
use Rattle.chrono_instant.specs.Offsets.{IsOffset}
use Rattle.chrono_text.proofs.Decimals.{at_most}
use Rattle.chrono_text.proofs.NaturalLemmas.{two_digits-read}
use Rattle.chrono_text.proofs.TextLemmas.{front_is, is_negative-pos}
use Rattle.chrono_text.specs.Numbers.{digits_of, signed}
use Rattle.chrono_text.specs.Text.{two_digits}
use Rattle.chrono_pattern.specs.Kept.{keeps_form, keeps_stamp}
use Rattle.chrono_pattern.specs.OffsetReads.{Taken, at_rest, behind_colons, has_seconds, may_miss_minutes, minutes_taken, offset_read, seconds_behind, signed_offset_read, signed_stamp, size_put, size_taken, stamp_digits, stamp_read, stamp_value, two_taken, utc_or_offset, with_hours, with_minutes, with_seconds, within_two}
use Rattle.chrono_pattern.specs.Parts.{put, put_stamp}
use Rattle.chrono_pattern.specs.Progress.{behind_blanks, class_len, is_of, is_pattern_blank, progress, stopped}
use Rattle.chrono_pattern.specs.Separable.{bar_of_form}
use Rattle.chrono_pattern.specs.ZonedPieces.{hours_piece, offset_piece, stamp_piece}
use Rattle.chrono_pattern.specs.declared.class.Class.TheVariants.{Digit, Gap}
use Rattle.chrono_pattern.specs.declared.error.ReadFault.{ReadFault}
use Rattle.chrono_pattern.specs.declared.error.ReadFault.TheVariants.{OutOfRange, TooShort}
use Rattle.chrono_pattern.specs.declared.item.OffsetForm.{OffsetForm}
use Rattle.chrono_pattern.specs.declared.item.OffsetForm.TheVariants.{Plain, Colon, Seconds, Hours, Loose}
use Rattle.chrono_pattern.specs.declared.parsed.Parsed.{Parsed}
use Rattle.chrono_pattern.specs.declared.parsed.Part.TheVariants.{OffsetFromUtc}
use Rattle.chrono_pattern.proofs.BackDigits.{Ends, IsDigits, decimal_digits, digit_no_minus, digit_no_plus, digits_are, digits_counted, digits_stay as digits_in_front_stay, skip, skipped}
use Rattle.chrono_pattern.proofs.BackNumbers.{front_stays}
use Rattle.chrono_pattern.proofs.BackWords.{colons_stay, opens}

not_less : (a b : ℕ) → b ≤ a → nat_lt a b ≡ false
not_less a b h = grind (arith, nat_tests, h)

pub two_back : (most n : ℕ) (rest : List ℕ) (p : Parsed) → n < 100 → n ≤ most → two_taken most (at_rest (two_digits n ++ rest) p) ≡ Ok (n, at_rest rest p)
unfolding two_taken
two_back most n rest p small few =
    let text = two_digits n ++ rest in
    ap (λ (b : Bool). if b then Err (stopped TooShort text) else within_two (digits_of 2 (take 2 text)) most (at_rest text p)) (not_less (length text) 2 (omega arith))
    ∙ ap (λ (o : Option ℕ). within_two o most (at_rest text p)) (two_digits-read n small)
    ∙ ap (λ (b : Bool). if b then Err (stopped OutOfRange text) else Ok (n, at_rest (drop 2 text) p)) (not_less most n few)

-- ---- colons

no_gap : (d : ℕ) → d ≤ 9 → is_of Gap (48 + d) ≡ false
no_gap d small = grind (arith, nat_tests)

pub digits_stay : (n : ℕ) (rest : List ℕ) → n < 100 → behind_colons (two_digits n ++ rest) ≡ two_digits n ++ rest
digits_stay n rest small = colons_stay (48 + n / 10) ((48 + n % 10) ∷ rest) (no_gap (n / 10) (omega (arith, small)))

colon_goes : (rest : List ℕ) → behind_colons (58 ∷ rest) ≡ behind_colons rest
unfolding class_len
colon_goes rest =
    let more : 1 + prefix_len (is_of Gap) rest ≡ suc (prefix_len (is_of Gap) rest) = omega arith in
    ap (λ (k : ℕ). drop k (58 ∷ rest)) more

-- ---- minutes and seconds

digit_first : (d : ℕ) → d ≤ 9 → is_ascii_digit (48 + d) ≡ true
digit_first d small = grind (arith, nat_tests)

digit_stands : (n : ℕ) (rest : List ℕ) → n < 100 → (class_len Digit (two_digits n ++ rest) == 0) ≡ false
unfolding class_len
digit_stands n rest small =
    ap (λ (b : Bool). (if b then 1 + prefix_len (is_of Digit) ((48 + n % 10) ∷ rest) else 0) == 0) (digit_first (n / 10) (omega (arith, small)))
    ∙ some (prefix_len (is_of Digit) ((48 + n % 10) ∷ rest))
  where
    some : (k : ℕ) → (1 + k == 0) ≡ false
    some k = grind (arith, nat_tests)

pub minutes_back : (missing : Bool) (n : ℕ) (text rest : List ℕ) (p : Parsed) → n ≤ 59 → behind_colons text ≡ two_digits n ++ rest
    → minutes_taken missing (at_rest text p) ≡ Ok (n, at_rest rest p)
unfolding minutes_taken
minutes_back missing n text rest p few is =
    ap (λ (l : List ℕ). if missing && class_len Digit l == 0 then Ok (0, at_rest text p) else two_taken 59 (at_rest l p)) is
    ∙ ap (λ (b : Bool). if missing && b then Ok (0, at_rest text p) else two_taken 59 (at_rest (two_digits n ++ rest) p)) (digit_stands n rest (omega (arith, few)))
    ∙ ap (λ (b : Bool). if b then Ok (0, at_rest text p) else two_taken 59 (at_rest (two_digits n ++ rest) p)) (never missing)
    ∙ two_back 59 n rest p (omega (arith, few)) few
  where
    never : (b : Bool) → (b && false) ≡ false
    never true = refl
    never false = refl

pub no_minutes : (text : List ℕ) (p : Parsed) → class_len Digit (behind_colons text) ≡ 0 → minutes_taken true (at_rest text p) ≡ Ok (0, at_rest text p)
unfolding minutes_taken
no_minutes text p none = ap (λ (k : ℕ). if true && k == 0 then Ok (0, at_rest text p) else two_taken 59 (at_rest (behind_colons text) p)) none

pub no_seconds : (rest : List ℕ) (p : Parsed) → seconds_behind false rest p ≡ Ok (0, at_rest rest p)
no_seconds [] p = refl
no_seconds (c ∷ rest) p = refl

-- ---- the size

abbrev pub hours_of : ℕ → ℕ
hours_of n = n / 3_600

abbrev pub minutes_of : ℕ → ℕ
minutes_of n = n / 60 % 60

-- what stands behind the sign of an offset of n seconds
abbrev pub digits_text : OffsetForm → ℕ → List ℕ → List ℕ
digits_text Plain n rest = two_digits (hours_of n) ++ (two_digits (minutes_of n) ++ rest)
digits_text Colon n rest = two_digits (hours_of n) ++ (58 ∷ (two_digits (minutes_of n) ++ rest))
digits_text Seconds n rest = two_digits (hours_of n) ++ (58 ∷ (two_digits (minutes_of n) ++ (58 ∷ (two_digits (n % 60) ++ rest))))
digits_text Hours n rest = two_digits (hours_of n) ++ rest
digits_text Loose n rest = two_digits (hours_of n) ++ (two_digits (minutes_of n) ++ rest)

whole_minutes : (n : ℕ) → (n % 60 == 0) ≡ true → (hours_of n * 60 + minutes_of n) * 60 + 0 ≡ n
whole_minutes n h = let is : n % 60 ≡ 0 = grind (arith, nat_tests) in omega (arith, is)

whole_hours : (n : ℕ) → (n % 3_600 == 0) ≡ true → (hours_of n * 60 + 0) * 60 + 0 ≡ n
whole_hours n h = let is : n % 3_600 ≡ 0 = grind (arith, nat_tests) in omega (arith, is)

few_minutes : (n : ℕ) → minutes_of n ≤ 59
few_minutes n = omega arith

-- hours and minutes with nothing between them
plain_size : (form : OffsetForm) (n : ℕ) (rest : List ℕ) (p : Parsed) → has_seconds form ≡ false → n < 86_400 → (n % 60 == 0) ≡ true
    → size_taken form (at_rest (two_digits (hours_of n) ++ (two_digits (minutes_of n) ++ rest)) p) ≡ Ok (n, at_rest rest p)
unfolding size_taken
plain_size form n rest p short near keeps =
    let text = two_digits (minutes_of n) ++ rest in
    ap (λ (t : Taken). with_hours t form) (two_back 99 (hours_of n) text p (omega (arith, near)) (omega (arith, near)))
    ∙ ap (λ (t : Taken). with_minutes t form (hours_of n)) (minutes_back (may_miss_minutes form) (minutes_of n) text rest p (few_minutes n) (digits_stay (minutes_of n) rest (omega (arith, few_minutes n))))
    ∙ ap (λ (b : Bool). with_seconds (seconds_behind b rest p) (hours_of n * 60 + minutes_of n)) short
    ∙ ap (λ (t : Taken). with_seconds t (hours_of n * 60 + minutes_of n)) (no_seconds rest p)
    ∙ ap (λ (k : ℕ). Ok (k, at_rest rest p)) (whole_minutes n keeps)

colon_size : (n : ℕ) (rest : List ℕ) (p : Parsed) → n < 86_400 → (n % 60 == 0) ≡ true
    → size_taken Colon (at_rest (digits_text Colon n rest) p) ≡ Ok (n, at_rest rest p)
unfolding size_taken
colon_size n rest p near keeps =
    let text = two_digits (minutes_of n) ++ rest in
    ap (λ (t : Taken). with_hours t Colon) (two_back 99 (hours_of n) (58 ∷ text) p (omega (arith, near)) (omega (arith, near)))
    ∙ ap (λ (t : Taken). with_minutes t Colon (hours_of n)) (minutes_back false (minutes_of n) (58 ∷ text) rest p (few_minutes n) (colon_goes text ∙ digits_stay (minutes_of n) rest (omega (arith, few_minutes n))))
    ∙ ap (λ (t : Taken). with_seconds t (hours_of n * 60 + minutes_of n)) (no_seconds rest p)
    ∙ ap (λ (k : ℕ). Ok (k, at_rest rest p)) (whole_minutes n keeps)

seconds_size : (n : ℕ) (rest : List ℕ) (p : Parsed) → n < 86_400 → size_taken Seconds (at_rest (digits_text Seconds n rest) p) ≡ Ok (n, at_rest rest p)
unfolding size_taken
seconds_size n rest p near =
    let behind = 58 ∷ (two_digits (n % 60) ++ rest) in
    let text = two_digits (minutes_of n) ++ behind in
    let last : n % 60 ≤ 59 = omega arith in
    ap (λ (t : Taken). with_hours t Seconds) (two_back 99 (hours_of n) (58 ∷ text) p (omega (arith, near)) (omega (arith, near)))
    ∙ ap (λ (t : Taken). with_minutes t Seconds (hours_of n)) (minutes_back false (minutes_of n) (58 ∷ text) behind p (few_minutes n) (colon_goes text ∙ digits_stay (minutes_of n) behind (omega (arith, few_minutes n))))
    ∙ ap (λ (t : Taken). with_seconds t (hours_of n * 60 + minutes_of n)) (two_back 59 (n % 60) rest p (omega (arith, last)) last)
    ∙ ap (λ (k : ℕ). Ok (k, at_rest rest p)) (omega arith)

hours_size : (n : ℕ) (rest : List ℕ) (p : Parsed) → n < 86_400 → (n % 3_600 == 0) ≡ true → class_len Digit (behind_colons rest) ≡ 0
    → size_taken Hours (at_rest (two_digits (hours_of n) ++ rest) p) ≡ Ok (n, at_rest rest p)
unfolding size_taken
hours_size n rest p near keeps none =
    ap (λ (t : Taken). with_hours t Hours) (two_back 99 (hours_of n) rest p (omega (arith, near)) (omega (arith, near)))
    ∙ ap (λ (t : Taken). with_minutes t Hours (hours_of n)) (no_minutes rest p none)
    ∙ ap (λ (t : Taken). with_seconds t (hours_of n * 60 + 0)) (no_seconds rest p)
    ∙ ap (λ (k : ℕ). Ok (k, at_rest rest p)) (whole_hours n keeps)

size_back : (form : OffsetForm) (n : ℕ) (rest : List ℕ) (p : Parsed) → keeps_form form n ≡ true → n < 86_400 → Ends (bar_of_form form) rest
    → size_taken form (at_rest (digits_text form n rest) p) ≡ Ok (n, at_rest rest p)
size_back Plain n rest p keeps near ends = plain_size Plain n rest p refl near keeps
size_back Colon n rest p keeps near ends = colon_size n rest p near keeps
size_back Seconds n rest p keeps near ends = seconds_size n rest p near
size_back Hours n rest p keeps near ends = hours_size n rest p near keeps ends
size_back Loose n rest p keeps near ends = plain_size Loose n rest p refl near keeps

-- ---- the sign

pub given : (t : Taken) (n : ℕ) (negative : Bool) (text rest : List ℕ) (p q : Parsed) → t ≡ Ok (n, at_rest rest p)
    → put OffsetFromUtc (if negative then neg_ℤ (pos n) else pos n) p ≡ Ok q → size_put t negative text ≡ Ok (at_rest rest q)
given t n negative text rest p q is done =
    ap (λ (s : Taken). size_put s negative text) is ∙ ap (λ (o : Result Parsed ReadFault). progress o rest text) done

pub ahead : (n : ℕ) → hours_piece (pos n) ≡ 43 ∷ two_digits (hours_of n)
unfolding hours_piece
ahead n = ap (λ (b : Bool). (if b then codes "-" else codes "+") ++ two_digits (hours_of n)) (is_negative-pos n)

pub behind : (n : ℕ) → hours_piece (negsuc n) ≡ 45 ∷ two_digits (hours_of (suc n))
unfolding hours_piece
behind n = refl

-- the text of an offset by the text of its hours
pub piece_by : (form : OffsetForm) (x : ℤ) (c n : ℕ) (rest : List ℕ) → unsigned_abs x ≡ n → hours_piece x ≡ c ∷ two_digits (hours_of n)
    → offset_piece form x ++ rest ≡ c ∷ digits_text form n rest
unfolding offset_piece
piece_by Plain x c n rest size hours =
    ap (λ (h : List ℕ). (h ++ two_digits (minutes_of (unsigned_abs x))) ++ rest) hours
    ∙ ap (λ (k : ℕ). c ∷ (two_digits (hours_of n) ++ (two_digits (minutes_of k) ++ rest))) size
piece_by Colon x c n rest size hours =
    ap (λ (h : List ℕ). (h ++ (58 ∷ two_digits (minutes_of (unsigned_abs x)))) ++ rest) hours
    ∙ ap (λ (k : ℕ). c ∷ (two_digits (hours_of n) ++ (58 ∷ (two_digits (minutes_of k) ++ rest)))) size
piece_by Seconds x c n rest size hours =
    ap (λ (h : List ℕ). ((h ++ (58 ∷ two_digits (minutes_of (unsigned_abs x)))) ++ (58 ∷ two_digits (unsigned_abs x % 60))) ++ rest) hours
    ∙ ap (λ (k : ℕ). c ∷ (two_digits (hours_of n) ++ (58 ∷ (two_digits (minutes_of k) ++ (58 ∷ (two_digits (k % 60) ++ rest)))))) size
piece_by Hours x c n rest size hours = ap (λ (h : List ℕ). h ++ rest) hours
piece_by Loose x c n rest size hours =
    ap (λ (h : List ℕ). (h ++ two_digits (minutes_of (unsigned_abs x))) ++ rest) hours
    ∙ ap (λ (k : ℕ). c ∷ (two_digits (hours_of n) ++ (two_digits (minutes_of k) ++ rest))) size

by_form : (form : OffsetForm) (c : ℕ) (text : List ℕ) (p : Parsed) → is_pattern_blank c ≡ false → utc_or_offset false Loose (c ∷ text) p ≡ signed_offset_read Loose (c ∷ text) p
    → offset_read form (at_rest (c ∷ text) p) ≡ signed_offset_read form (c ∷ text) p
unfolding offset_read
by_form Plain c text p not signed = ap (λ (l : List ℕ). signed_offset_read Plain l p) (front_stays c text not)
by_form Colon c text p not signed = ap (λ (l : List ℕ). signed_offset_read Colon l p) (front_stays c text not)
by_form Seconds c text p not signed = ap (λ (l : List ℕ). signed_offset_read Seconds l p) (front_stays c text not)
by_form Hours c text p not signed = ap (λ (l : List ℕ). signed_offset_read Hours l p) (front_stays c text not)
by_form Loose c text p not signed = ap (λ (l : List ℕ). utc_or_offset false Loose l p) (front_stays c text not) ∙ signed

plus_signed : (text : List ℕ) (p : Parsed) → utc_or_offset false Loose (43 ∷ text) p ≡ signed_offset_read Loose (43 ∷ text) p
unfolding utc_or_offset
plus_signed text p = refl

minus_signed : (text : List ℕ) (p : Parsed) → utc_or_offset false Loose (45 ∷ text) p ≡ signed_offset_read Loose (45 ∷ text) p
unfolding utc_or_offset
minus_signed text p = refl

-- an offset that is written whole is read back
pub offset_back : (form : OffsetForm) (x : ℤ) (rest : List ℕ) (p q : Parsed) → keeps_form form (unsigned_abs x) ≡ true → IsOffset x → Ends (bar_of_form form) rest
    → put OffsetFromUtc x p ≡ Ok q → offset_read form (at_rest (offset_piece form x ++ rest) p) ≡ Ok (at_rest rest q)
unfolding signed_offset_read
offset_back form (pos n) rest p q keeps near ends done =
    let text = digits_text form n rest in
    ap (λ (l : List ℕ). offset_read form (at_rest l p)) (piece_by form (pos n) 43 n rest refl (ahead n))
    ∙ by_form form 43 text p refl (plus_signed text p)
    ∙ given _ n false (43 ∷ text) rest p q (size_back form n rest p keeps near ends) done
offset_back form (negsuc n) rest p q keeps near ends done =
    let text = digits_text form (suc n) rest in
    ap (λ (l : List ℕ). offset_read form (at_rest l p)) (piece_by form (negsuc n) 45 (suc n) rest refl (behind n))
    ∙ by_form form 45 text p refl (minus_signed text p)
    ∙ given _ (suc n) true (45 ∷ text) rest p q (size_back form (suc n) rest p keeps near ends) done

-- it begins with its sign
pub offset_opens : (form : OffsetForm) (x : ℤ) (rest : List ℕ) → opens (offset_piece form x ++ rest) ≡ true
offset_opens form (pos n) rest = ap (λ (l : List ℕ). opens l) (piece_by form (pos n) 43 n rest refl (ahead n))
offset_opens form (negsuc n) rest = ap (λ (l : List ℕ). opens l) (piece_by form (negsuc n) 45 (suc n) rest refl (behind n))

-- ---- the seconds from 1970

pub stamp_counted : (ds rest : List ℕ) (n : ℕ) (negative : Bool) (p q : Parsed) → IsDigits ds n → length ds ≤ 18 → class_len Digit rest ≡ 0
    → put_stamp (signed negative n) p ≡ Ok q → stamp_digits negative (ds ++ rest) p ≡ Ok (at_rest rest q)
unfolding stamp_digits
stamp_counted ds rest n negative p q are few none done =
    let text = ds ++ rest in
    let count : class_len Digit text ≡ length ds = omega (arith, digits_counted ds rest are.tested, none) in
    let split = front_is text ds rest (length ds) refl refl in
    ap (λ (o : Option ℕ). stamp_value o negative text p)
    (ap (λ (j : ℕ). digits_of 18 (take j text)) count ∙ ap (λ (l : List ℕ). digits_of 18 l) split.0 ∙ digits_are 18 n ds are few)
    ∙ ap (λ (l : List ℕ). progress (put_stamp (signed negative n) p) l text) (ap (λ (j : ℕ). drop j text) count ∙ split.1)
    ∙ ap (λ (o : Result Parsed ReadFault). progress o rest text) done

pub unsigned_stamp : (ds rest : List ℕ) (n : ℕ) (p : Parsed) → IsDigits ds n → signed_stamp (ds ++ rest) p ≡ stamp_digits false (ds ++ rest) p
unfolding signed_stamp
unsigned_stamp [] rest n p are = absurd (omega (arith, are.some))
unsigned_stamp (c ∷ cs) rest n p are =
    let first = (and_parts (is_ascii_digit c) (all_ascii_digits cs) are.tested).0 in
    let plain = stamp_digits false (c ∷ (cs ++ rest)) p in
    ap (λ (b : Bool). if b then stamp_digits true (cs ++ rest) p else if c == 43 then stamp_digits false (cs ++ rest) p else plain) (digit_no_minus c first)
    ∙ ap (λ (b : Bool). if b then stamp_digits false (cs ++ rest) p else plain) (digit_no_plus c first)

minus_stamp : (digits : List ℕ) (p : Parsed) → signed_stamp (45 ∷ digits) p ≡ stamp_digits true digits p
unfolding signed_stamp
minus_stamp digits p = refl

-- at most fourteen digits
pub small_stamp : (s : ℤ) → keeps_stamp s ≡ true → unsigned_abs s < 10 ^ 18
small_stamp (pos n) keeps = by_test (int_lt (pos 8_210_266_876_799) (pos n)) refl keeps
  where
    by_test : (b : Bool) → int_lt (pos 8_210_266_876_799) (pos n) ≡ b → (if b then false else true) ≡ true → n < 10 ^ 18
    by_test true e h = absurd (false≢true h)
    by_test false e h = let few : n ≤ 8_210_266_876_799 = grind (arith, ints, e) in omega (arith, few)
small_stamp (negsuc n) keeps = by_test (int_lt (negsuc n) (neg_ℤ (pos 8_334_601_228_800))) refl keeps
  where
    by_test : (b : Bool) → int_lt (negsuc n) (neg_ℤ (pos 8_334_601_228_800)) ≡ b → (if b then false else true) ≡ true → suc n < 10 ^ 18
    by_test true e h = absurd (false≢true h)
    by_test false e h = let few : suc n ≤ 8_334_601_228_800 = grind (arith, nat_tests, e) in omega (arith, few)

decimal_few : (n : ℕ) → n < 10 ^ 18 → length (decimal n) ≤ 18
decimal_few n small = at_most 18 n (omega arith) small (omega (arith, small))

pub stamp_back : (s : ℤ) (b : Bool) (rest : List ℕ) (p q : Parsed) → keeps_stamp s ≡ true → class_len Digit rest ≡ 0 → put_stamp s p ≡ Ok q
    → stamp_read (at_rest (skip b (stamp_piece s ++ rest)) p) ≡ Ok (at_rest rest q)
unfolding stamp_piece
stamp_back (pos n) b rest p q keeps none done =
    let small = small_stamp (pos n) keeps in
    let are = decimal_digits n (omega (arith, small)) in
    let text : stamp_piece (pos n) ++ rest ≡ decimal n ++ rest = ap (λ (t : Bool). ((if t then codes "-" else []) ++ decimal n) ++ rest) (is_negative-pos n) in
    ap (λ (l : List ℕ). signed_stamp l p) (ap (λ (l : List ℕ). behind_blanks (skip b l)) text ∙ skipped b [] (decimal n ++ rest) refl (digits_in_front_stay (decimal n) rest n are))
    ∙ unsigned_stamp (decimal n) rest n p are
    ∙ stamp_counted (decimal n) rest n false p q are (decimal_few n small) none done
stamp_back (negsuc n) b rest p q keeps none done =
    let small = small_stamp (negsuc n) keeps in
    let are = decimal_digits (suc n) (omega (arith, small)) in
    ap (λ (l : List ℕ). signed_stamp l p) (skipped b [] (45 ∷ (decimal (suc n) ++ rest)) refl (front_stays 45 (decimal (suc n) ++ rest) refl))
    ∙ minus_stamp (decimal (suc n) ++ rest) p
    ∙ stamp_counted (decimal (suc n)) rest (suc n) true p q are (decimal_few (suc n) small) none done
