-- The first bytes of a line and of a number, looked at together.
use Rattle.std.proofs.Common.{◌≡◌, ◌+◌, ◌-◌, ◌*◌, ◌/◌, ◌<◌, ◌≤◌, ◌≢◌, ◌^◌, ℕ, zero, suc, Bool, true, false, not, List, [], ◌∷◌, ◌++◌, length, get_or, take, drop, map, cond, inl, inr, refl, sym, subst, ap, ◌∙◌, arith}
use lib.Count.{count_trailing_zeros}
use lib.Lanes.{chunk, mask_l, sum_l}
use Rattle.std.specs.List.{prefix_len}
use Rattle.std.specs.Char.{digit_value}
use Rattle.std.specs.Int.{IsInRange}
use Rattle.std.specs.Str.Parse.{AllDigits, digits_value}
use Rattle.std.proofs.Math.Nat.{zero-div, mul_assoc, mul_comm, pow-le-pow_right, pow-succ', div-eq_of_lt}
use Rattle.std.proofs.Math.Seq.{drop-cons, take-add}
use Rattle.std.proofs.lemmas.Bool.{cases_lt}
use Rattle.std.proofs.lemmas.Bool.Decides.{nat_tests}
use Rattle.std.proofs.lemmas.Int.Digits.{digits_more, digits_value-lt}
use Rattle.std.proofs.lemmas.List.{length-take, length-drop, length-map, drop-map, drop-take, map-append}
use Rattle.std.proofs.lemmas.Nat.{shr-shr}
use Rattle.std.proofs.lemmas.Str.{digit_value_digit}
use Rattle.std.proofs.lemmas.Str.Parse.{digit_from_value}
use Rattle.std.proofs.lemmas.Simd.{length-chunk, mask_l-lt, trailing_mask_l, run_in_chunk_fails, run_in_chunk_stops}
use Rattle.chrono_text.specs.Marks.{is_other, marks_of}
use Rattle.chrono_text.specs.Numbers.{value_of}
use Rattle.chrono_text.proofs.DigitLemmas.{value_append, value_is}

-- half of a mask is the mask of all lanes but the first
half : (b : Bool) (ms : List Bool) → mask_l (b ∷ ms) / 2 ^ 1 ≡ mask_l ms
half true ms = omega arith
half false ms = omega arith

pub shifted : (ms : List Bool) (n : ℕ) → mask_l ms / 2 ^ n ≡ mask_l (drop n ms)
shifted ms zero = omega arith
shifted [] (suc n) = zero-div (2 ^ suc n)
shifted (b ∷ ms) (suc n) =
    let one_more : 1 + n ≡ suc n = omega arith in
    ap (λ k. mask_l (b ∷ ms) / 2 ^ k) (sym one_more) ∙ sym (shr-shr (mask_l (b ∷ ms)) 1 n) ∙ ap (λ m. m / 2 ^ n) (half b ms) ∙ shifted ms n

-- where a lane passes, fewer lanes than all stand before the first that does
fewer : (b : Bool) (m r n : ℕ) → 0 < cond b 1 0 + 2 * m → (0 < m → r < n) → cond (not b) (1 + r) 0 < suc n
fewer true m r n some rest = omega arith
fewer false m r n some rest = omega (arith, rest (omega arith))

first_inside : (p : ℕ → Bool) (xs : List ℕ) → 0 < mask_l (map p xs) → prefix_len (λ x. not (p x)) xs < length xs
first_inside p [] some = absurd (omega arith)
first_inside p (x ∷ xs) some = fewer (p x) (mask_l (map p xs)) (prefix_len (λ y. not (p y)) xs) (length xs) some (first_inside p xs)

digit : (b : ℕ) → is_other b ≡ false → IsInRange 48 57 b
digit b e = grind (arith, nat_tests)

no_digit : (b : ℕ) → is_other b ≡ true → ¬ (IsInRange 48 57 b)
no_digit b e range = let out : is_other b ≡ false = grind (arith, nat_tests, range.0, range.1) in absurd cc

pub marks_below : (n : ℕ) (bytes : List ℕ) → marks_of n bytes < 2 ^ n
marks_below n bytes =
    let few : length (map is_other (take n bytes)) ≤ n = omega (arith, length-map (take n bytes) is_other, length-take n bytes) in
    omega (arith, mask_l-lt (map is_other (take n bytes)), pow-le-pow_right {n = 2} (omega arith) few)

-- a mark behind a place is that of a byte there
marked_inside : (bytes : List ℕ) (n at : ℕ) → marks_of n bytes / 2 ^ at ≢ 0 → at < n
marked_inside bytes n at some = elim (cases_lt at n) [
  | inl less ↦ less
  | inr more ↦ absurd (some (div-eq_of_lt (omega (arith, marks_below n bytes, pow-le-pow_right {n = 2} (omega arith) more))))
]

-- so many digits stand from a place on, before a byte that is none
pub record DigitsFrom (bytes : List ℕ) (at run : ℕ) : Type 0 where
  pub within : at + run < 64
  pub digits : (k : ℕ) → k < run → IsInRange 48 57 (get_or bytes (at + k) 0)
  pub end : ¬ (IsInRange 48 57 (get_or bytes (at + run) 0))

pub from_marks : (bytes : List ℕ) (n at run : ℕ) → n ≤ 64 → n ≤ length bytes → marks_of n bytes / 2 ^ at ≢ 0
    → run ≡ count_trailing_zeros 64 (marks_of n bytes / 2 ^ at) → DigitsFrom bytes at run
from_marks bytes n at run few room some is =
    let inside : at < n = marked_inside bytes n at some in
    let lanes = chunk at (n - at) bytes in
    let all : at + (n - at) ≡ n = omega arith in
    let fits : at + (n - at) ≤ length bytes = omega arith in
    let cut : marks_of n bytes / 2 ^ at ≡ mask_l (map is_other lanes) =
    shifted (map is_other (take n bytes)) at ∙ ap mask_l (drop-map is_other at (take n bytes))
    ∙ ap (λ l. mask_l (map is_other l)) (ap (λ m. drop at (take m bytes)) (sym all) ∙ drop-take at (n - at) bytes) in
    let long : length lanes ≡ n - at = length-chunk at (n - at) bytes fits in
    let set : 0 < mask_l (map is_other lanes) = omega arith in
    let counted = is ∙ ap (count_trailing_zeros 64) cut ∙ trailing_mask_l is_other 64 lanes (omega arith) set in
    let short : run < n - at = omega (arith, first_inside is_other lanes set, counted, long) in
    record {
      within = omega arith;
      digits = λ k to. digit (get_or bytes (at + k) 0) (run_in_chunk_fails is_other bytes at (n - at) run 0 fits counted (at + k) (omega arith) (omega arith));
      end = no_digit (get_or bytes (at + run) 0) (run_in_chunk_stops is_other bytes at (n - at) run 0 fits counted short);
    }

-- the marks of more bytes are those of the first, and those of the next behind them
mask_append : (xs ys : List Bool) → mask_l (xs ++ ys) ≡ mask_l xs + mask_l ys * 2 ^ length xs
mask_append [] ys = omega arith
mask_append (x ∷ xs) ys =
    let high = mask_l ys in
    let place = 2 ^ length xs in
    let double : high * 2 ^ suc (length xs) ≡ 2 * (high * place) =
    ap (λ p. high * p) (pow-succ' 2 (length xs)) ∙ sym (mul_assoc high 2 place) ∙ ap (λ z. z * place) (mul_comm high 2) ∙ mul_assoc 2 high place in
    omega (arith, mask_append xs ys, double)

pub more_marks : (bytes : List ℕ) (at : ℕ) → at ≤ length bytes → marks_of (at + 16) bytes ≡ marks_of at bytes + marks_of 16 (drop at bytes) * 2 ^ at
more_marks bytes at within =
    let long : length (map is_other (take at bytes)) ≡ at = length-map (take at bytes) is_other ∙ omega (arith, length-take at bytes) in
    ap (λ l. mask_l (map is_other l)) (take-add at 16 bytes) ∙ ap mask_l (map-append is_other (take at bytes) (take 16 (drop at bytes)))
    ∙ mask_append (map is_other (take at bytes)) (map is_other (take 16 (drop at bytes)))
    ∙ ap (λ n. marks_of at bytes + marks_of 16 (drop at bytes) * 2 ^ n) long

-- bytes in the range of digits are digits
pub all_digits : (bytes : List ℕ) (n : ℕ) → n ≤ length bytes → ((k : ℕ) → k < n → IsInRange 48 57 (get_or bytes k 0))
    → AllDigits 10 (take n bytes)
all_digits bytes zero fits each = tt
all_digits bytes (suc n) fits each =
    let r = each n (omega arith) in
    let is : digit_value (get_or bytes n 0) + 48 ≡ get_or bytes n 0 = digit_value_digit (get_or bytes n 0) r in
    let one_more : n + 1 ≡ suc n = omega arith in
    subst (λ m. AllDigits 10 (take m bytes)) one_more
    (digits_more 10 bytes n (omega arith) (all_digits bytes n (omega arith) (λ k lt. each k (omega arith))) (omega (arith, is, r.0, r.1)))

-- what a byte at a place adds to the value of so many digits
abbrev IsShare : ℕ → ℕ → ℕ → ℕ → Type 0
IsShare len byte place share =
    (place < len → 48 ≤ byte → share ≡ (byte - 48) * 10 ^ (len - 1 - place)) × (len ≤ place → share ≡ 0)

-- what the bytes from a place on add to it, one by one
abbrev pub AreShares : List ℕ → ℕ → ℕ → List ℕ → Type 0
AreShares bytes len place [] = Unit {0}
AreShares bytes len place (share ∷ shares) =
    IsShare len (get_or bytes place 0) place share × AreShares bytes len (suc place) shares

-- behind the last digit nothing is added
none_behind : (bytes : List ℕ) (len place : ℕ) (shares : List ℕ) → len ≤ place → AreShares bytes len place shares
    → sum_l shares ≡ 0
none_behind bytes len place [] behind each = refl
none_behind bytes len place (share ∷ shares) behind each =
    omega (arith, each.0.1 behind, none_behind bytes len (suc place) shares (omega arith) each.1)

-- the shares of the last n digits
last_add_up : (bytes : List ℕ) (len n place : ℕ) (shares : List ℕ) → place + n ≡ len → len ≤ length bytes
    → n ≤ length shares → AllDigits 10 (take n (drop place bytes)) → AreShares bytes len place shares
    → sum_l shares ≡ value_of (take n (drop place bytes))
last_add_up bytes len zero place shares last fit many all each = none_behind bytes len place shares (omega arith) each
last_add_up bytes len (suc n) place [] last fit many all each = absurd (omega arith)
last_add_up bytes len (suc n) place (share ∷ shares) last fit many all each =
    let byte = get_or bytes place 0 in
    let left = drop (suc place) bytes in
    let others = take n left in
    let parted : drop place bytes ≡ byte ∷ left = drop-cons bytes place 0 (omega arith) in
    let digits : AllDigits 10 (byte ∷ others) = subst (λ ds. AllDigits 10 (take (suc n) ds)) parted all in
    let behind : len - 1 - place ≡ length others = omega (arith, length-take n left, length-drop (suc place) bytes) in
    let weighs = each.0.0 (omega arith) (digit_from_value byte digits.0).0 in
    let own : share ≡ (byte - 48) * 10 ^ length others = weighs ∙ ap (λ k. (byte - 48) * 10 ^ k) behind in
    let rest = last_add_up bytes len n (suc place) shares (omega arith) fit (omega arith) digits.1 each.1 in
    let whole : share + sum_l shares ≡ value_of (byte ∷ others) = omega (arith, own, rest) in
    whole ∙ ap (λ ds. value_of (take (suc n) ds)) (sym parted)

pub shares_add_up : (bytes : List ℕ) (len : ℕ) (shares : List ℕ) → len ≤ length bytes → len ≤ length shares
    → AllDigits 10 (take len bytes) → AreShares bytes len 0 shares → sum_l shares ≡ digits_value 10 (take len bytes)
shares_add_up bytes len shares fit many all each =
    last_add_up bytes len len 0 shares (omega arith) fit many all each ∙ value_is (take len bytes) all

-- so many digits write a number below that power of ten
pub below : (text : List ℕ) (len most : ℕ) → len ≤ most → AllDigits 10 (take len text) → digits_value 10 (take len text) < 10 ^ most
below text len most few digits =
    let short : length (take len text) ≤ most = omega (arith, length-take len text) in
    let power : 10 ^ length (take len text) ≤ 10 ^ most = pow-le-pow_right (omega arith) short in
    omega (arith, digits_value-lt 10 (take len text) digits)

all_append : (xs ys : List ℕ) → AllDigits 10 (xs ++ ys) → AllDigits 10 xs × AllDigits 10 ys
all_append [] ys all = (tt, all)
all_append (x ∷ xs) ys all = let rest = all_append xs ys all.1 in ((all.0, rest.0), rest.1)

-- so many digits are a front and the eight last
pub record LastEight (bytes : List ℕ) (len : ℕ) : Type 0 where
  pub front : AllDigits 10 (take (len - 8) bytes)
  pub back : AllDigits 10 (take 8 (drop (len - 8) bytes))
  pub value : digits_value 10 (take len bytes) ≡ digits_value 10 (take (len - 8) bytes) * 100_000_000 + digits_value 10 (take 8 (drop (len - 8) bytes))

pub last_eight : (bytes : List ℕ) (len : ℕ) → 8 ≤ len → len ≤ length bytes → AllDigits 10 (take len bytes) → LastEight bytes len
last_eight bytes len many fits all =
    let xs = take (len - 8) bytes in
    let ys = take 8 (drop (len - 8) bytes) in
    let sum : len - 8 + 8 ≡ len = omega arith in
    let parted : take len bytes ≡ xs ++ ys = ap (λ n. take n bytes) (sym sum) ∙ take-add (len - 8) 8 bytes in
    let digits = all_append xs ys (subst (AllDigits 10) parted all) in
    let eight : length ys ≡ 8 = omega (arith, length-take 8 (drop (len - 8) bytes), length-drop (len - 8) bytes) in
    let power : value_of xs * 10 ^ length ys ≡ value_of xs * 100_000_000 = ap (λ n. value_of xs * 10 ^ n) eight in
    record {
      front = digits.0;
      back = digits.1;
      value = omega (arith, value_is (take len bytes) all, ap value_of parted, value_append xs ys, power, value_is xs digits.0, value_is ys digits.1);
    }
