-- Lemmas on the texts of numbers: how long they are, and that different numbers have different texts.
use Rattle.std.proofs.Common.{◌≡◌, ℕ, suc, ◌+◌, ◌-◌, ◌/◌, ◌%◌, ◌^◌, ◌<◌, ◌≤◌, ◌≤ℤ◌, ℤ, pos, negsuc, false, List, [], ◌∷◌, ◌++◌, length, length-append, take, drop, unsigned_abs, arith, refl, sym, ap, ◌∙◌}
use Rattle.std.specs.Prelude.{get_or}
use Rattle.std.specs.Int.{is_negative}
use Rattle.std.specs.Str.Parse.{digits_value}
use Rattle.std.proofs.Math.Seq.{take-append_seam, drop-append_seam}
use Rattle.std.proofs.lemmas.Bool.Decides.{nat_tests}
use Rattle.std.proofs.lemmas.Fmt.{decimal_is_IsNumeral, length-decimal-le}
use Rattle.std.proofs.lemmas.Int.{ints}
use Rattle.std.specs.Fmt.{decimal}
use Rattle.chrono_text.specs.Text.{two_digits, all_digits, year_digits, year_text, calendar_text}
use Rattle.chrono_text.proofs.DigitLemmas.{all_digits-one, all_digits-value, by_size, decimal_below}

-- ---- lists

-- two texts with ends of one length are the same in both parts
pub same_parts : (xs ys s t : List ℕ) → length s ≡ length t → xs ++ s ≡ ys ++ t → (xs ≡ ys) × (s ≡ t)
same_parts xs ys s t l e =
    let cut : length xs ≡ length ys = omega (arith, l, length-append xs s, length-append ys t, ap (λ (c : List ℕ). length c) e) in (
      sym (take-append_seam xs s) ∙ ap (λ (c : List ℕ). take (length xs) c) e ∙ ap (λ n. take n (ys ++ t)) cut ∙ take-append_seam ys t,
      sym (drop-append_seam xs s) ∙ ap (λ (c : List ℕ). drop (length xs) c) e ∙ ap (λ n. drop n (ys ++ t)) cut ∙ drop-append_seam ys t,
    )

-- the parts of a text of which the front is so long
pub front_is : (text front end : List ℕ) (n : ℕ) → length front ≡ n → front ++ end ≡ text → (take n text ≡ front) × (drop n text ≡ end)
front_is text front end n long e = (
  ap (λ (l : List ℕ). take n l) (sym e) ∙ ap (λ k. take k (front ++ end)) (sym long) ∙ take-append_seam front end,
  ap (λ (l : List ℕ). drop n l) (sym e) ∙ ap (λ k. drop k (front ++ end)) (sym long) ∙ drop-append_seam front end,
)

-- and of which the end is so long
pub end_is : (text front end : List ℕ) (n : ℕ) → length end ≡ n → front ++ end ≡ text → (take (length text - n) text ≡ front) × (drop (length text - n) text ≡ end)
end_is text front end n long e =
    let size : length front ≡ length text - n = omega (arith, length-append front end, ap (λ (l : List ℕ). length l) e) in
    front_is text front end (length text - n) size e

-- ---- signs

-- a number from 0 up has none
pub is_negative-pos : (n : ℕ) → is_negative (pos n) ≡ false
is_negative-pos n = grind (arith, nat_tests)

-- the number of size 0
pub unsigned_abs-zero : (x : ℤ) → unsigned_abs x ≡ 0 → x ≡ pos 0
unsigned_abs-zero (pos n) e = ap pos e
unsigned_abs-zero (negsuc n) e = absurd (omega arith)

-- ---- digits

-- numbers below 100 with the same two digits are the same
two_digits_injective : (n m : ℕ) → n < 100 → m < 100 → two_digits n ≡ two_digits m → n ≡ m
two_digits_injective n m h k e = omega (arith, ap (λ (c : List ℕ). get_or c 0 0) e, ap (λ (c : List ℕ). get_or c 1 0) e)

-- ---- years

-- the digits of a year's size give back that size
year_digits-value : (n : ℕ) → n < 2 ^ 64 → digits_value 10 (year_digits n) ≡ n
year_digits-value n h = by_size 10_000 n
    (λ low. grind (arith, all_digits-value 4 n low))
    (λ high. grind (arith, (decimal_is_IsNumeral n h).1))

-- there are four or more
pub year_digits-least : (n : ℕ) → n < 1_000_000 → 4 ≤ length (year_digits n)
year_digits-least n h = by_size 10_000 n
    (λ low. grind arith)
    (λ high. by_size 4 (length (decimal n))
    (λ few. absurd (omega (arith, high, decimal_below n 3 (omega (arith, h)) (omega (arith, few)))))
    (λ many. grind (arith, many)))

-- so different sizes have different digits
year_digits_injective : (n m : ℕ) → n < 2 ^ 64 → m < 2 ^ 64 → year_digits n ≡ year_digits m → n ≡ m
year_digits_injective n m h k e = sym (year_digits-value n h) ∙ ap (λ (c : List ℕ). digits_value 10 c) e ∙ year_digits-value m k

-- the kinds of years from 0 up
pub year_text-four : (n : ℕ) → n < 10_000 → year_text (pos n) ≡ all_digits 4 n
year_text-four n h = grind arith

pub year_text-more : (n : ℕ) → 10_000 ≤ n → year_text (pos n) ≡ 43 ∷ year_digits n
year_text-more n h = grind arith

-- different years have different texts
year_text_injective : (y z : ℤ) → unsigned_abs y < 2 ^ 64 → unsigned_abs z < 2 ^ 64 → year_text y ≡ year_text z → y ≡ z
year_text_injective (negsuc n) (negsuc m) h k e = ap negsuc (omega (arith, year_digits_injective (suc n) (suc m) h k (ap (λ (c : List ℕ). drop 1 c) e)))
year_text_injective (negsuc n) (pos m) h k e = by_size 10_000 m
    (λ low. absurd (omega (arith, ap (λ (c : List ℕ). get_or c 0 0) (e ∙ year_text-four m low))))
    (λ high. absurd (omega (arith, ap (λ (c : List ℕ). get_or c 0 0) (e ∙ year_text-more m high))))
year_text_injective (pos n) (negsuc m) h k e = by_size 10_000 n
    (λ low. absurd (omega (arith, ap (λ (c : List ℕ). get_or c 0 0) (sym (year_text-four n low) ∙ e))))
    (λ high. absurd (omega (arith, ap (λ (c : List ℕ). get_or c 0 0) (sym (year_text-more n high) ∙ e))))
year_text_injective (pos n) (pos m) h k e = by_size 10_000 n
    (λ low. by_size 10_000 m
    (λ also. ap pos (all_digits-one 4 n m low also (sym (year_text-four n low) ∙ e ∙ year_text-four m also)))
    (λ high. absurd (omega (arith, ap (λ (c : List ℕ). get_or c 0 0) (sym (year_text-four n low) ∙ e ∙ year_text-more m high)))))
    (λ high. by_size 10_000 m
    (λ low. absurd (omega (arith, ap (λ (c : List ℕ). get_or c 0 0) (sym (year_text-more n high) ∙ e ∙ year_text-four m low))))
    (λ also. ap pos (year_digits_injective n m h k (ap (λ (c : List ℕ). drop 1 c) (sym (year_text-more n high) ∙ e ∙ year_text-more m also)))))

-- a size of four digits is below 10,000
pub four_digit_size : (text : List ℕ) (n : ℕ) → n < 1_000_000 → year_digits n ≡ text → length text ≡ 4 → (n < 10_000) × (all_digits 4 n ≡ text)
four_digit_size text n below e four = by_size 10_000 n
    (λ small. (small, grind arith))
    (λ large.
    let is : year_digits n ≡ decimal n = grind arith in
    let few : length (decimal n) ≡ 4 = ap length (sym is ∙ e) ∙ four in
    absurd (omega (arith, decimal_below n 4 (omega arith) (omega arith))))

-- ---- dates

-- what stands after the year
abbrev calendar_tail : ℕ → ℕ → List ℕ
calendar_tail m d = 45 ∷ (48 + m / 10) ∷ (48 + m % 10) ∷ 45 ∷ two_digits d

calendar_tail-after : (xs : List ℕ) (m d : ℕ) → xs ++ 45 ∷ [] ++ two_digits m ++ 45 ∷ [] ++ two_digits d ≡ xs ++ calendar_tail m d
calendar_tail-after [] m d = refl
calendar_tail-after (x ∷ xs) m d = ap (λ (c : List ℕ). x ∷ c) (calendar_tail-after xs m d)

calendar_text-parts : (y : ℤ) (m d : ℕ) → calendar_text y m d ≡ year_text y ++ calendar_tail m d
calendar_text-parts y m d = calendar_tail-after (year_text y) m d

-- different calendar names have different texts
pub calendar_text_injective : (y z : ℤ) (m n d k : ℕ) → unsigned_abs y < 2 ^ 64 → unsigned_abs z < 2 ^ 64 → m < 100 → n < 100 → d < 100 → k < 100 → calendar_text y m d ≡ calendar_text z n k → (y ≡ z) × (m ≡ n) × (d ≡ k)
calendar_text_injective y z m n d k small also hm hn hd hk e =
    let parts = same_parts (year_text y) (year_text z) (calendar_tail m d) (calendar_tail n k) refl (sym (calendar_text-parts y m d) ∙ e ∙ calendar_text-parts z n k) in (
      year_text_injective y z small also parts.0,
      two_digits_injective m n hm hn (ap (λ (c : List ℕ). take 2 (drop 1 c)) parts.1),
      two_digits_injective d k hd hk (ap (λ (c : List ℕ). drop 4 c) parts.1),
    )

-- how long the texts are
pub length-year_text-four : (y : ℤ) → pos 0 ≤ℤ y → y ≤ℤ pos 9_999 → length (year_text y) ≡ 4
length-year_text-four (pos n) low high = rw (year_text-four n (omega (arith, ints, high))) refl
length-year_text-four (negsuc n) low high = absurd (omega (arith, ints, low))

length-year_digits : (n : ℕ) → n < 1_000_000 → length (year_digits n) ≤ 6
length-year_digits n h = by_size 10_000 n
    (λ low. grind arith)
    (λ high. grind (arith, length-decimal-le 6 n (omega arith) h (omega arith)))

pub length-year_text-le : (y : ℤ) → unsigned_abs y < 1_000_000 → length (year_text y) ≤ 7
length-year_text-le (negsuc n) h = omega (arith, length-year_digits (suc n) h)
length-year_text-le (pos n) h = by_size 10_000 n
    (λ low. omega (arith, length-year_text-four (pos n) (omega (arith, ints)) (omega (arith, ints, low))))
    (λ high. rw (year_text-more n high) (omega (arith, length-year_digits n h)))

pub length-calendar_text : (y : ℤ) (m d : ℕ) → length (calendar_text y m d) ≡ length (year_text y) + 6
length-calendar_text y m d = rw (calendar_text-parts y m d) (length-append (year_text y) (calendar_tail m d))
