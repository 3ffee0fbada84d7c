-- Digits and the numbers that they write: all the digits of a number of so many places, numbers in decimal, and digits in any number.
use Rattle.std.proofs.Common.{inl, inr, ◌≡◌, ◌≢◌, ℕ, zero, suc, ◌+◌, ◌-◌, ◌*◌, ◌/◌, ◌%◌, ◌^◌, ◌<◌, ◌≤◌, Bool, true, false, List, [], ◌∷◌, ◌++◌, length, get_or, Some, None, arith, refl, sym, ap, ◌∙◌, lit<}
use Rattle.std.specs.Int.{IsInRange}
use Rattle.std.specs.Str.{all_ascii_digits}
use Rattle.std.specs.Fmt.{decimal}
use Rattle.std.specs.Str.Parse.{AllDigits, digits_value}
use Rattle.std.proofs.lemmas.Str.{digit_value_digit}
use Rattle.std.proofs.lemmas.Str.Parse.{IsNumeralModel, digit_from_value, digits_value_short, numerals_by_value, numerals_by_weight, tells_digits, tells_all_ascii_digits, WeighsDigits}
use Rattle.std.proofs.lemmas.Fmt.{decimal_digit, decimal_is_IsNumeral, decimal-digits_value, first_decimal, length-decimal-le}
use Rattle.std.proofs.lemmas.Bool.{cases_lt}
use Rattle.std.proofs.lemmas.List.{length-append}
use Rattle.std.proofs.lemmas.Nat.{div-add-mod', div-mul-add, mod-mul-add, mul-add-lt, mod_below, div_below, pow-add}
use Rattle.std.proofs.Math.Nat.{add-mul, mul_assoc, pow-succ'}
use Rattle.chrono_text.specs.Text.{two_digits, all_digits}
use Rattle.chrono_text.specs.Numbers.{value_of, natural_of}

weighs : WeighsDigits value_of
weighs = record { empty = refl; more = λ c cs range. refl }

weighed : IsNumeralModel (AllDigits 10) value_of
weighed = numerals_by_weight _ tells_digits value_of weighs

tested : IsNumeralModel (λ ds. all_ascii_digits ds ≡ true) value_of
tested = numerals_by_weight _ tells_all_ascii_digits value_of weighs

valued : IsNumeralModel (AllDigits 10) (digits_value 10)
valued = numerals_by_value _ tells_digits

-- what digits are worth is what they write
pub value_is : (ds : List ℕ) → AllDigits 10 ds → value_of ds ≡ digits_value 10 ds
value_is ds all = weighed.same ds all

-- digits behind others add what they are worth to those times a power of ten
pub value_append : (xs ys : List ℕ) → value_of (xs ++ ys) ≡ value_of xs * 10 ^ length ys + value_of ys
value_append [] ys = omega arith
value_append (x ∷ xs) ys =
    let power : 10 ^ length (xs ++ ys) ≡ 10 ^ length xs * 10 ^ length ys = ap (λ n. 10 ^ n) (length-append xs ys) ∙ pow-add 10 (length xs) (length ys) in
    let first : (x - 48) * 10 ^ length (xs ++ ys) ≡ (x - 48) * 10 ^ length xs * 10 ^ length ys = ap (λ p. (x - 48) * p) power ∙ sym (mul_assoc (x - 48) (10 ^ length xs) (10 ^ length ys)) in
    omega (arith, first, value_append xs ys, add-mul ((x - 48) * 10 ^ length xs) (value_of xs) (10 ^ length ys))

pub pow_pos : (k : ℕ) → 0 < 10 ^ k
pow_pos zero = lit< tt
pow_pos (suc k) = omega (arith, pow_pos k)

-- digits are all those of what they write, a number of so many places
from_digits : (ds : List ℕ) → AllDigits 10 ds → (value_of ds < 10 ^ length ds) × (all_digits (length ds) (value_of ds) ≡ ds)
from_digits [] h = (lit< tt, refl)
from_digits (c ∷ cs) h =
    let rest = from_digits cs h.1 in
    let unit : 10 ^ suc (length cs) ≡ 10 * 10 ^ length cs = pow-succ' 10 (length cs) in
    let is = digit_from_value c h.0 in
    let front : (48 + ((c - 48) * 10 ^ length cs + value_of cs) / 10 ^ length cs) ≡ c = omega (arith, div-mul-add (c - 48) (10 ^ length cs) (value_of cs) rest.0) in
    let back : ((c - 48) * 10 ^ length cs + value_of cs) % 10 ^ length cs ≡ value_of cs = mod-mul-add (c - 48) (10 ^ length cs) (value_of cs) rest.0 in (
      omega (arith, mul-add-lt (c - 48) (10 ^ length cs) (value_of cs) 10 (omega arith) rest.0),
      rw (front, back) (ap (λ (t : List ℕ). c ∷ t) rest.1),
    )

-- the digits of a number of so many places are as many digits, and write it
pub to_digits : (k n : ℕ) → n < 10 ^ k → (length (all_digits k n) ≡ k) × AllDigits 10 (all_digits k n) × (value_of (all_digits k n) ≡ n)
to_digits zero n h = (refl, tt, omega arith)
to_digits (suc k) n h =
    let unit : 10 ^ suc k ≡ 10 * 10 ^ k = pow-succ' 10 k in
    let first : n / 10 ^ k < 10 = div_below n (10 ^ k) 10 (pow_pos k) (omega arith) in
    let rest = to_digits k (n % 10 ^ k) (mod_below n (10 ^ k) (pow_pos k)) in
    let plain : (48 + n / 10 ^ k - 48) ≡ n / 10 ^ k = omega arith in
    let is = digit_value_digit (48 + n / 10 ^ k) (omega arith, omega arith) in (
      ap suc rest.0,
      (omega arith, rest.1),
      rw (rest.0, rest.2, plain) (div-add-mod' n (10 ^ k)),
    )

-- and no other number of so many places has them
pub all_digits-one : (k n m : ℕ) → n < 10 ^ k → m < 10 ^ k → all_digits k n ≡ all_digits k m → n ≡ m
all_digits-one k n m below small e = sym (to_digits k n below).2 ∙ ap value_of e ∙ (to_digits k m small).2

-- so they give it back
pub all_digits-value : (k n : ℕ) → n < 10 ^ k → digits_value 10 (all_digits k n) ≡ n
all_digits-value k n below = let digits = to_digits k n below in sym (value_is (all_digits k n) digits.1) ∙ digits.2

-- what 18 digits write, or fewer, fits a machine word
pub value_fits : (text : List ℕ) → AllDigits 10 text → length text ≤ 18 → digits_value 10 text < 10 ^ 18
value_fits text all few = digits_value_short valued text 18 all few

-- the digits of a number are its first one and those of the rest
pub digits_more : (k d m : ℕ) → m < 10 ^ k → all_digits (suc k) (d * 10 ^ k + m) ≡ (48 + d) ∷ all_digits k m
digits_more k d m below = rw (div-mul-add d (10 ^ k) m below, mod-mul-add d (10 ^ k) m below) refl

-- so numbers of so many places are read from their digits and no others
pub all_digits-read : (ds : List ℕ) → AllDigits 10 ds → (digits_value 10 ds < 10 ^ length ds) × (all_digits (length ds) (digits_value 10 ds) ≡ ds)
all_digits-read ds all = rw (value_is ds all) at (from_digits ds all)

pub all_digits-written : (ds : List ℕ) (n : ℕ) → n < 10 ^ length ds → all_digits (length ds) n ≡ ds → AllDigits 10 ds × (digits_value 10 ds ≡ n)
all_digits-written ds n below e =
    let digits = to_digits (length ds) n below in
    let all : AllDigits 10 ds = rw e at digits.1 in
    (all, sym (value_is ds all) ∙ ap value_of (sym e) ∙ digits.2)

-- a number is below another, or not
pub by_size : (m n : ℕ) → {P : Type 0} → (n < m → P) → (m ≤ n → P) → P
by_size m n small large = elim (cases_lt n m) [ inl h ↦ small h | inr h ↦ large h ]

by_length : (n : ℕ) → 0 < n → (1 < n → ⊥) → n ≡ 1
by_length n some one = grind arith

-- there are 1 to 18 bytes, with no 0 in front of others
abbrev pub HasDecimalForm : List ℕ → Type 0
HasDecimalForm text = (0 < length text) × (length text ≤ 18) × (1 < length text → get_or text 0 0 ≢ 48)

-- digits in the form of a decimal number are that of what they write
pub decimal-read : (ds : List ℕ) → AllDigits 10 ds → HasDecimalForm ds → (digits_value 10 ds < 10 ^ 18) × (decimal (digits_value 10 ds) ≡ ds)
decimal-read ds all form =
    let below = digits_value_short valued ds 18 all form.1 in
    (below, decimal-digits_value valued ds all form.0 (λ e. by_length (length ds) form.0 (λ more. form.2 more e)) (omega arith))

-- no number of two digits or more begins with 0
no_zero : (n : ℕ) → n < 10 ^ 18 → 1 < length (decimal n) → get_or (decimal n) 0 0 ≡ 48 → ⊥
no_zero n below more e = by_size 10 n
    (λ one. omega (arith, ap length (decimal_digit n one)))
    (λ many. omega (arith, first_decimal n (omega arith) (omega arith)))

pub decimal-written : (ds : List ℕ) (n : ℕ) → n < 10 ^ 18 → decimal n ≡ ds → HasDecimalForm ds × AllDigits 10 ds × (digits_value 10 ds ≡ n)
decimal-written ds n below e =
    let numeral = decimal_is_IsNumeral n (omega arith) in (
      (
        rw e at numeral.0.0,
        rw e at (length-decimal-le 18 n (lit< tt) below (omega arith)),
        λ more zero_first. no_zero n below (rw (← e) at more) (rw (← e) at zero_first),
      ),
      rw e at numeral.0.1,
      rw e at numeral.1,
    )

-- a number in few digits is small
pub decimal_below : (n k : ℕ) → n < 10 ^ 18 → length (decimal n) ≤ k → n < 10 ^ k
decimal_below n k below few =
    let numeral = decimal_is_IsNumeral n (omega arith) in
    rw numeral.1 at (digits_value_short valued (decimal n) k numeral.0.1 few)

two_same : (a b c d : ℕ) → a ≡ c → b ≡ d → a ∷ b ∷ [] ≡ c ∷ d ∷ []
two_same a b c d e f = cc

-- the first two of four digits
pub first_pair : (ds : List ℕ) (n : ℕ) → n < 10_000 → all_digits 4 n ≡ ds → two_digits (n / 100) ≡ get_or ds 0 0 ∷ get_or ds 1 0 ∷ []
first_pair ds n below e = rw (← e) (two_same _ _ _ _ (omega arith) (omega arith))

-- and of three
pub first_of_three : (hundreds tens ones n : ℕ) → n < 1_000 → all_digits 3 n ≡ hundreds ∷ tens ∷ ones ∷ [] → two_digits (n / 10) ≡ hundreds ∷ tens ∷ []
first_of_three hundreds tens ones n below e =
    two_same _ _ _ _ (omega (arith, ap (λ (t : List ℕ). get_or t 0 0) e)) (omega (arith, ap (λ (t : List ℕ). get_or t 1 0) e))

-- ---- one digit or more

pub natural_some : (xs : List ℕ) → AllDigits 10 xs → 0 < length xs → natural_of xs ≡ Some (digits_value 10 xs)
unfolding natural_of
natural_some [] h some = absurd (omega arith)
natural_some (x ∷ xs) h some = rw (tested.from (x ∷ xs) h) (ap Some (value_is (x ∷ xs) h))

not_all : (xs : List ℕ) (y : ℕ) (more : List ℕ) → ¬ (IsInRange 48 57 y) → (b : Bool) → all_ascii_digits (xs ++ y ∷ more) ≡ b → b ≡ false
not_all xs y more other false e = refl
not_all [] y more other true e = absurd (other (tells_all_ascii_digits.parts y more e).0)
not_all (x ∷ xs) y more other true e = not_all xs y more other true (tells_all_ascii_digits.parts x (xs ++ y ∷ more) e).1

pub natural_none : (xs : List ℕ) (y : ℕ) (more : List ℕ) → ¬ (IsInRange 48 57 y) → natural_of (xs ++ y ∷ more) ≡ None
unfolding natural_of
natural_none [] y more other = rw (not_all [] y more other _ refl) refl
natural_none (x ∷ xs) y more other = rw (not_all (x ∷ xs) y more other _ refl) refl
