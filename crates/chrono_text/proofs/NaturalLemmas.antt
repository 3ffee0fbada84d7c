-- Numbers without a sign, of a whole text.
use Rattle.std.proofs.Common.{◌≡◌, ℕ, ◌+◌, ◌-◌, ◌/◌, ◌%◌, ◌^◌, ◌<◌, ◌≤◌, min, nat_le, nat_lt, Bool, true, false, if◌then◌else◌, List, [], ◌∷◌, length, take, get_or, Some, None, Option, refl, sym, ap, ◌∙◌, arith, ◌++◌}
use Rattle.std.specs.Char.{is_ascii_digit}
use Rattle.std.specs.Int.{IsInRange}
use Rattle.std.specs.List.{AllByRecursion}
use Rattle.std.specs.Option.{option_and_then, option_map}
use Rattle.std.specs.Str.{all_ascii_digits}
use Rattle.std.proofs.Math.Nat.{mul-le-mul_right, pow-succ', pow-le-pow_right}
use Rattle.std.proofs.lemmas.Bool.{le-leb, lt-leb, ltb-true, and_from}
use Rattle.std.proofs.lemmas.Bool.Decides.{nat_tests}
use Rattle.std.proofs.lemmas.List.{take_all}
use Rattle.chrono_text.specs.Numbers.{digits_of, natural_of, up_to, value_of}
use Rattle.chrono_text.specs.Text.{number_text, two_digits}
use Rattle.chrono_text.proofs.NumberLemmas.{mapped, natural_past, natural_read}

-- no digit, and a byte that is none
pub natural_nothing : (text : List ℕ) → length text ≡ 0 → natural_of text ≡ None
unfolding natural_of
natural_nothing [] none = refl
natural_nothing (b ∷ bs) none = absurd (omega (arith, none))

pub natural_stops : (text : List ℕ) (n : ℕ) → n < length text → ¬ (IsInRange 48 57 (get_or text n 0)) → natural_of text ≡ None
natural_stops text n inside other =
    let all : take (length text) text ≡ text = take_all (length text) text (omega arith) in
    ap natural_of (sym all) ∙ natural_past text n (length text) inside (omega arith) other

pub same_least : (n : ℕ) → min n 18_446_744_073_709_551_615 ≡ min 18_446_744_073_709_551_615 n
same_least n = omega arith

-- digits write a number with no more digits
value_small : (ds : List ℕ) → AllByRecursion (IsInRange 48 57) ds → value_of ds < 10 ^ length ds
value_small [] all = omega arith
value_small (d ∷ ds) all =
    let digit : d - 48 ≤ 9 = omega (arith, all.0) in
    omega (arith, mul-le-mul_right (10 ^ length ds) digit, value_small ds all.1, pow-succ' 10 (length ds))

pub natural_small : (text : List ℕ) (n : ℕ) → natural_of text ≡ Some n → n < 10 ^ length text
natural_small text n is = let read = natural_read text n is in omega (arith, read.1, value_small text read.0.digits)

power_small : (k most : ℕ) → k ≤ most → 10 ^ k ≤ 10 ^ most
power_small k most le = pow-le-pow_right {n = 10} (omega arith) le

pub few_digits_read : (text : List ℕ) (most v : ℕ) → length text ≤ most → most ≤ 9 → option_map (min 18_446_744_073_709_551_615) (natural_of text) ≡ Some v → (natural_of text ≡ Some v) × (v < 10 ^ most) × (v < 1_000_000_000)
few_digits_read text most v few small is =
    let found = mapped (min 18_446_744_073_709_551_615) (natural_of text) v is in
    let bound = natural_small text found.0 found.1 in
    let same : found.0 ≡ v = omega (arith, found.2, bound, power_small (length text) 9 (omega (arith, few, small))) in
    (found.1 ∙ ap Some same, omega (arith, same, bound, power_small (length text) most few), omega (arith, same, bound, power_small (length text) 9 (omega (arith, few, small))))

pub digits_read : (text : List ℕ) (most v : ℕ) → length text ≤ most → natural_of text ≡ Some v → (if nat_le (length text) most then natural_of text else None) ≡ Some v
digits_read text most v few is = rw (le-leb (length text) most few) is

pub digits_unread : (text : List ℕ) (most : ℕ) → length text ≤ most → option_map (min 18_446_744_073_709_551_615) (natural_of text) ≡ None → (if nat_le (length text) most then natural_of text else None) ≡ None
digits_unread text most few none = rw (le-leb (length text) most few) (unmapped (natural_of text) none)
  where
    unmapped : (o : Option ℕ) → option_map (min 18_446_744_073_709_551_615) o ≡ None → o ≡ None
    unmapped None h = refl
    unmapped (Some n) h = let wrong : ⊥ = cc in absurd wrong

-- what is below 2^32
pub counted : (o : Option ℕ) (v : ℕ) → option_map (min 18_446_744_073_709_551_615) o ≡ Some v → v ≤ 4_294_967_295 → option_and_then (up_to 4_294_967_295) o ≡ Some v
counted o v is small =
    let found = mapped (min 18_446_744_073_709_551_615) o v is in
    let same : found.0 ≡ v = omega (arith, found.2, small) in
    ap (option_and_then (up_to 4_294_967_295)) (found.1 ∙ ap Some same) ∙ rw (le-leb v 4_294_967_295 small) refl

pub too_large : (o : Option ℕ) (v : ℕ) → option_map (min 18_446_744_073_709_551_615) o ≡ Some v → 4_294_967_295 < v → option_and_then (up_to 4_294_967_295) o ≡ None
too_large o v is large =
    let found = mapped (min 18_446_744_073_709_551_615) o v is in
    ap (option_and_then (up_to 4_294_967_295)) found.1 ∙ rw (lt-leb found.0 4_294_967_295 (omega (arith, found.2, large))) refl

pub uncounted : (o : Option ℕ) → option_map (min 18_446_744_073_709_551_615) o ≡ None → option_and_then (up_to 4_294_967_295) o ≡ None
uncounted None h = refl
uncounted (Some n) h = let wrong : ⊥ = cc in absurd wrong

-- ---- a number of one digit or two is read from them

pub some_if : (b : Bool) (v n : ℕ) → b ≡ true → v ≡ n → (if b then Some v else None) ≡ Some n
some_if b v n e f = rw e (ap Some f)

all_two : (a b : ℕ) → 48 ≤ a → a ≤ 57 → 48 ≤ b → b ≤ 57 → all_ascii_digits (a ∷ b ∷ []) ≡ true
all_two a b h i j k = grind (arith, nat_tests)

all_one : (a : ℕ) → 48 ≤ a → a ≤ 57 → all_ascii_digits (a ∷ []) ≡ true
all_one a h i = grind (arith, nat_tests)

pub two_digits-read : (n : ℕ) → n < 100 → digits_of 2 (two_digits n) ≡ Some n
unfolding digits_of natural_of
two_digits-read n small =
    let a = 48 + n / 10 in
    let b = 48 + n % 10 in
    some_if (all_ascii_digits (a ∷ b ∷ [])) _ n (all_two a b (omega arith) (omega arith) (omega arith) (omega arith)) (omega arith)

one_digit-read : (n : ℕ) → n < 10 → digits_of 2 ((48 + n) ∷ []) ≡ Some n
unfolding digits_of natural_of
one_digit-read n few = some_if (all_ascii_digits ((48 + n) ∷ [])) _ n (all_one (48 + n) (omega arith) (omega (arith, few))) (omega arith)

by_few : (b : Bool) (n : ℕ) → n < 100 → (b ≡ true → n < 10) → digits_of 2 (if b then (48 + n) ∷ [] else two_digits n) ≡ Some n
by_few true n small few = one_digit-read n (few refl)
by_few false n small few = two_digits-read n small

pub number_text-read : (n : ℕ) → n < 100 → digits_of 2 (number_text n) ≡ Some n
number_text-read n small = by_few (nat_lt n 10) n small (λ few. ltb-true n 10 few)

-- ---- two digits and four

pub two_digits-all : (n : ℕ) (rest : List ℕ) → n < 100 → all_ascii_digits rest ≡ true → all_ascii_digits (two_digits n ++ rest) ≡ true
two_digits-all n rest small are =
    let high = and_from (nat_le 48 (48 + n / 10)) (nat_le (48 + n / 10) 57) (le-leb 48 (48 + n / 10) (omega arith)) (le-leb (48 + n / 10) 57 (omega (arith, small))) in
    let low = and_from (nat_le 48 (48 + n % 10)) (nat_le (48 + n % 10) 57) (le-leb 48 (48 + n % 10) (omega arith)) (le-leb (48 + n % 10) 57 (omega arith)) in
    and_from (is_ascii_digit (48 + n / 10)) (all_ascii_digits ((48 + n % 10) ∷ rest)) high (and_from (is_ascii_digit (48 + n % 10)) (all_ascii_digits rest) low are)

pub four_digits-read : (n : ℕ) → n ≤ 9_999 → digits_of 4 (two_digits (n / 100) ++ two_digits (n % 100)) ≡ Some n
unfolding digits_of natural_of
four_digits-read n small =
    let text = two_digits (n / 100) ++ two_digits (n % 100) in
    let value : value_of text ≡ n = omega arith in
    let are = two_digits-all (n / 100) (two_digits (n % 100)) (omega (arith, small)) (two_digits-all (n % 100) [] (omega arith) refl) in
    ap (λ t. if t then Some (value_of text) else None) are ∙ ap Some value
