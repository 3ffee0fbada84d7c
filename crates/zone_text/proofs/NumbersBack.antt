-- Numbers that are written are read back.
use Rattle.std.proofs.Common.{◌≡◌, ◌<◌, ◌≤◌, ℕ, true, if◌then◌else◌, List, [], ◌∷◌, length, nat_le, Some, None, refl, ap, ◌∙◌, arith}
use Rattle.std.specs.Char.{is_ascii_digit}
use Rattle.std.specs.Fmt.{decimal}
use Rattle.std.specs.Int.{IsInRange}
use Rattle.std.specs.List.{AllByRecursion, list_all}
use Rattle.std.specs.Option.{option_and_then}
use Rattle.std.proofs.lemmas.Bool.{and_from, le-leb}
use Rattle.std.proofs.lemmas.Fmt.{decimal_nonempty}
use Rattle.chrono_text.specs.Numbers.{count_of, digits_of, natural_of, up_to}
use Rattle.chrono_text.specs.Text.{two_digits}
use Rattle.chrono_text.proofs.NaturalLemmas.{two_digits-read}
use Rattle.chrono_text.proofs.NumberLemmas.{count_back, decimal_back, natural_read}
use Rattle.zone_text.specs.HourTexts.{count_up_to}

two_natural : (n : ℕ) → n < 100 → natural_of (two_digits n) ≡ Some n
unfolding digits_of
two_natural n small = two_digits-read n small

-- ---- digits alone

digits_pass : (text : List ℕ) → AllByRecursion (IsInRange 48 57) text → list_all is_ascii_digit text ≡ true
digits_pass [] all = refl
digits_pass (b ∷ bs) all =
    let digit = and_from (nat_le 48 b) (nat_le b 57) (le-leb 48 b all.0.0) (le-leb b 57 all.0.1) in
    and_from (is_ascii_digit b) (list_all is_ascii_digit bs) digit (digits_pass bs all.1)

read_digits_pass : (text : List ℕ) (n : ℕ) → natural_of text ≡ Some n → list_all is_ascii_digit text ≡ true
read_digits_pass text n is = digits_pass text (natural_read text n is).0.digits

pub decimal_digits : (n : ℕ) → n < 1_000 → list_all is_ascii_digit (decimal n) ≡ true
decimal_digits n small = read_digits_pass (decimal n) n (decimal_back n (omega (arith, small)))

pub decimal_some : (n : ℕ) → n < 1_000 → 0 < length (decimal n)
decimal_some n small = decimal_nonempty n (omega (arith, small))

pub two_are_digits : (n : ℕ) → n < 100 → list_all is_ascii_digit (two_digits n) ≡ true
two_are_digits n small = read_digits_pass (two_digits n) n (two_natural n small)

-- ---- their number

limited : (most n : ℕ) → n ≤ most → option_and_then (up_to most) (Some n) ≡ Some n
limited most n within = ap (λ t. if t then Some n else None) (le-leb n most within)

pub count_up_to_back : (most n : ℕ) → n ≤ most → n < 1_000 → count_up_to most (decimal n) ≡ Some n
count_up_to_back most n within small = ap (option_and_then (up_to most)) (count_back n (omega (arith, small))) ∙ limited most n within

two_count : (n : ℕ) → n < 100 → count_of (two_digits n) ≡ Some n
unfolding count_of
two_count n small = ap (option_and_then (up_to 4_294_967_295)) (two_natural n small) ∙ limited 4_294_967_295 n (omega (arith, small))

pub two_back : (most n : ℕ) → n ≤ most → n < 100 → count_up_to most (two_digits n) ≡ Some n
two_back most n within small = ap (option_and_then (up_to most)) (two_count n small) ∙ limited most n within
