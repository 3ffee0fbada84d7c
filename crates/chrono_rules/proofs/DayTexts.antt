-- Dates in eight digits.
use Rattle.std.proofs.Common.{◌≡◌, ℕ, ◌/◌, ◌%◌, ◌<◌, ◌≤◌, ◌==◌, Bool, true, false, ◌||◌, if◌then◌else◌, List, ◌++◌, ℤ, ◌≤ℤ◌, refl, ap, ◌∙◌, arith, append_assoc}
use Rattle.std.specs.Prelude.{int_le, negsuc, pos}
use Rattle.std.specs.Fmt.{decimal}
use Rattle.std.specs.Option.{option_and_then}
use Rattle.std.proofs.lemmas.Bool.{and_from, le-leb}
use Rattle.chrono_text.specs.Numbers.{digits_of}
use Rattle.chrono_text.specs.Text.{all_digits, two_digits}
use Rattle.chrono_text.proofs.Decimals.{four_places}
use Rattle.chrono_text.proofs.NaturalLemmas.{four_digits-read, two_digits-read}
use Rattle.chrono_datetime.specs.Days.{date_of_ymd, day_of, month_of, year_of}
use Rattle.chrono_datetime.specs.Years.{is_leap_year}
use Rattle.chrono_datetime.proofs.NamedDates.{calendar_name-exists}
use Rattle.chrono_datetime.proofs.Signed.{signed}
use Rattle.chrono_rules.specs.RuleTexts.{date_of}
use Rattle.chrono_rules.specs.WrittenRules.{four_digits}

-- ---- what is written is read

pub eight_back : (y m d : ℕ) → y ≤ 9_999 → m < 100 → d < 100 → date_of (((two_digits (y / 100) ++ two_digits (y % 100)) ++ two_digits m) ++ two_digits d) ≡ date_of_ymd (pos y) m d
unfolding date_of
eight_back y m d year month day =
    ap (option_and_then (λ y. option_and_then (λ m. option_and_then (date_of_ymd (pos y) m) (digits_of 2 (two_digits d))) (digits_of 2 (two_digits m)))) (four_digits-read y year)
    ∙ ap (option_and_then (λ m. option_and_then (date_of_ymd (pos y) m) (digits_of 2 (two_digits d)))) (two_digits-read m month)
    ∙ ap (option_and_then (date_of_ymd (pos y) m)) (two_digits-read d day)

length_few : (leap a b : Bool) → (if a then (if leap then 29 else 28) else (if b then 30 else 31)) ≤ 31
length_few true true b = omega arith
length_few false true b = omega arith
length_few leap false true = omega arith
length_few leap false false = omega arith

-- the year in four digits
pub year_digits : (y : ℤ) → pos 0 ≤ℤ y → y ≤ℤ pos 9_999 → (k : ℕ) × (y ≡ pos k) × (k ≤ 9_999) × (four_digits y ≡ two_digits (k / 100) ++ two_digits (k % 100))
year_digits (pos k) low high =
    let few : k ≤ 9_999 = omega (arith, signed, high) in
    let four : four_digits (pos k) ≡ all_digits 4 k =
    ap (λ t. if t then all_digits 4 k else decimal k) (and_from (int_le (pos 0) (pos k)) (int_le (pos k) (pos 9_999)) (le-leb 0 k (omega arith)) (le-leb k 9_999 few)) in
    (k, refl, few, four ∙ four_places k (omega (arith, few)))
year_digits (negsuc k) low high = absurd (omega (arith, signed, low))

pub name_small : (n : ℤ) → (month_of n < 100) × (day_of n < 100)
name_small n =
    let name = calendar_name-exists n in
    let m = month_of n in
    let few = length_few (is_leap_year (year_of n)) (m == 2) ((m == 4) || (m == 6) || (m == 9) || (m == 11)) in
    (omega (arith, name.0.1), omega (arith, name.1.1, few))

-- ---- what is written

pub day_same : (y z : ℤ) (m n d e : ℕ) → y ≡ z → m ≡ n → d ≡ e → ((four_digits y ++ two_digits m) ++ two_digits d) ≡ ((four_digits z ++ two_digits n) ++ two_digits e)
day_same y z m n d e years months days =
    ap (λ x. (four_digits x ++ two_digits m) ++ two_digits d) years ∙ ap (λ x. (four_digits z ++ two_digits x) ++ two_digits d) months
    ∙ ap (λ x. (four_digits z ++ two_digits n) ++ two_digits x) days

pub three_put : (old a b c one two three : List ℕ) → one ≡ old ++ a → two ≡ one ++ b → three ≡ two ++ c → three ≡ old ++ ((a ++ b) ++ c)
three_put old a b c one two three first second third =
    third ∙ ap (λ text. text ++ c) (second ∙ ap (λ text. text ++ b) first ∙ append_assoc old a b) ∙ append_assoc old (a ++ b) c
