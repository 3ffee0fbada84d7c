-- INTERVAL, COUNT and UNTIL that are written are read back.
use Rattle.std.proofs.Common.{◌≡◌, ℕ, ◌+◌, ◌/◌, ◌%◌, ◌^◌, ◌<◌, ◌≤◌, true, if◌then◌else◌, List, [], ◌∷◌, ◌++◌, Some, None, ℤ, ◌≤ℤ◌, refl, sym, ap, ◌∙◌, arith}
use Rattle.std.specs.Prelude.{pos}
use Rattle.std.specs.Fmt.{decimal}
use Rattle.std.specs.Option.{option_and_then}
use Rattle.std.proofs.lemmas.Bool.{and_from, le-leb}
use Rattle.chrono_text.specs.Text.{two_digits}
use Rattle.chrono_datetime.specs.Days.{date_of_ymd, day_of, month_of, year_of}
use Rattle.chrono_datetime.proofs.NamedDates.{IsDate-year, date_of_ymd-again}
use Rattle.chrono_datetime.proofs.Signed.{signed}
use Rattle.chrono_text.proofs.NumberLemmas.{count_back}
use Rattle.chrono_text.specs.Numbers.{above_zero}
use Rattle.chrono_rules.specs.RuleTexts.{date_of, interval_of}
use Rattle.chrono_rules.specs.WrittenRules.{basic_date_text}
use Rattle.chrono_rules.proofs.DayTexts.{eight_back, name_small, year_digits}
use Rattle.chrono_rules.proofs.WordBytes.{are_word_bytes, is_digit, is_word_byte}

pub interval_back : (n : ℕ) → 1 ≤ n → n < 2 ^ 32 → interval_of (decimal n) ≡ Some n
unfolding interval_of
interval_back n some fits =
    ap (option_and_then above_zero) (count_back n fits) ∙ ap (λ t. if t then Some n else None) (le-leb 1 n some)

-- ---- a date in eight digits

pub day_back : (n : ℤ) → pos 0 ≤ℤ year_of n → year_of n ≤ℤ pos 9_999 → date_of (basic_date_text n) ≡ Some n
day_back n low high =
    let year = year_digits (year_of n) low high in
    let size = name_small n in
    let is = IsDate-year n (omega (arith, signed, low), omega (arith, signed, high)) in
    ap (λ text. date_of ((text ++ two_digits (month_of n)) ++ two_digits (day_of n))) year.3
    ∙ eight_back year.0 (month_of n) (day_of n) year.2 size.0 size.1
    ∙ ap (λ y. date_of_ymd y (month_of n) (day_of n)) (sym year.1) ∙ date_of_ymd-again n is

-- and no other bytes than digits
two_words : (n : ℕ) (rest : List ℕ) → n < 100 → are_word_bytes rest ≡ true → are_word_bytes (two_digits n ++ rest) ≡ true
two_words n rest small are =
    let high = is_digit (48 + n / 10) (omega arith) (omega (arith, small)) in
    let low = is_digit (48 + n % 10) (omega arith) (omega arith) in
    and_from (is_word_byte (48 + n / 10)) (are_word_bytes ((48 + n % 10) ∷ rest)) high (and_from (is_word_byte (48 + n % 10)) (are_word_bytes rest) low are)

pub day_words : (n : ℤ) → pos 0 ≤ℤ year_of n → year_of n ≤ℤ pos 9_999 → are_word_bytes (basic_date_text n) ≡ true
day_words n low high =
    let year = year_digits (year_of n) low high in
    let size = name_small n in
    let behind = two_digits (month_of n) ++ two_digits (day_of n) in
    let rest = two_words (month_of n) (two_digits (day_of n)) size.0 (two_words (day_of n) [] size.1 refl) in
    ap (λ text. are_word_bytes ((text ++ two_digits (month_of n)) ++ two_digits (day_of n))) year.3
    ∙ two_words (year.0 / 100) (two_digits (year.0 % 100) ++ behind) (omega (arith, year.2)) (two_words (year.0 % 100) behind (omega arith) rest)
