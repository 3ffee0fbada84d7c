use Rattle.std.proofs.Common.{◌≡◌, ◌+◌, ◌-◌, ◌*◌, ◌<◌, ◌≤◌, ℕ, zero, suc, List, [], ◌∷◌, length, get_or, take, arith}
use Rattle.std.specs.Str.Parse.{AllDigits, digits_value}
use Rattle.std.proofs.lemmas.Str.Parse.{digit_from_value}
use Rattle.chrono_text.proofs.DigitLemmas.{value_is}
use Rattle.chrono_text.proofs.read.number.short_number.Goals as goal

-- one digit or two are worth the last, and ten times the first if that is another
pair : (text : List ℕ) (len first last : ℕ) → 0 < len → len ≤ 2 → len ≤ length text → AllDigits 10 (take len text) → (48 ≤ get_or text 0 0 → first ≡ get_or text 0 0 - 48)
    → (48 ≤ get_or text (len - 1) 0 → last ≡ get_or text (len - 1) 0 - 48) → (first * 10 * (len - 1) + last ≡ digits_value 10 (take len text)) × (first * 10 * (len - 1) + last < 100)
pair text zero first last some few within digits front back = absurd (omega arith)
pair [] (suc len) first last some few within digits front back = absurd (omega arith)
pair (x ∷ xs) (suc zero) first last some few within digits front back =
    let range = digit_from_value x digits.0 in
    let value = value_is (x ∷ []) digits in
    (omega (arith, value, back range.0), omega (arith, back range.0, range.1))
pair (x ∷ []) (suc (suc len)) first last some few within digits front back = absurd (omega arith)
pair (x ∷ y ∷ ys) (suc (suc zero)) first last some few within digits front back =
    let range = digit_from_value x digits.0 in
    let other = digit_from_value y digits.1.0 in
    let value = value_is (x ∷ y ∷ []) digits in
    (omega (arith, value, front range.0, back other.0), omega (arith, front range.0, back other.0, range.1, other.1))
pair (x ∷ y ∷ ys) (suc (suc (suc len))) first last some few within digits front back = absurd (omega arith)

read : (c : goal.After-from-last) → (c.from-first.result * 10 * (c.in_ok-len.len - 1) + c.from-last.result ≡ digits_value 10 (take c.in_ok-len.len c.args.text.now)) × (c.from-first.result * 10 * (c.in_ok-len.len - 1) + c.from-last.result < 100)
read c =
    let front = c.in_ok-len.ensures in
    pair c.args.text.now c.in_ok-len.len c.from-first.result c.from-last.result (omega arith) (omega arith) (omega (arith, front.end.within)) front.digits
    (λ low. omega (arith, c.digit.ensures.value)) (λ low. omega (arith, c.digit-2.ensures.value))

pub returns-clause-value : goal.returns-clause-value
returns-clause-value c = (read c).0

pub returns-clause-small : goal.returns-clause-small
returns-clause-small c = (read c).1
