-- The text of a year, which is put again from the text of a date.
use Rattle.std.proofs.Common.{◌≡◌, ◌∙◌, ◌+◌, ◌-◌, ◌≤◌, ℕ, ℤ, codes, List, ◌++◌, length, take, drop, refl, ap, append_assoc, length-append, arith}
use Rattle.std.proofs.lemmas.List.{take-take}
use Rattle.std.proofs.Math.Seq.{take-append_seam, take-append-add, take-length, drop-append_seam}
use Rattle.chrono_text.specs.Text.{calendar_text, two_digits, year_text}

-- the first bytes behind others
behind : (old front more all : List ℕ) → all ≡ old ++ (front ++ more) → length front ≤ 8
    → take (length front) (take 8 (take (length all - length old) (drop (length old) all))) ≡ front
behind old front more all is few =
    let rest : drop (length old) all ≡ front ++ more = ap (drop (length old)) is ∙ drop-append_seam old (front ++ more) in
    let count : length all - length old ≡ length (front ++ more) = omega (arith, ap length is, length-append old (front ++ more)) in
    let whole : take (length all - length old) (drop (length old) all) ≡ front ++ more =
    ap (λ k. take k (drop (length old) all)) count ∙ ap (take (length (front ++ more))) rest ∙ take-length (front ++ more) in
    ap (λ l. take (length front) (take 8 l)) whole ∙ take-take (length front) 8 (front ++ more) few ∙ take-append_seam front more

-- the year of a date, from the bytes behind those of before
pub year_again : (old first second a b c e : List ℕ) (y : ℤ) (m d : ℕ) → first ≡ old ++ calendar_text y m d → second ≡ first ++ a ++ b ++ c ++ e → length first ≤ length old + 13
    → take (length first - length old - 6) (take 8 (take (length second - length old) (drop (length old) second))) ≡ year_text y
year_again old first second a b c e y m d date others few =
    let year = year_text y in
    let rest = codes "-" ++ two_digits m ++ codes "-" ++ two_digits d in
    let six : length rest ≡ 6 = refl in
    let parts : old ++ calendar_text y m d ≡ old ++ (year ++ rest) = simp append_assoc refl in
    let sizes : length first ≡ length old + (length year + length rest) = ap length (date ∙ parts) ∙ length-append old (year ++ rest) ∙ ap (λ k. length old + k) (length-append year rest) in
    let size : length first - length old - 6 ≡ length year = omega (arith, sizes, six) in
    let all : second ≡ old ++ (year ++ (rest ++ a ++ b ++ c ++ e)) = others ∙ ap (λ l. l ++ a ++ b ++ c ++ e) date ∙ simp append_assoc refl in
    ap (λ k. take k (take 8 (take (length second - length old) (drop (length old) second)))) size
    ∙ behind old year (rest ++ a ++ b ++ c ++ e) second all (omega (arith, sizes, six, few))

-- the last bytes are removed again
pub shortened : (old bytes : List ℕ) (len : ℕ) → length bytes ≡ 8 → len ≤ 8 → take (length (old ++ bytes) - (8 - len)) (old ++ bytes) ≡ old ++ take len bytes
shortened old bytes len eight few =
    let count : length (old ++ bytes) - (8 - len) ≡ length old + len = omega (arith, length-append old bytes, eight, few) in
    ap (λ k. take k (old ++ bytes)) count ∙ take-append-add old bytes len
