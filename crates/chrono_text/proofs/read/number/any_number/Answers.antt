use Rattle.std.proofs.Common.{◌≡◌, ◌-◌, ◌^◌, ◌<◌, ◌≤◌, ◌∙◌, ℕ, List, length, get_or, Some, ap, min, subst, sym, take, arith, to_z-of_z, SFits, w64, rules}
use Rattle.std.specs.Int.{IsInRange}
use Rattle.std.specs.Str.Parse.{AllDigits, digits_value}
use Rattle.chrono_text.proofs.NumberLemmas.{DigitsInFront, has_sign, no_number, number_first, saturated, stands_first}
use Rattle.chrono_text.proofs.read.number.any_number.Goals as goal
use Rattle.chrono_text.proofs.read.number.any_number.Goals.{then-len-eq0-via-then-len-eq0, then-len-eq0-via-else-len-eq0+then-not-stands_before}

-- the bytes read are those of the line
in_front : (bytes text : List ℕ) (count : ℕ) → bytes ≡ text → count ≤ length bytes → AllDigits 10 (take count bytes) → (count < length bytes → ¬ (IsInRange 48 57 (get_or bytes count 0))) → DigitsInFront text count
in_front bytes text count same within digits end = subst (λ l. DigitsInFront l count) same (record { within = within; digits = digits; end = end })

written : (bytes text : List ℕ) (size count : ℕ) → bytes ≡ text → size ≡ min (digits_value 10 (take count bytes)) (2 ^ 64 - 1) → size ≡ min (digits_value 10 (take count text)) (2 ^ 64 - 1)
written bytes text size count same value = subst (λ l. size ≡ min (digits_value 10 (take count l)) (2 ^ 64 - 1)) same value

pub returns-then-len-eq0-clause-none : goal.returns-then-len-eq0-clause-none
returns-then-len-eq0-clause-none c =
    let size = c.leading_digits-size.result.0 in
    let count = c.leading_digits-size.result.1 in
    let front = in_front c.as_slice.result.now _ count c.as_slice.ensures c.leading_digits-size.ensures.within c.leading_digits-size.ensures.digits c.leading_digits-size.ensures.end in
    let value = written c.as_slice.result.now _ size count c.as_slice.ensures c.leading_digits-size.ensures.value in
    let negative = c.has_minus-negative.result in
    let sign = has_sign negative _ c.args.text.now _ c.from-sign.ensures c.skip-digits.ensures c.has_minus-negative.ensures in
    no_number negative c.args.stop c.args.text.now _ c.leading_digits-size.result.1 sign front c.requires
    (λ some stands. elim c.then-len-eq0.branch [
      | then-len-eq0-via-then-len-eq0 w ↦ absurd (omega arith)
      | then-len-eq0-via-else-len-eq0+then-not-stands_before w ↦ let told = w.stands_before.ensures.1 stands in absurd (grind arith)
    ])

pub returns-in_err-number-clause-none : goal.returns-in_err-number-clause-none
returns-in_err-number-clause-none c =
    let size = c.leading_digits-size.result.0 in
    let count = c.leading_digits-size.result.1 in
    let front = in_front c.as_slice.result.now _ count c.as_slice.ensures c.leading_digits-size.ensures.within c.leading_digits-size.ensures.digits c.leading_digits-size.ensures.end in
    let value = written c.as_slice.result.now _ size count c.as_slice.ensures c.leading_digits-size.ensures.value in
    let negative = c.has_minus-negative.result in
    let sign = has_sign negative _ c.args.text.now _ c.from-sign.ensures c.skip-digits.ensures c.has_minus-negative.ensures in
    let none = sym (saturated negative _ _ value) ∙ sym c.signed.ensures ∙ c.in_err-number.was in
    rw c.from_residual.ensures
    (no_number negative c.args.stop c.args.text.now _ c.leading_digits-size.result.1 sign front c.requires (λ some stands. none))

pub returns-clause-number : goal.returns-clause-number
returns-clause-number c =
    let size = c.leading_digits-size.result.0 in
    let count = c.leading_digits-size.result.1 in
    let front = in_front c.as_slice.result.now _ count c.as_slice.ensures c.leading_digits-size.ensures.within c.leading_digits-size.ensures.digits c.leading_digits-size.ensures.end in
    let value = written c.as_slice.result.now _ size count c.as_slice.ensures c.leading_digits-size.ensures.value in
    let negative = c.has_minus-negative.result in
    let sign = has_sign negative _ c.args.text.now _ c.from-sign.ensures c.skip-digits.ensures c.has_minus-negative.ensures in
    let fits : SFits w64 c.in_ok-number.number = search rules in
    let read = sym (saturated negative _ _ value) ∙ sym c.signed.ensures ∙ c.in_ok-number.was in
    number_first negative _ c.args.text.now _ c.leading_digits-size.result.1 c.in_ok-number.number c.from-sign.ensures sign (omega arith) front.within front.digits read
    ∙ ap Some (sym (to_z-of_z fits))

pub returns-clause-end : goal.returns-clause-end
returns-clause-end c =
    let negative = c.has_minus-negative.result in
    let sign = has_sign negative _ c.args.text.now _ c.from-sign.ensures c.skip-digits.ensures c.has_minus-negative.ensures in
    stands_first negative _ c.args.stop c.args.text.now _ c.leading_digits-size.result.1 c.from-sign.ensures sign (grind arith)
