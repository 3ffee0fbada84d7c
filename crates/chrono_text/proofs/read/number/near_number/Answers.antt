use Rattle.std.proofs.Common.{◌∙◌, Some, ap, sym, arith, to_z-of_z, SFits, w64, rules}
use Rattle.std.specs.Str.Parse.{digits_value}
use Rattle.chrono_text.specs.Numbers.{signed, to_i64}
use Rattle.chrono_text.proofs.NumberLemmas.{has_sign, number_first, stands_first}
use Rattle.chrono_text.proofs.read.number.near_number.Goals as goal

pub returns-clause-number : goal.returns-clause-number
returns-clause-number c =
    let front = c.in_ok-len.ensures in
    let negative = c.has_minus-negative.result in
    let sign = has_sign negative _ c.args.text.now _ c.from-sign.ensures c.skip.ensures c.has_minus-negative.ensures in
    let fits : SFits w64 c.in_ok-number.number = search rules in
    let value = c.digits_value.ensures.value ∙ ap (digits_value 10) front.same in
    let read = ap (λ n. to_i64 (signed negative n)) (sym value) ∙ sym c.signed.ensures ∙ c.in_ok-number.was in
    number_first negative _ c.args.text.now _ c.in_ok-len.len c.in_ok-number.number c.from-sign.ensures sign (omega arith) front.end.within front.digits read
    ∙ ap Some (sym (to_z-of_z fits))

pub returns-clause-end : goal.returns-clause-end
returns-clause-end c =
    let negative = c.has_minus-negative.result in
    let sign = has_sign negative _ c.args.text.now _ c.from-sign.ensures c.skip.ensures c.has_minus-negative.ensures in
    stands_first negative _ c.args.stop c.args.text.now _ c.in_ok-len.len c.from-sign.ensures sign c.in_ok-len.ensures.end
