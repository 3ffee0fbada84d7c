use Rattle.std.proofs.Common.{◌≡◌, ◌+◌, ◌<◌, ◌≤◌, length, get_or, arith}
use Rattle.std.specs.Char.{digit_value}
use Rattle.std.proofs.lemmas.Str.{digit_value_digit}
use Rattle.std.proofs.lemmas.Int.Digits.{digits_more, digits_value_more}
use Rattle.chrono_text.proofs.read.front.further_digits.Goals as goal

pub loop-len-preserved : goal.loop-len-preserved
loop-len-preserved c =
    let text = c.args.text.now in
    let len = c.loop-len.len in
    let within : len < length text = omega arith in
    let low : 48 ≤ get_or text len 0 = grind arith in
    let high : get_or text len 0 ≤ 57 = grind arith in
    let is : digit_value (get_or text len 0) + 48 ≡ get_or text len 0 = digit_value_digit (get_or text len 0) (low, high) in (
      omega arith,
      digits_more 10 text len within c.loop-len.invariant.1 (omega arith),
      omega (arith, digits_value_more 10 text len within),
    )
