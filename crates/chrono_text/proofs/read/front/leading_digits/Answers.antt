use Rattle.std.proofs.Common.{◌≡◌, ◌+◌, ◌<◌, ◌≤◌, length, get_or, arith}
use Rattle.std.specs.Char.{digit_value}
use Rattle.std.proofs.lemmas.Str.{digit_value_digit}
use Rattle.std.proofs.lemmas.Int.Digits.{digits_more, digits_value_more}
use Rattle.chrono_text.proofs.LaneLemmas.{below}
use Rattle.chrono_text.proofs.read.front.leading_digits.Goals as goal

pub overflow_mul-value : goal.overflow_mul-value
overflow_mul-value c = record { fits = omega (arith, below c.args.text.now c.loop-len.len 17 (omega arith) c.loop-len.invariant.1) }

pub overflow_add-value : goal.overflow_add-value
overflow_add-value c = record { fits = omega (arith, below c.args.text.now c.loop-len.len 17 (omega arith) c.loop-len.invariant.1) }

pub loop-len-preserved : goal.loop-len-preserved
loop-len-preserved c =
    let text = c.args.text.now in
    let len = c.loop-len.len in
    let within : len < length text = omega arith in
    let low : 48 ≤ get_or text len 0 = grind arith in
    let high : get_or text len 0 ≤ 57 = grind arith in
    let is : digit_value (get_or text len 0) + 48 ≡ get_or text len 0 = digit_value_digit (get_or text len 0) (low, high) in (
      omega arith,
      digits_more 10 text len within c.loop-len.invariant.1 (omega arith),
      omega (arith, digits_value_more 10 text len within),
    )
