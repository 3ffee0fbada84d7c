use Rattle.std.proofs.Common.{◌/◌, ◌%◌, length, length-append, append_assoc, refl, ap, rules, arith}
use Rattle.chrono_text.proofs.Decimals.{at_most, decimal_cut, eight_digits}
use Rattle.chrono_text.proofs.text.Text.+push_natural.Goals as goal

pub push_four-requires : goal.push_four-requires
push_four-requires g t c =
    let n = c.args.n in
    let long = simp length-append at (ap length c.push_natural.ensures) in
    let short = at_most 11 (n / 100_000_000) (omega arith) (omega arith) (omega arith) in
    (search rules, (omega arith, omega (arith, long, short)))

pub push_four-requires-2 : goal.push_four-requires-2
push_four-requires-2 g t c =
    let n = c.args.n in
    let long = simp length-append at (ap length c.push_natural.ensures) in
    let longer = simp length-append at (ap length c.push_four.ensures) in
    let short = at_most 11 (n / 100_000_000) (omega arith) (omega arith) (omega arith) in
    (search rules, (omega arith, omega (arith, long, longer, short)))

pub returns : goal.returns
returns g t c =
    let n = c.args.n in
    rw (c.push_four-2.ensures, c.push_four.ensures, c.push_natural.ensures, decimal_cut 8 n (omega arith) c.requires.small, eight_digits (n % 100_000_000) (omega arith)) (simp append_assoc refl)
