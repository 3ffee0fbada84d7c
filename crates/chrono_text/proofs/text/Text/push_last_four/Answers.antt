use Rattle.std.proofs.Common.{ℕ, length, length-append, append_assoc, ap, refl, rules, arith}
use Rattle.chrono_text.proofs.Decimals.{last_four_text, one_at_most}
use Rattle.chrono_text.proofs.text.Text.push_last_four.Goals as goal

pub push_if-requires-2 : goal.push_if-requires-2
push_if-requires-2 g c =
    let one = one_at_most _ _ _ _ c.push_if.ensures in
    (search rules, omega (arith, one))

pub push_if-requires-3 : goal.push_if-requires-3
push_if-requires-3 g c =
    let one = one_at_most _ _ _ _ c.push_if.ensures in
    let two = one_at_most _ _ _ _ c.push_if-2.ensures in
    (search rules, omega (arith, one, two))

pub push-requires : goal.push-requires
push-requires g c =
    let one = one_at_most _ _ _ _ c.push_if.ensures in
    let two = one_at_most _ _ _ _ c.push_if-2.ensures in
    let three = one_at_most _ _ _ _ c.push_if-3.ensures in
    (search rules, omega (arith, one, two, three))

pub returns-clause-text : goal.returns-clause-text
returns-clause-text g c =
    let front = c.codes_of_two-thousands.ensures in
    let back = c.codes_of_two-tens.ensures in
    rw (c.push.ensures, c.push_if-3.ensures, c.push_if-2.ensures, c.push_if.ensures, front.tens, front.ones, back.tens, back.ones, last_four_text c.args.n) (simp append_assoc refl)

pub returns-clause-fits : goal.returns-clause-fits
returns-clause-fits g c =
    let one = one_at_most _ _ _ _ c.push_if.ensures in
    let two = one_at_most _ _ _ _ c.push_if-2.ensures in
    let three = one_at_most _ _ _ _ c.push_if-3.ensures in
    omega (arith, length-append {A = ℕ}, one, two, three, ap length c.push.ensures)
