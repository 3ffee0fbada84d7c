use Rattle.std.proofs.Common.{append_assoc, refl, rules, arith}
use Rattle.chrono_text.proofs.Decimals.{front_text, one_at_most}
use Rattle.chrono_text.proofs.text.Text.push_front.Goals as goal

pub push_if-requires-2 : goal.push_if-requires-2
push_if-requires-2 g c =
    let one = one_at_most _ _ _ _ c.push_if.ensures in
    (search rules, omega (arith, one))

pub push_if-requires-3 : goal.push_if-requires-3
push_if-requires-3 g c =
    let one = one_at_most _ _ _ _ c.push_if.ensures in
    let two = one_at_most _ _ _ _ c.push_if-2.ensures in
    (search rules, omega (arith, one, two))

pub push_if-requires-4 : goal.push_if-requires-4
push_if-requires-4 g c =
    let one = one_at_most _ _ _ _ c.push_if.ensures in
    let two = one_at_most _ _ _ _ c.push_if-2.ensures in
    let three = one_at_most _ _ _ _ c.push_if-3.ensures in
    (search rules, omega (arith, one, two, three))

pub returns-clause-text : goal.returns-clause-text
returns-clause-text g c =
    let front = c.codes_of_two-thousands.ensures in
    let back = c.codes_of_two-tens.ensures in
    rw (c.push_if-4.ensures, c.push_if-3.ensures, c.push_if-2.ensures, c.push_if.ensures, front.tens, front.ones, back.tens, back.ones, front_text c.args.n c.requires.small) (simp append_assoc refl)

pub returns-clause-fits : goal.returns-clause-fits
returns-clause-fits g c =
    let one = one_at_most _ _ _ _ c.push_if.ensures in
    let two = one_at_most _ _ _ _ c.push_if-2.ensures in
    let three = one_at_most _ _ _ _ c.push_if-3.ensures in
    let four = one_at_most _ _ _ _ c.push_if-4.ensures in
    omega (arith, one, two, three, four)
