use Rattle.std.proofs.Common.{ℕ, length, length-append, append_assoc, ap, refl, rules, arith}
use Rattle.chrono_text.proofs.Decimals.{year_by_fours, one_at_most}
use Rattle.chrono_text.proofs.text.Text.push_year_digits.Goals as goal

pub push_if-requires-2 : goal.push_if-requires-2
push_if-requires-2 g c =
    let one = one_at_most _ _ _ _ c.push_if.ensures in
    (search rules, omega (arith, one))

pub push_four-requires : goal.push_four-requires
push_four-requires g c =
    let one = one_at_most _ _ _ _ c.push_if.ensures in
    let two = one_at_most _ _ _ _ c.push_if-2.ensures in
    (search rules, (omega arith, omega (arith, one, two)))

pub returns-clause-text : goal.returns-clause-text
returns-clause-text g c =
    let codes = c.codes_of_two-tens.ensures in
    rw (c.push_four.ensures, c.push_if-2.ensures, c.push_if.ensures, codes.tens, codes.ones, year_by_fours c.args.size c.requires.size) (simp append_assoc refl)

pub returns-clause-fits : goal.returns-clause-fits
returns-clause-fits g c =
    let one = one_at_most _ _ _ _ c.push_if.ensures in
    let two = one_at_most _ _ _ _ c.push_if-2.ensures in
    omega (arith, length-append {A = ℕ}, one, two, ap length c.push_four.ensures)
