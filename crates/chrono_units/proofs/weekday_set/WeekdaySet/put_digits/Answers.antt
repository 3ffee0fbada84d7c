use Rattle.std.proofs.Common.{length, length-append, append_assoc, ap, refl, rules, arith}
use Rattle.chrono_units.proofs.weekday_set.WeekdaySet.put_digits.Goals as goal

pub put_digit-requires : goal.put_digit-requires
put_digit-requires g c =
    let name = simp length-append at (ap length c.push_text.ensures) in
    (search rules, omega (arith, name))

pub put_digit-requires-2 : goal.put_digit-requires-2
put_digit-requires-2 g c =
    let name = simp length-append at (ap length c.push_text.ensures) in
    (search rules, omega (arith, name, c.put_digit.ensures.longer))

pub put_digit-requires-3 : goal.put_digit-requires-3
put_digit-requires-3 g c =
    let name = simp length-append at (ap length c.push_text.ensures) in
    (search rules, omega (arith, name, c.put_digit.ensures.longer, c.put_digit-2.ensures.longer))

pub put_digit-requires-4 : goal.put_digit-requires-4
put_digit-requires-4 g c =
    let name = simp length-append at (ap length c.push_text.ensures) in
    (search rules, omega (arith, name, c.put_digit.ensures.longer, c.put_digit-2.ensures.longer, c.put_digit-3.ensures.longer))

pub put_digit-requires-5 : goal.put_digit-requires-5
put_digit-requires-5 g c =
    let name = simp length-append at (ap length c.push_text.ensures) in
    (search rules, omega (arith, name, c.put_digit.ensures.longer, c.put_digit-2.ensures.longer, c.put_digit-3.ensures.longer, c.put_digit-4.ensures.longer))

pub put_digit-requires-6 : goal.put_digit-requires-6
put_digit-requires-6 g c =
    let name = simp length-append at (ap length c.push_text.ensures) in
    (search rules, omega (arith, name, c.put_digit.ensures.longer, c.put_digit-2.ensures.longer, c.put_digit-3.ensures.longer, c.put_digit-4.ensures.longer, c.put_digit-5.ensures.longer))

pub put_digit-requires-7 : goal.put_digit-requires-7
put_digit-requires-7 g c =
    let name = simp length-append at (ap length c.push_text.ensures) in
    (search rules, omega (arith, name, c.put_digit.ensures.longer, c.put_digit-2.ensures.longer, c.put_digit-3.ensures.longer, c.put_digit-4.ensures.longer, c.put_digit-5.ensures.longer, c.put_digit-6.ensures.longer))

pub push-requires : goal.push-requires
push-requires g c =
    let name = simp length-append at (ap length c.push_text.ensures) in
    (search rules, omega (arith, name, c.put_digit.ensures.longer, c.put_digit-2.ensures.longer, c.put_digit-3.ensures.longer, c.put_digit-4.ensures.longer, c.put_digit-5.ensures.longer, c.put_digit-6.ensures.longer, c.put_digit-7.ensures.longer))

pub returns : goal.returns
returns g c =
    rw (c.push.ensures, c.put_digit-7.ensures.text, c.put_digit-6.ensures.text, c.put_digit-5.ensures.text, c.put_digit-4.ensures.text, c.put_digit-3.ensures.text, c.put_digit-2.ensures.text, c.put_digit.ensures.text, c.push_text.ensures, c.contains-7.ensures, c.contains-6.ensures, c.contains-5.ensures, c.contains-4.ensures, c.contains-3.ensures, c.contains-2.ensures, c.contains.ensures) (simp append_assoc refl)
