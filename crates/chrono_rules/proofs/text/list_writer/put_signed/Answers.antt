use Rattle.std.proofs.Common.{length, length-append, ap, arith}
use Rattle.std.proofs.lemmas.Fmt.{length-decimal-le}
use Rattle.chrono_rules.proofs.ListLemmas.{sign_short}
use Rattle.chrono_rules.proofs.text.list_writer.put_signed.Goals as goal

pub returns-clause-fits : goal.returns-clause-fits
returns-clause-fits g c =
    let n = c.args.number in
    let few = length-decimal-le 3 n (omega arith) (omega (arith, c.requires.small)) (omega (arith, c.requires.small)) in
    let put = simp length-append at (ap length c.push_short_u32.ensures.text) in
    let signed = simp length-append at (ap length c.push_if.ensures) in
    omega (arith, few, put, signed, sign_short c.args.from_end 45)
