use Rattle.std.proofs.Common.{ℕ, arith, ap, length, length-append}
use Rattle.std.proofs.lemmas.Fmt.{IsAscii-decimal, length-decimal-le}
use Rattle.zone_text.proofs.writer.put_number.Goals as goal

pub returns-clause-fits : goal.returns-clause-fits
returns-clause-fits g c =
    omega (arith, length-append {A = ℕ}, ap length c.push_short_u32.ensures.text, length-decimal-le 3 c.args.n (omega arith) (omega (arith, c.requires.small)) (omega (arith, c.requires.small)))

pub returns-clause-ascii : goal.returns-clause-ascii
returns-clause-ascii g c = IsAscii-decimal c.args.n (omega (arith, c.requires.small))
