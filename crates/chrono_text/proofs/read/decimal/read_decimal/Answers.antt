use Rattle.std.proofs.Common.{arith}
use Rattle.std.proofs.lemmas.Grind.{common_steps}
use Rattle.chrono_text.proofs.DigitLemmas.{decimal-read, decimal-written}
use Rattle.chrono_text.proofs.read.decimal.read_decimal.Goals as goal

pub returns-clause-some : goal.returns-clause-some
returns-clause-some c = grind (arith, common_steps, decimal-read)

pub returns-clause-every : goal.returns-clause-every
returns-clause-every c = λ n below e. let written = decimal-written c.args.text.now n below e in grind (arith, common_steps)

pub returns-then-not-has_decimal_form-clause-every : goal.returns-then-not-has_decimal_form-clause-every
returns-then-not-has_decimal_form-clause-every c = λ n below e.
    let form = c.has_decimal_form.ensures.1 (decimal-written c.args.text.now n below e).0 in grind arith
