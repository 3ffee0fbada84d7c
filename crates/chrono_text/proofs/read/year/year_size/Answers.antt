use Rattle.std.proofs.Common.{arith}
use Rattle.chrono_text.proofs.TextLemmas.{four_digit_size}
use Rattle.std.proofs.lemmas.Grind.{common_steps}
use Rattle.chrono_text.proofs.read.year.year_size.Goals as goal

pub returns-in-len4-clause-every : goal.returns-in-len4-clause-every
returns-in-len4-clause-every c = λ n below e.
    let size = four_digit_size c.args.text.now n below e (omega arith) in grind (arith, common_steps, c.read_four.ensures.every n)
