use Rattle.std.proofs.Common.{arith}
use Rattle.std.proofs.lemmas.Grind.{common_steps}
use Rattle.chrono_text.proofs.DigitLemmas.{all_digits-read, all_digits-written}
use Rattle.chrono_text.proofs.read.places.read_all.Goals as goal

pub returns-clause-some : goal.returns-clause-some
returns-clause-some c = grind (arith, common_steps, all_digits-read)

pub returns-clause-every : goal.returns-clause-every
returns-clause-every c = λ n below e. let written = all_digits-written c.args.text.now n below e in grind (arith, common_steps)
