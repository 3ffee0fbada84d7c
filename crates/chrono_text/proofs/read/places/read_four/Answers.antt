use Rattle.std.proofs.Common.{◌/◌, arith}
use Rattle.chrono_text.proofs.DigitLemmas.{first_pair}
use Rattle.chrono_text.proofs.read.places.read_four.Goals as goal

pub returns-in_err-front-clause-every : goal.returns-in_err-front-clause-every
returns-in_err-front-clause-every c = λ n below e.
    let none = c.in_err-front.ensures.every (n / 100) (omega arith) (first_pair c.args.digits n below e) in cc
