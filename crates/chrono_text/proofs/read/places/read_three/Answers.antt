use Rattle.std.proofs.Common.{◌/◌, arith}
use Rattle.chrono_text.proofs.DigitLemmas.{first_of_three}
use Rattle.chrono_text.proofs.read.places.read_three.Goals as goal

pub returns-in_err-front-clause-every : goal.returns-in_err-front-clause-every
returns-in_err-front-clause-every c = λ n below e.
    let none = c.in_err-front.ensures.every (n / 10) (omega arith) (first_of_three _ _ _ n below e) in cc
