use Rattle.std.proofs.Common.{◌<◌, length, rules, arith}
use Rattle.chrono_text.proofs.FractionLemmas.{IsFractionText-millis, IsFractionText-some}
use Rattle.chrono_text.proofs.read.fraction.read_fraction.Goals as goal
use Rattle.chrono_text.proofs.read.fraction.read_fraction.Goals.{then-text-lt4, else-text-lt4+else-text-lt5}

pub returns-in-46-clause-every : goal.returns-in-46-clause-every
returns-in-46-clause-every c = λ n is. c.read_millis.ensures.every n (IsFractionText-millis c.args.text.now n (omega arith) is)

pub returns-in-46-2-clause-every : goal.returns-in-46-2-clause-every
returns-in-46-2-clause-every c = λ n is.
    let some : 0 < length c.args.text.now = elim c.if-text-lt4.branch [
      | then-text-lt4 w ↦ search rules
      | else-text-lt4+else-text-lt5 w ↦ search rules
    ] in
    c.read_places.ensures.every n (IsFractionText-some c.args.text.now n some is)
