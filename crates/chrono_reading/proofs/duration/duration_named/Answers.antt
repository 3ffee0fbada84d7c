use Rattle.std.proofs.Common.{sym, ap, ◌∙◌, arith, Some, unsigned_abs}
use Rattle.chrono_reading.proofs.DurationTextLemmas.{minus_size, negated, plain_size}
use Rattle.chrono_reading.proofs.duration.duration_named.Goals as goal

pub returns-in_ok-read_size-in-Some-clause-every : goal.returns-in_ok-read_size-in-Some-clause-every
returns-in_ok-read_size-in-Some-clause-every c = λ x is.
    let size = minus_size _ _ x c.in-Some.ensures.some is in
    negated _ _ x c.neg.ensures (c.in_ok-read_size-in-Some.ensures.every (unsigned_abs x) size.1.some size.1.within size.1.written) size.0

pub returns-in-None-clause-every : goal.returns-in-None-clause-every
returns-in-None-clause-every c = λ x is.
    let size = plain_size _ x c.in-None.ensures.none (λ zero_is. let told = c.is_zero.ensures.1 zero_is in grind arith) is in
    c.read_size-in-None.ensures.every (unsigned_abs x) size.1.some size.1.within size.1.written ∙ ap Some (sym size.0)
