use Rattle.std.proofs.Common.{arith}
use Rattle.chrono_datetime.proofs.Signed.{signed}
use Rattle.chrono_rules.proofs.search.date_list.last_listed.Goals as goal

pub returns-clause-dates : goal.returns-clause-dates
returns-clause-dates c = λ d low high.
    let found = c.in-Some.ensures in
    (omega (arith, signed, low, found.exists.0), omega (arith, signed, high, found.in_range.1))
