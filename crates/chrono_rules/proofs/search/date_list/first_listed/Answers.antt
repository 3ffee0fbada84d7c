use Rattle.std.proofs.Common.{arith}
use Rattle.chrono_datetime.proofs.Signed.{signed}
use Rattle.chrono_rules.proofs.search.date_list.first_listed.Goals as goal

pub returns-clause-dates : goal.returns-clause-dates
returns-clause-dates c = λ d low high.
    let found = c.in-Some.ensures in
    (omega (arith, signed, low, found.in_range.0), omega (arith, signed, high, found.exists.1))
