use Rattle.std.proofs.Common.{length, ap, arith}
use Rattle.chrono_business.proofs.OpenLists.{length-by_ranks}
use Rattle.chrono_business.proofs.open_days_iterator.OpenDaysIteratorExactSizeIterator.len.Goals as goal

pub returns-clause-value : goal.returns-clause-value
returns-clause-value c =
    let it = c.self.inside in
    let inv = c.self.invariant in
    omega (arith, c.saturating_sub.ensures, inv.3, inv.4, length-by_ranks it.calendar.now it.start it.end inv.0 inv.1, ap length c.self.view_is)
