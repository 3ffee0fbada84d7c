use Rattle.std.proofs.Common.{length, ap, arith}
use Rattle.chrono_datetime.proofs.Signed.{casts}
use Rattle.chrono_rules.proofs.RecurrenceWalks.{recurrence-few}
use Rattle.chrono_rules.proofs.search.recurrence.recurrence_iterator.RecurrenceDaysIterator.size_hint.Goals as goal

pub returns-clause-upper : goal.returns-clause-upper
returns-clause-upper c =
    let it = c.self.inside in
    let inv = c.self.invariant in
    (tt, omega (arith, casts, ap length c.self.view_is, recurrence-few it.recurrence it.from, inv.0, inv.1))
