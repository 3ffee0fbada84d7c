use Rattle.std.proofs.Common.{arith, subst}
use Rattle.chrono_calendar.proofs.Signed.{casts}
use Rattle.zone_rule.specs.Changes.{LiesWithin, YearlyChange, change_second}
use Rattle.zone_rule.proofs.MeanYears.{lies_ahead}
use Rattle.zone_rule.proofs.change.Change.window.Goals as goal
use Rattle.std.specs.Prelude.{pos}

pub returns-clause-lies : goal.returns-clause-lies
returns-clause-lies c =
    let stored = c.self.inside in
    let known = c.self.invariant in
    lies_ahead c.args.offset c.args.self.now stored.low stored.high _ _ (subst (λ (x : YearlyChange). LiesWithin (change_second (pos 0) x) stored.low stored.high) c.self.view_is known.lies)
    (omega (arith, casts, known.near_low, c.local_minus_utc.ensures.value, c.local_minus_utc.ensures.in_range, c.from-ahead.ensures))
    (omega (arith, casts, known.near_high, c.local_minus_utc.ensures.value, c.local_minus_utc.ensures.in_range, c.from-ahead.ensures))
