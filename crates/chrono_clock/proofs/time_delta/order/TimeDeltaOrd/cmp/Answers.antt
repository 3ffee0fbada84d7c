use Rattle.std.proofs.Common.{sym}
use Rattle.chrono_clock.proofs.DurationLemmas.{int_cmp-nanos_of}
use Rattle.chrono_clock.proofs.time_delta.order.TimeDeltaOrd.cmp.Goals as goal

pub returns : goal.returns
returns c =
    int_cmp-nanos_of c.self.inside.secs c.other.inside.secs c.self.inside.nanos c.other.inside.nanos _ _ _ _ _
    (sym c.self.view_is) (sym c.other.view_is) c.self.invariant.0 c.other.invariant.0
    c.cmp.ensures c.cmp-2.ensures c.then.ensures
