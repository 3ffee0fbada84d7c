use Rattle.chrono_clock.proofs.SumLemmas.{sum-of_copies}
use Rattle.chrono_clock.proofs.time_delta.TimeDelta.checked_sum_refs.Goals as goal

pub returns : goal.returns
returns g c = sum-of_copies c.args.iter c.copied.result c.copied.ensures.runs c.checked_sum.result c.checked_sum.ensures
