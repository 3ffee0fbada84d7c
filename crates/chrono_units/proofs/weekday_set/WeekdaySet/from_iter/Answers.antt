use Rattle.std.proofs.Common.{◌≡◌, rules}
use Rattle.std.specs.Bool.{⊤}
use Rattle.std.proofs.iter.runs.Consumers.{total_runs}
use Rattle.chrono_units.specs.WeekdaySet.{set_of}
use Rattle.chrono_units.proofs.weekday_set.WeekdaySet.from_iter.Goals as goal

pub returns : goal.returns
returns g c =
    total_runs g.I.Iterator.next_gives c.args.iter ⊤ (λ days. c.loop-day.members ≡ set_of days) (c.loop-day.yielded, λ _. search rules, c.loop-day.invariant) tt
