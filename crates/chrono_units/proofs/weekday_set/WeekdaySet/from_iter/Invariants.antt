use Rattle.std.proofs.Common.{◌≡◌}
use Rattle.chrono_units.specs.WeekdaySet.{set_of}
use Rattle.chrono_units.proofs.weekday_set.WeekdaySet.from_iter.Given as goal

abbrev pub invariant-loop-day : goal.invariant-loop-day
invariant-loop-day g l = l.members ≡ set_of l.yielded
