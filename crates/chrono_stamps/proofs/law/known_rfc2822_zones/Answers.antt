use Rattle.std.proofs.Common.{inr, refl, arith}
use Rattle.chrono_stamps.specs.Rfc2822.{hours_behind}
use Rattle.chrono_stamps.proofs.law.known_rfc2822_zones.Goals as goal

pub returns-clause-offset : goal.returns-clause-offset
unfolding hours_behind
returns-clause-offset c = inr (record { hours = 5; short = omega arith; behind = refl; names = refl })
