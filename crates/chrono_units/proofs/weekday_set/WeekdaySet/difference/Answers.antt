use Rattle.std.proofs.Common.{◌-◌, arith}
use Rattle.std.proofs.lemmas.Nat.{and_le_l}
use Rattle.chrono_units.proofs.SetDigitLemmas.{set_at-and_not}
use Rattle.chrono_units.proofs.weekday_set.WeekdaySet.difference.Goals as goal

pub returns : goal.returns
returns c = rw (← c.self.view_is, ← c.other.view_is) (set_at-and_not c.self.inside.digits c.other.inside.digits (omega (arith, c.other.invariant)))

pub invariant_of-result : goal.invariant_of-result
invariant_of-result c = omega (arith, and_le_l c.self.inside.digits (255 - c.other.inside.digits), c.self.invariant)
