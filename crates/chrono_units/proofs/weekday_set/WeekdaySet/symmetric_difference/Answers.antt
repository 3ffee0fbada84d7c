use Rattle.std.proofs.lemmas.Nat.{xor_lt}
use Rattle.chrono_units.proofs.SetDigitLemmas.{set_at-xor}
use Rattle.chrono_units.proofs.weekday_set.WeekdaySet.symmetric_difference.Goals as goal

pub invariant_of-result : goal.invariant_of-result
invariant_of-result c = xor_lt 7 _ _ c.self.invariant c.other.invariant

pub returns : goal.returns
returns c = rw (← c.self.view_is, ← c.other.view_is) (set_at-xor c.self.inside.digits c.other.inside.digits)
