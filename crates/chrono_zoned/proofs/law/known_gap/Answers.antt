use Rattle.std.proofs.Common.{arith, pos}
use Rattle.std.proofs.lemmas.Int.{ints}
use Rattle.chrono_zoned.specs.KnownZones.{set_ahead}
use Rattle.chrono_zoned.proofs.OneChangeLemmas.{ChangesOnce-set_ahead, never, once_early, once_late}
use Rattle.chrono_zoned.proofs.law.known_gap.Goals as goal

pub returns : goal.returns
returns c = record {
  before = once_early set_ahead (pos 1_000) (pos 0) (pos 3_600) (pos 999) ChangesOnce-set_ahead (omega (arith, ints)) (omega (arith, ints));
  first = never set_ahead (pos 1_000) (pos 0) (pos 3_600) (pos 1_000) ChangesOnce-set_ahead (omega (arith, ints)) (omega (arith, ints));
  last = never set_ahead (pos 1_000) (pos 0) (pos 3_600) (pos 4_599) ChangesOnce-set_ahead (omega (arith, ints)) (omega (arith, ints));
  behind = once_late set_ahead (pos 1_000) (pos 0) (pos 3_600) (pos 4_600) ChangesOnce-set_ahead (omega (arith, ints)) (omega (arith, ints));
}
