use Rattle.std.proofs.Common.{arith, pos}
use Rattle.std.proofs.lemmas.Int.{ints}
use Rattle.chrono_zoned.specs.KnownZones.{set_back}
use Rattle.chrono_zoned.proofs.OneChangeLemmas.{ChangesOnce-set_back, once_early, once_late, twice}
use Rattle.chrono_zoned.proofs.law.known_fold.Goals as goal

pub returns : goal.returns
returns c = record {
  before = once_early set_back (pos 1_000) (pos 3_600) (pos 0) (pos 999) ChangesOnce-set_back (omega (arith, ints)) (omega (arith, ints));
  first = twice set_back (pos 1_000) (pos 3_600) (pos 0) (pos 1_000) ChangesOnce-set_back (omega (arith, ints)) (omega (arith, ints));
  last = twice set_back (pos 1_000) (pos 3_600) (pos 0) (pos 4_599) ChangesOnce-set_back (omega (arith, ints)) (omega (arith, ints));
  behind = once_late set_back (pos 1_000) (pos 3_600) (pos 0) (pos 4_600) ChangesOnce-set_back (omega (arith, ints)) (omega (arith, ints));
}
