use Rattle.std.proofs.Common.{arith, pos}
use Rattle.std.proofs.lemmas.Int.{ints}
use Rattle.chrono_zoned.specs.KnownZones.{set_ahead, set_back}
use Rattle.chrono_zoned.proofs.OneChangeLemmas.{ChangesOnce-set_ahead, ChangesOnce-set_back}
use Rattle.chrono_zoned.proofs.law.known_stretches.Goals as goal

pub returns : goal.returns
returns c = record {
  ahead = λ u from to. ChangesOnce-set_ahead.early u to;
  ahead_no_longer = λ holds. absurd (omega (arith, ints, holds (pos 1_000) (omega (arith, ints)) (omega (arith, ints))));
  back = λ u from to. ChangesOnce-set_back.early u to;
  back_no_longer = λ holds. absurd (omega (arith, ints, holds (pos 1_000) (omega (arith, ints)) (omega (arith, ints))));
}
