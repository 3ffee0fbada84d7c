use Rattle.std.proofs.Common.{[], codes, inl, inr, refl, arith}
use Rattle.std.specs.Fmt.{digits}
use Rattle.chrono_reading.proofs.NearMisses.{plus, small_letters, zero_seconds}
use Rattle.chrono_reading.proofs.law.known_texts_of_durations.Goals as goal

pub returns-clause-back : goal.returns-clause-back
unfolding digits
returns-clause-back c = inr (record {
  size = codes "PT1.5S";
  is_some = omega arith;
  is_duration = omega arith;
  size_written = record { seconds = 1; nanos = 500000000; fraction = codes ".5"; names = refl; fraction_written = inr (record { places = 1; count = 5; some = (omega arith, omega arith); below = omega arith; worth = refl; written = refl }); written = refl };
  written = refl;
})

pub returns-clause-zeros : goal.returns-clause-zeros
unfolding digits
returns-clause-zeros c = inr (record {
  size = codes "PT1.50S";
  is_some = omega arith;
  is_duration = omega arith;
  size_written = record { seconds = 1; nanos = 500000000; fraction = codes ".50"; names = refl; fraction_written = inr (record { places = 2; count = 50; some = (omega arith, omega arith); below = omega arith; worth = refl; written = refl }); written = refl };
  written = refl;
})

pub returns-clause-whole : goal.returns-clause-whole
unfolding digits
returns-clause-whole c = inr (record {
  size = codes "PT86400S";
  is_some = omega arith;
  is_duration = omega arith;
  size_written = record { seconds = 86400; nanos = 0; fraction = []; names = refl; fraction_written = inl (refl, refl); written = refl };
  written = refl;
})

pub returns-clause-small_letters : goal.returns-clause-small_letters
returns-clause-small_letters c = small_letters

pub returns-clause-plus : goal.returns-clause-plus
returns-clause-plus c = plus

pub returns-clause-zero_seconds : goal.returns-clause-zero_seconds
returns-clause-zero_seconds c = zero_seconds
