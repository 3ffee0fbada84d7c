use Rattle.std.proofs.Common.{refl}
use Rattle.std.specs.Fmt.{digits}
use Rattle.chrono_text.proofs.law.known_texts.Goals as goal

pub returns : goal.returns
unfolding digits
returns c = record { milliseconds = refl; microseconds = refl; back = refl; longest_back = refl; six_digits = refl }
