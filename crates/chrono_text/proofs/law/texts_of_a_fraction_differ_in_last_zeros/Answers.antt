use Rattle.chrono_text.proofs.FractionLemmas.{IsFractionText-told}
use Rattle.chrono_text.proofs.law.texts_of_a_fraction_differ_in_last_zeros.Goals as goal

pub returns : goal.returns
returns c = IsFractionText-told
