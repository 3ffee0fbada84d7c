use Rattle.chrono_reading.proofs.DurationTextLemmas.{IsDurationText-same}
use Rattle.chrono_reading.proofs.law.texts_of_a_duration_differ_in_last_zeros.Goals as goal

pub returns : goal.returns
returns c = IsDurationText-same
