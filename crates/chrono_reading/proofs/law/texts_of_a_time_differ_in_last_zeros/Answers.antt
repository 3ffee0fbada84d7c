use Rattle.chrono_reading.proofs.TimeTextLemmas.{IsTimeText-same}
use Rattle.chrono_reading.proofs.law.texts_of_a_time_differ_in_last_zeros.Goals as goal

pub returns : goal.returns
returns c = IsTimeText-same
