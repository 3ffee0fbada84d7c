use Rattle.chrono_reading.proofs.PrintedLemmas.{IsTimeText-printed}
use Rattle.chrono_reading.proofs.law.printed_times_are_read.Goals as goal

pub returns : goal.returns
returns c = IsTimeText-printed
