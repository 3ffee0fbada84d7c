use Rattle.chrono_reading.proofs.PrintedLemmas.{IsDurationText-printed}
use Rattle.chrono_reading.proofs.law.printed_durations_are_read.Goals as goal

pub returns : goal.returns
returns c = IsDurationText-printed
