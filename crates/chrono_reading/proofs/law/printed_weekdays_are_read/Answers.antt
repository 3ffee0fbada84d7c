use Rattle.chrono_reading.proofs.NameLemmas.{IsWeekdayText-printed}
use Rattle.chrono_reading.proofs.law.printed_weekdays_are_read.Goals as goal

pub returns : goal.returns
returns c = IsWeekdayText-printed
