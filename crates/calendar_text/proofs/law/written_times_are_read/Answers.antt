use Rattle.calendar_text.proofs.TimesBack.{time_back}
use Rattle.calendar_text.proofs.law.written_times_are_read.Goals as goal

pub returns : goal.returns
returns c = time_back
