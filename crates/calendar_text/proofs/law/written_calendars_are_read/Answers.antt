use Rattle.calendar_text.proofs.WrittenBack.{written_back}
use Rattle.calendar_text.proofs.law.written_calendars_are_read.Goals as goal

pub returns : goal.returns
returns c = written_back
