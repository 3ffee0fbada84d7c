use Rattle.calendar_text.proofs.ShortLines.{folded_short}
use Rattle.calendar_text.proofs.law.folded_lines_are_short.Goals as goal

pub returns : goal.returns
returns c = folded_short
