use Rattle.calendar_text.proofs.FoldBack.{folded_back}
use Rattle.calendar_text.proofs.law.folded_texts_are_unfolded.Goals as goal

pub returns : goal.returns
returns c = folded_back
