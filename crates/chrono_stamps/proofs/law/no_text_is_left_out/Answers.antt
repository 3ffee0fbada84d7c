use Rattle.chrono_stamps.proofs.WrittenLemmas.{stamp_has_text}
use Rattle.chrono_stamps.proofs.law.no_text_is_left_out.Goals as goal

pub returns : goal.returns
returns c = stamp_has_text
