use Rattle.chrono_naive.proofs.DateTextLemmas.{date_text_injective}
use Rattle.chrono_naive.proofs.law.dates_have_texts_of_their_own.Goals as goal

pub returns : goal.returns
returns c = date_text_injective
