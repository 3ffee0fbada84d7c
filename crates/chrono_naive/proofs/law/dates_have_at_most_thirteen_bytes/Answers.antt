use Rattle.chrono_naive.proofs.DateTextLemmas.{length-date_text-le}
use Rattle.chrono_naive.proofs.law.dates_have_at_most_thirteen_bytes.Goals as goal

pub returns : goal.returns
returns c = length-date_text-le
