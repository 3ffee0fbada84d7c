use Rattle.chrono_naive.proofs.DateTextLemmas.{length-date_text-four}
use Rattle.chrono_naive.proofs.law.four_digit_years_have_ten_bytes.Goals as goal

pub returns : goal.returns
returns c = length-date_text-four
