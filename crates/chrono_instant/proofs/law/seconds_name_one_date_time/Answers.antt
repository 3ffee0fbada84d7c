use Rattle.chrono_instant.proofs.InstantLemmas.{LiesIn-once}
use Rattle.chrono_instant.proofs.law.seconds_name_one_date_time.Goals as goal

pub returns : goal.returns
returns c = LiesIn-once
