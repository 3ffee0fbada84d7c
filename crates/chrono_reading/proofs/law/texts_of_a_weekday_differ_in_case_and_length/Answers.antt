use Rattle.chrono_datetime.specs.Names.{weekday_name}
use Rattle.chrono_reading.proofs.NameLemmas.{IsNameText-same}
use Rattle.chrono_reading.proofs.law.texts_of_a_weekday_differ_in_case_and_length.Goals as goal

pub returns : goal.returns
returns c = λ text other named is also. IsNameText-same text other (weekday_name named) is also
