use Rattle.chrono_text.proofs.NumberLemmas.{number_read, number_written}
use Rattle.chrono_text.proofs.law.numbers_are_texts.Goals as goal

pub returns-clause-read : goal.returns-clause-read
returns-clause-read c = number_read

pub returns-clause-written : goal.returns-clause-written
returns-clause-written c = number_written
