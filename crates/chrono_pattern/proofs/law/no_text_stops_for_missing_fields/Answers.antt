use Rattle.chrono_pattern.proofs.StopLemmas.{front_stop, text_stop}
use Rattle.chrono_pattern.proofs.law.no_text_stops_for_missing_fields.Goals as goal

pub returns-clause-whole : goal.returns-clause-whole
returns-clause-whole c = text_stop

pub returns-clause-front : goal.returns-clause-front
returns-clause-front c = front_stop
