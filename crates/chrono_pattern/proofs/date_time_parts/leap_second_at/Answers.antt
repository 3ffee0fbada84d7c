use Rattle.chrono_pattern.proofs.ZonedPartLemmas.{shown_at}
use Rattle.chrono_pattern.proofs.date_time_parts.leap_second_at.Goals as goal

pub returns-clause-clock : goal.returns-clause-clock
returns-clause-clock c = shown_at c.from_timestamp.result _ _ c.from_timestamp.ensures.value c.from_timestamp.ensures.exists
