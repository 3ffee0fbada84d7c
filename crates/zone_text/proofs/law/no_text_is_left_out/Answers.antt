use Rattle.zone_text.proofs.NamesWritten.{zone_in_range, zone_named}
use Rattle.zone_text.proofs.law.no_text_is_left_out.Goals as goal

pub returns-clause-names : goal.returns-clause-names
returns-clause-names c = zone_named

pub returns-clause-rule : goal.returns-clause-rule
returns-clause-rule c = zone_in_range
