use Rattle.zone_text.proofs.RulesBack.{zone_back}
use Rattle.zone_text.proofs.law.written_rules_are_read.Goals as goal

pub returns : goal.returns
returns c = zone_back
