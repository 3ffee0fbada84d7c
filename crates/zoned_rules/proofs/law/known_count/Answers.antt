use Rattle.zoned_rules.proofs.KnownSets.{count_second, count_third}
use Rattle.zoned_rules.proofs.law.known_count.Goals as goal

pub returns : goal.returns
returns c = record { second = count_second; third = count_third }
