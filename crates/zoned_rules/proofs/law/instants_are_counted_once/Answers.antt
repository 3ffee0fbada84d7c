use Rattle.zoned_rules.proofs.Numbered.{one_number}
use Rattle.zoned_rules.specs.Recurs.{Recurs}
use Rattle.zoned_rules.proofs.law.instants_are_counted_once.Goals as goal

pub returns : goal.returns
returns c = λ r ahead j k u. one_number (Recurs r ahead) j k u
