use Rattle.zoned_rules.specs.Recurs.{Recurs}
use Rattle.zoned_rules.proofs.KnownSets.{until_last, until_past}
use Rattle.zoned_rules.proofs.law.known_until.Goals as goal

pub returns : goal.returns
returns c = record { last = λ r ahead m. until_last (Recurs r ahead) m; past = λ r ahead m. until_past (Recurs r ahead) m }
