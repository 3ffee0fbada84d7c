use Rattle.zoned_rules.proofs.KnownSets.{starts_behind_gap, starts_in_gap}
use Rattle.zoned_rules.proofs.law.known_starts.Goals as goal

pub returns : goal.returns
returns c = record { behind_gap = starts_behind_gap; in_gap = starts_in_gap }
