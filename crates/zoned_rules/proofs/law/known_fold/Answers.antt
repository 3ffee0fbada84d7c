use Rattle.zoned_rules.proofs.Laws.{fold_first}
use Rattle.zoned_rules.proofs.law.known_fold.Goals as goal

pub returns : goal.returns
returns c = fold_first
