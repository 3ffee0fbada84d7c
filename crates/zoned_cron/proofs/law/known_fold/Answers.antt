use Rattle.zoned_cron.proofs.Laws.{fold_first, fold_not_again, fold_once, fold_second}
use Rattle.zoned_cron.proofs.law.known_fold.Goals as goal

pub returns : goal.returns
returns c = record { once = fold_once; not_again = fold_not_again; first = fold_first; second = fold_second }
