use Rattle.zoned_cron.proofs.Corrections.{long_fold, long_gap, short_fold, short_gap}
use Rattle.zoned_cron.proofs.law.known_corrections.Goals as goal

pub returns : goal.returns
returns c = record { short_gap = short_gap; long_gap = long_gap; short_fold = short_fold; long_fold = long_fold }
