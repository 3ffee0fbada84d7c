use Rattle.zoned_cron.proofs.Corrections.{short_once}
use Rattle.zoned_cron.proofs.law.short_changes_fire_once_each.Goals as goal

pub returns : goal.returns
returns c = λ ahead short l u. short_once ahead short l u
