use Rattle.std.proofs.lemmas.Bool.{false≢true}
use Rattle.chrono_business.proofs.Checked.{not_wrong}
use Rattle.chrono_business.proofs.calendar.Calendar.try_new.Goals as goal

pub returns-in-Some-clause-checked : goal.returns-in-Some-clause-checked
returns-in-Some-clause-checked c =
    (λ never. absurd (false≢true never), λ are. absurd (not_wrong c.args.weekend c.args.holidays.now c.in-Some.wrong c.in-Some.ensures.some are))
