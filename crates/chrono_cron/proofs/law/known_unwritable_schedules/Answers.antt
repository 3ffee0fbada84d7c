use Rattle.std.proofs.Common.{arith, refl}
use Rattle.std.proofs.lemmas.Bool.{false≢true}
use Rattle.chrono_sets.specs.FiniteSets.{has}
use Rattle.chrono_cron.proofs.law.known_unwritable_schedules.Goals as goal

pub returns-clause-day_0 : goal.returns-clause-day_0
unfolding has
returns-clause-day_0 c = λ is. omega (arith, (is.days 0 refl).0)

pub returns-clause-unstarred : goal.returns-clause-unstarred
unfolding has
returns-clause-unstarred c = λ is. false≢true (is.starred refl)

pub returns-clause-untimed : goal.returns-clause-untimed
unfolding has
returns-clause-untimed c = λ is. false≢true (is.timed refl)
