use Rattle.std.proofs.Common.{refl}
use Rattle.chrono_clock.specs.Time.{land}
use Rattle.chrono_naive.specs.Days.{date_of_day}
use Rattle.chrono_datetime.specs.Moment.{reach}
use Rattle.chrono_datetime.proofs.law.known_reaches.Goals as goal

pub returns : goal.returns
unfolding reach date_of_day land
returns c = record { next_day = refl; second_back = refl; last_end = refl; past_last = refl }
