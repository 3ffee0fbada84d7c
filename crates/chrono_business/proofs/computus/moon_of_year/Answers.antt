use Rattle.std.proofs.Common.{refl}
use Rattle.chrono_business.specs.Easter.{days_to_moon}
use Rattle.chrono_business.proofs.computus.moon_of_year.Goals as goal

pub returns-clause-value : goal.returns-clause-value
unfolding days_to_moon
returns-clause-value c = rw (c.moon_in_march.ensures.value, c.place_of_epact.ensures.value) refl
