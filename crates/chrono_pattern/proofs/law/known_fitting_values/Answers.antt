use Rattle.std.proofs.Common.{refl}
use Rattle.chrono_pattern.specs.DateParts.{year_fits}
use Rattle.chrono_pattern.specs.TimeParts.{second_fits}
use Rattle.chrono_pattern.proofs.law.known_fitting_values.Goals as goal

pub returns-clause-last_of_window : goal.returns-clause-last_of_window
unfolding year_fits second_fits
returns-clause-last_of_window c = refl

pub returns-clause-before_window : goal.returns-clause-before_window
unfolding year_fits second_fits
returns-clause-before_window c = refl

pub returns-clause-first_of_window : goal.returns-clause-first_of_window
unfolding year_fits second_fits
returns-clause-first_of_window c = refl

pub returns-clause-behind_window : goal.returns-clause-behind_window
unfolding year_fits second_fits
returns-clause-behind_window c = refl

pub returns-clause-century : goal.returns-clause-century
unfolding year_fits second_fits
returns-clause-century c = refl

pub returns-clause-leap : goal.returns-clause-leap
unfolding year_fits second_fits
returns-clause-leap c = refl

pub returns-clause-no_leap : goal.returns-clause-no_leap
unfolding year_fits second_fits
returns-clause-no_leap c = refl
