use Rattle.std.proofs.Common.{refl}
use Rattle.chrono_business.specs.HolidayRules.{from_saturday, from_sunday}
use Rattle.chrono_business.proofs.law.known_moves_from_weekends.Goals as goal

pub returns-clause-saturday_stays : goal.returns-clause-saturday_stays
unfolding from_saturday from_sunday
returns-clause-saturday_stays c = refl

pub returns-clause-sunday_stays : goal.returns-clause-sunday_stays
unfolding from_saturday from_sunday
returns-clause-sunday_stays c = refl

pub returns-clause-saturday_unless_sunday : goal.returns-clause-saturday_unless_sunday
unfolding from_saturday from_sunday
returns-clause-saturday_unless_sunday c = refl

pub returns-clause-sunday_to_monday : goal.returns-clause-sunday_to_monday
unfolding from_saturday from_sunday
returns-clause-sunday_to_monday c = refl

pub returns-clause-saturday_to_monday : goal.returns-clause-saturday_to_monday
unfolding from_saturday from_sunday
returns-clause-saturday_to_monday c = refl

pub returns-clause-sunday_too : goal.returns-clause-sunday_too
unfolding from_saturday from_sunday
returns-clause-sunday_too c = refl

pub returns-clause-saturday_to_friday : goal.returns-clause-saturday_to_friday
unfolding from_saturday from_sunday
returns-clause-saturday_to_friday c = refl

pub returns-clause-sunday_to_nearer : goal.returns-clause-sunday_to_nearer
unfolding from_saturday from_sunday
returns-clause-sunday_to_nearer c = refl

pub returns-clause-saturday_two_days : goal.returns-clause-saturday_two_days
unfolding from_saturday from_sunday
returns-clause-saturday_two_days c = refl

pub returns-clause-sunday_two_days : goal.returns-clause-sunday_two_days
unfolding from_saturday from_sunday
returns-clause-sunday_two_days c = refl

pub returns-clause-friday : goal.returns-clause-friday
unfolding from_saturday from_sunday
returns-clause-friday c = refl

pub returns-clause-monday : goal.returns-clause-monday
unfolding from_saturday from_sunday
returns-clause-monday c = refl

pub returns-clause-saturday_unless_plus : goal.returns-clause-saturday_unless_plus
unfolding from_saturday from_sunday
returns-clause-saturday_unless_plus c = refl

pub returns-clause-sunday_plus : goal.returns-clause-sunday_plus
unfolding from_saturday from_sunday
returns-clause-sunday_plus c = refl
