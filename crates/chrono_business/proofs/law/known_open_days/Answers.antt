use Rattle.std.proofs.Common.{refl, arith}
use Rattle.chrono_datetime.specs.Recurrence.{count_between, count_where}
use Rattle.chrono_datetime.specs.DateLists.{in_steps}
use Rattle.chrono_datetime.proofs.Signed.{signed}
use Rattle.chrono_business.specs.OpenDays.{is_open}
use Rattle.chrono_business.specs.OpenDayLists.{open_days_list}
use Rattle.chrono_business.proofs.law.known_open_days.Goals as goal

pub returns-clause-new_year : goal.returns-clause-new_year
unfolding is_open
returns-clause-new_year c = refl

pub returns-clause-saturday : goal.returns-clause-saturday
unfolding is_open
returns-clause-saturday c = refl

pub returns-clause-tuesday : goal.returns-clause-tuesday
unfolding is_open
returns-clause-tuesday c = refl

pub returns-clause-sunday : goal.returns-clause-sunday
unfolding is_open
returns-clause-sunday c = refl

pub returns-clause-week : goal.returns-clause-week
unfolding is_open count_between count_where
returns-clause-week c = refl

pub returns-clause-back : goal.returns-clause-back
unfolding is_open count_between count_where
returns-clause-back c = refl

pub returns-clause-list : goal.returns-clause-list
unfolding is_open open_days_list in_steps
returns-clause-list c = refl

pub returns-clause-second_from : goal.returns-clause-second_from
unfolding is_open count_between count_where
returns-clause-second_from c = record { passes = refl; not_before = omega (arith, signed); count = refl }

pub returns-clause-second_back : goal.returns-clause-second_back
unfolding is_open count_between count_where
returns-clause-second_back c = record { passes = refl; not_after = omega (arith, signed); count = refl }

pub returns-clause-no_list : goal.returns-clause-no_list
unfolding is_open open_days_list in_steps
returns-clause-no_list c = refl
