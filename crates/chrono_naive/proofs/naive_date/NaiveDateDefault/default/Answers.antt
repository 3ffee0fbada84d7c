use Rattle.std.proofs.Common.{refl}
use Rattle.chrono_calendar.specs.Days.{date_of_day}
use Rattle.chrono_naive.proofs.naive_date.NaiveDateDefault.default.Goals as goal

pub unwrap-requires : goal.unwrap-requires
unfolding date_of_day
unwrap-requires c = rw (c.from_num_days_from_ce_opt.ensures.date) refl

pub returns : goal.returns
unfolding date_of_day
returns c = cc
