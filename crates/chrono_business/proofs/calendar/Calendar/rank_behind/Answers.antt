use Rattle.std.proofs.Common.{ap, ◌∙◌, arith, ℤ}
use Rattle.chrono_datetime.specs.Recurrence.{first_date}
use Rattle.chrono_datetime.proofs.Signed.{casts}
use Rattle.chrono_business.specs.OpenDays.{open_days}
use Rattle.chrono_business.proofs.calendar.Calendar.rank_behind.Goals as goal

pub returns-clause-value : goal.returns-clause-value
returns-clause-value c =
    c.rank_of_day.ensures.value ∙ ap (λ (d : ℤ). open_days c.args.self.now first_date d) (omega (arith, casts, c.num_days_from_ce.ensures.value, c.num_days_from_ce.ensures.in_range))

pub returns-clause-in_range : goal.returns-clause-in_range
returns-clause-in_range c = rw c.num_days_from_ce.ensures.value at c.num_days_from_ce.ensures.in_range
