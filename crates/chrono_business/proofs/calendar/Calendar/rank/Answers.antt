use Rattle.std.proofs.Common.{ap, ◌∙◌, rules, ℤ, FitsSigned, w32}
use Rattle.std.proofs.lemmas.Int.{to_z-of_z}
use Rattle.chrono_datetime.specs.Recurrence.{first_date}
use Rattle.chrono_business.specs.OpenDays.{open_days}
use Rattle.chrono_business.proofs.calendar.Calendar.rank.Goals as goal

pub returns-clause-value : goal.returns-clause-value
returns-clause-value c =
    let fits : FitsSigned w32 c.num_days_from_ce.result = search rules in
    c.rank_of_day.ensures.value ∙ ap (λ (d : ℤ). open_days c.args.self.now first_date d) (to_z-of_z w32 c.num_days_from_ce.result fits ∙ c.num_days_from_ce.ensures.value)

pub returns-clause-in_range : goal.returns-clause-in_range
returns-clause-in_range c = rw c.num_days_from_ce.ensures.value at c.num_days_from_ce.ensures.in_range
