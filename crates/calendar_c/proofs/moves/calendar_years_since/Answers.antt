use Rattle.std.proofs.Common.{arith, rules}
use Rattle.calendar_c.proofs.Ranges.{years_between-few}
use Rattle.calendar_c.proofs.moves.calendar_years_since.Goals as goal

pub overflow_cast-result : goal.overflow_cast-result
overflow_cast-result c =
    omega (arith, years_between-few c.in-Some.date c.in-Some-date_of.base c.in-Some-years_since.years c.in-Some.ensures.in_range c.in-Some-date_of.ensures.in_range c.in-Some-years_since.ensures)

pub returns-in-Some-years_since : goal.returns-in-Some-years_since
returns-in-Some-years_since c =
    let few = years_between-few c.in-Some.date c.in-Some-date_of.base c.in-Some-years_since.years c.in-Some.ensures.in_range c.in-Some-date_of.ensures.in_range c.in-Some-years_since.ensures in
    search rules
