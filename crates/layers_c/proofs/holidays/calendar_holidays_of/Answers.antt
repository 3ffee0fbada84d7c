use Rattle.std.proofs.Common.{w32}
use Rattle.std.proofs.lemmas.Int.{to_z-of_z}
use Rattle.layers_c.proofs.holidays.calendar_holidays_of.Goals as goal

pub returns-in-None-clause-none : goal.returns-in-None-clause-none
returns-in-None-clause-none c = λ rules _ numbered _ _.
    let many = rw (to_z-of_z w32 c.args.first_year c.ranges.first_year, to_z-of_z w32 c.args.last_year c.ranges.last_year, c.set_of.ensures) at (c.in-None.ensures.none rules numbered) in
    rw (← c.most_within-most.ensures.most) many
