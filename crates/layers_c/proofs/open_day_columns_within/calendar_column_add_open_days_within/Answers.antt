use Rattle.std.proofs.Common.{w32, w64}
use Rattle.std.proofs.lemmas.Int.{to_z-of_z}
use Rattle.layers_c.proofs.open_day_columns_within.calendar_column_add_open_days_within.Goals as goal

pub returns-in-Some-clause-filled : goal.returns-in-Some-clause-filled
returns-in-Some-clause-filled c = λ _.
    rw (c.in-Some.ensures.calendar, c.years.ensures, to_z-of_z w32 c.args.first_year c.ranges.first_year, to_z-of_z w32 c.args.last_year c.ranges.last_year, to_z-of_z w64 c.args.n c.ranges.n) at c.write_moved.ensures
