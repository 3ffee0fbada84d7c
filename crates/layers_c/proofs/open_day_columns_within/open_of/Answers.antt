use Rattle.std.proofs.Common.{true, false, w32}
use Rattle.std.proofs.lemmas.Int.{to_z-of_z}
use Rattle.layers_c.proofs.ColumnLemmas.{open_within-none, open_within-other, open_within-there}
use Rattle.layers_c.proofs.open_day_columns_within.open_of.Goals as goal

pub returns-in_default : goal.returns-in_default
returns-in_default c =
    open_within-none c.args.years c.args.calendar.now c.args.number (rw (to_z-of_z w32 c.args.number c.ranges.number) at c.in_default.ensures.date)

pub returns-in-Some-true : goal.returns-in-Some-true
returns-in-Some-true c =
    let found = rw (to_z-of_z w32 c.args.number c.ranges.number) at c.in-Some.ensures.date in
    open_within-there c.args.years c.args.calendar.now c.args.number c.in-Some.date true found (rw c.in-Some-true.field-0-test at c.in-Some-true.ensures)

pub returns-in-Some-false : goal.returns-in-Some-false
returns-in-Some-false c =
    let found = rw (to_z-of_z w32 c.args.number c.ranges.number) at c.in-Some.ensures.date in
    open_within-there c.args.years c.args.calendar.now c.args.number c.in-Some.date false found (rw c.in-Some-false.field-0-test at c.in-Some-false.ensures)

pub returns-in-None : goal.returns-in-None
returns-in-None c =
    let found = rw (to_z-of_z w32 c.args.number c.ranges.number) at c.in-Some.ensures.date in
    open_within-other c.args.years c.args.calendar.now c.args.number c.in-Some.date found c.in-None.ensures
