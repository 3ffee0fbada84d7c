use Rattle.std.proofs.Common.{w32}
use Rattle.std.proofs.lemmas.Int.{to_z-of_z}
use Rattle.layers_c.proofs.ColumnLemmas.{open-none, open-there}
use Rattle.layers_c.proofs.open_day_columns.open_of.Goals as goal

pub returns-then-is_open : goal.returns-then-is_open
returns-then-is_open c =
    let found = rw (to_z-of_z w32 c.args.number c.ranges.number) at c.in-Some.ensures.date in
    rw c.if-is_open.true at (open-there c.args.calendar.now c.args.number c.in-Some.date c.is_open.result found c.is_open.ensures)

pub returns-else-is_open : goal.returns-else-is_open
returns-else-is_open c =
    let found = rw (to_z-of_z w32 c.args.number c.ranges.number) at c.in-Some.ensures.date in
    rw c.if-is_open.false at (open-there c.args.calendar.now c.args.number c.in-Some.date c.is_open.result found c.is_open.ensures)

pub returns-in-None : goal.returns-in-None
returns-in-None c =
    open-none c.args.calendar.now c.args.number (rw (to_z-of_z w32 c.args.number c.ranges.number) at c.in-None.ensures.date)
