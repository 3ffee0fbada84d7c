use Rattle.std.proofs.Common.{◌∙◌, FitsSigned, rules, w32, w64}
use Rattle.std.proofs.lemmas.Int.{to_z-of_z}
use Rattle.layers_c.proofs.ColumnLemmas.{between-no_from, between-no_to, between-there}
use Rattle.layers_c.proofs.open_day_columns.between_of.Goals as goal

pub returns-in_default : goal.returns-in_default
returns-in_default c =
    between-no_from c.args.calendar.now c.args.from c.args.to (rw (to_z-of_z w32 c.args.from c.ranges.from) at c.in_default.ensures.date)

pub returns-in-Some-date_of : goal.returns-in-Some-date_of
returns-in-Some-date_of c =
    let fits : FitsSigned w64 c.open_days.result = search rules in
    let from = rw (to_z-of_z w32 c.args.from c.ranges.from) at c.in-Some.ensures.date in
    let to = rw (to_z-of_z w32 c.args.to c.ranges.to) at c.in-Some-date_of.ensures.date in
    to_z-of_z w64 c.open_days.result fits ∙ c.open_days.ensures.value
    ∙ between-there c.args.calendar.now c.args.from c.args.to c.in-Some.from c.in-Some-date_of.to from to

pub returns-in-None : goal.returns-in-None
returns-in-None c =
    between-no_to c.args.calendar.now c.args.from c.args.to (rw (to_z-of_z w32 c.args.to c.ranges.to) at c.in-None.ensures.date)
