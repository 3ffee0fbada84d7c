use Rattle.std.proofs.Common.{◌∙◌, sym, pos, w32}
use Rattle.std.proofs.lemmas.Int.{to_z-of_z}
use Rattle.chrono_calendar.proofs.Cycles.{flags_of_year-cycle, flags_of_year-in_range}
use Rattle.chrono_calendar.proofs.year_flags.YearFlags.from_year_counted.Goals as goal

pub invariant_of-result : goal.invariant_of-result
invariant_of-result c = rw c.year_to_flags.ensures.value (flags_of_year-in_range (pos c.year_of_cycle.result))

pub returns-clause-value : goal.returns-clause-value
returns-clause-value c =
    let remainder = rw (to_z-of_z w32 c.args.year c.ranges.year) at c.year_of_cycle.ensures.value in
    c.year_to_flags.ensures.value ∙ sym (flags_of_year-cycle c.args.year (pos c.year_of_cycle.result) remainder)

pub returns-clause-in_range : goal.returns-clause-in_range
returns-clause-in_range c = invariant_of-result c
