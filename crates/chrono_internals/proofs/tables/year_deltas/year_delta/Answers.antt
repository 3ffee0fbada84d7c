use Rattle.std.proofs.Common.{◌≡◌, true, refl, arith}
use Rattle.chrono_internals.specs.Tables.{leap_years_before}
use Rattle.chrono_internals.specs.declared.tables.year_deltas.TheConstants.{YEAR_DELTAS}
use Rattle.chrono_calendar.proofs.Entries.{follows, entry}
use Rattle.chrono_internals.proofs.tables.year_deltas.year_delta.Goals as goal

tested : follows leap_years_before 0 YEAR_DELTAS ≡ true
unfolding leap_years_before
tested = refl

pub returns-clause-value : goal.returns-clause-value
returns-clause-value c = entry leap_years_before YEAR_DELTAS tested c.args.years (omega arith)
