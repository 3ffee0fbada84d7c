use Rattle.std.proofs.Common.{◌≡◌, true, refl}
use Rattle.chrono_calendar.specs.Days.{days_of_months_in, month_of_ordinal, day_of_ordinal}
use Rattle.chrono_internals.specs.Tables.{ol_adjustment}
use Rattle.chrono_internals.specs.declared.tables.ol_to_mdl.TheConstants.{OL_TO_MDL}
use Rattle.chrono_calendar.proofs.Entries.{follows, entry}
use Rattle.chrono_internals.proofs.tables.ol_to_mdl.ol_to_mdl.Goals as goal

tested : follows ol_adjustment 0 OL_TO_MDL ≡ true
unfolding ol_adjustment month_of_ordinal day_of_ordinal days_of_months_in
tested = refl

pub returns-clause-value : goal.returns-clause-value
returns-clause-value c = entry ol_adjustment OL_TO_MDL tested c.args.ol c.requires
