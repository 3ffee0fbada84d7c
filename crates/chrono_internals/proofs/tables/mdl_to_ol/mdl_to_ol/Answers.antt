use Rattle.std.proofs.Common.{◌≡◌, true, refl}
use Rattle.chrono_calendar.specs.Days.{days_of_months_in}
use Rattle.chrono_internals.specs.Tables.{mdl_adjustment}
use Rattle.chrono_internals.specs.declared.tables.mdl_to_ol.TheConstants.{MDL_TO_OL}
use Rattle.chrono_calendar.proofs.Entries.{follows, entry}
use Rattle.chrono_internals.proofs.tables.mdl_to_ol.mdl_to_ol.Goals as goal

tested : follows mdl_adjustment 0 MDL_TO_OL ≡ true
unfolding mdl_adjustment days_of_months_in
tested = refl

pub returns-clause-value : goal.returns-clause-value
returns-clause-value c = entry mdl_adjustment MDL_TO_OL tested c.args.mdl c.requires
