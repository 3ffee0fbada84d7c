use Rattle.std.proofs.Common.{sym, w32}
use Rattle.std.proofs.lemmas.Int.{to_z-of_z}
use Rattle.chrono_calendar.proofs.IsoWeeks.{days_from_sunday_of-counted}
use Rattle.chrono_calendar.proofs.forms.days_from_sunday_before.Goals as goal

pub returns : goal.returns
returns c =
    rw (to_z-of_z w32 c.args.year c.ranges.year) at (sym (days_from_sunday_of-counted _ _ c.days_counted_before.ensures))
