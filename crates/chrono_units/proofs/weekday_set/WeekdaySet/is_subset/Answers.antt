use Rattle.chrono_units.proofs.SetMembers.{subset_iff}
use Rattle.chrono_units.proofs.weekday_set.WeekdaySet.is_subset.Goals as goal

pub returns : goal.returns
returns c =
    let empty = rw c.difference.ensures at c.is_empty.ensures in
    let both = subset_iff c.args.self c.args.other in
    (λ h. both.0 (empty.0 h), λ h. empty.1 (both.1 h))
