use Rattle.chrono_sets.proofs.WordDigits.{six-set, joined-set}
use Rattle.chrono_sets.proofs.place_set.PlaceSet.with.Goals as goal

pub invariant_of-set : goal.invariant_of-set
invariant_of-set c = six-set c.set.inside.words c.args.number c.requires c.set.invariant

pub returns : goal.returns
returns c = rw (← c.set.view_is) (joined-set c.set.inside.words c.args.number c.requires c.set.invariant)
