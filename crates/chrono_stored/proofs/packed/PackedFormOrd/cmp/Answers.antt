use Rattle.std.proofs.Common.{◌∙◌}
use Rattle.chrono_stored.proofs.PackedNames.{IsPackedName-stored}
use Rattle.chrono_stored.proofs.PackedOrder.{stored-cmp}
use Rattle.chrono_stored.proofs.packed.PackedFormOrd.cmp.Goals as goal

pub returns : goal.returns
returns c =
    let mine = IsPackedName-stored c.self.inside.packed c.args.self.now c.self.invariant c.self.view_is in
    let other = IsPackedName-stored c.other.inside.packed c.args.other.now c.other.invariant c.other.view_is in
    c.cmp.ensures ∙ stored-cmp c.self.inside.packed c.other.inside.packed c.args.self.now c.args.other.now mine other
