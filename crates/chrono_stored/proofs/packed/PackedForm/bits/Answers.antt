use Rattle.std.proofs.Common.{◌∙◌, w32}
use Rattle.std.proofs.lemmas.Int.{to_z-of_z}
use Rattle.chrono_stored.proofs.PackedNames.{IsPackedName-stored}
use Rattle.chrono_stored.proofs.packed.PackedForm.bits.Goals as goal

pub returns : goal.returns
returns c =
    let stored = IsPackedName-stored c.self.inside.packed c.args.self.now c.self.invariant c.self.view_is in
    to_z-of_z w32 c.self.inside.packed stored.fits ∙ stored.number
