use Rattle.std.proofs.Common.{◌∙◌, ap, of_z, w32}
use Rattle.std.specs.Hash as fed
use Rattle.chrono_stored.proofs.PackedNames.{IsPackedName-stored}
use Rattle.chrono_stored.proofs.packed.PackedFormHash.hash.Goals as goal

pub returns : goal.returns
returns g c =
    let stored = IsPackedName-stored c.self.inside.packed c.args.self.now c.self.invariant c.self.view_is in
    c.hash.ensures ∙ ap (λ z. g.H.Hasher.write c.args.state.now (fed.le_bytes 4 (of_z w32 z))) stored.number
