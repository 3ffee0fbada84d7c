use Rattle.std.proofs.Common.{◌∙◌, ap, w32}
use Rattle.std.proofs.lemmas.Int.{to_z-of_z}
use Rattle.chrono_stored.specs.PackedName.{packed_ordinal}
use Rattle.chrono_stored.proofs.PackedNames.{IsPackedName-stored}
use Rattle.chrono_stored.proofs.packed.PackedFormDayForm.ordinal.Goals as goal

pub returns-clause-value : goal.returns-clause-value
returns-clause-value c =
    let stored = IsPackedName-stored c.self.inside.packed c.args.self.now c.self.invariant c.self.view_is in
    c.ordinal_in.ensures ∙ ap (λ z. packed_ordinal z) (to_z-of_z w32 c.self.inside.packed stored.fits) ∙ stored.ordinal

pub returns-clause-exists : goal.returns-clause-exists
returns-clause-exists c =
    (IsPackedName-stored c.self.inside.packed c.args.self.now c.self.invariant c.self.view_is).exists
