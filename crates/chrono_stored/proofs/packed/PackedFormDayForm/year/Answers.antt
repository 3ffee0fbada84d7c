use Rattle.std.proofs.Common.{◌∙◌, ap, w32, rules}
use Rattle.std.proofs.lemmas.Int.{to_z-of_z}
use Rattle.chrono_stored.specs.PackedName.{packed_year}
use Rattle.chrono_stored.proofs.PackedNames.{IsPackedName-stored}
use Rattle.chrono_stored.proofs.packed.PackedFormDayForm.year.Goals as goal

pub returns-clause-value : goal.returns-clause-value
returns-clause-value c =
    let stored = IsPackedName-stored c.self.inside.packed c.args.self.now c.self.invariant c.self.view_is in
    to_z-of_z w32 c.year_in.result (search rules) ∙ c.year_in.ensures ∙ ap (λ z. packed_year z) (to_z-of_z w32 c.self.inside.packed stored.fits) ∙ stored.year

pub returns-clause-in_range : goal.returns-clause-in_range
returns-clause-in_range c =
    (IsPackedName-stored c.self.inside.packed c.args.self.now c.self.invariant c.self.view_is).in_range
