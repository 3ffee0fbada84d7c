use Rattle.std.proofs.Common.{◌==◌, ◌/◌, ◌%◌, ap, sym, ◌∙◌}
use Rattle.std.specs.Prelude.{slice_index_or}
use Rattle.std.proofs.lemmas.Nat.Bits.{shr_and_one}
use Rattle.chrono_sets.proofs.WordDigits.{has-joined}
use Rattle.chrono_sets.proofs.place_set.PlaceSet.contains.Goals as goal

pub returns : goal.returns
returns c =
    rw (← c.self.view_is)
    (ap (λ b. b == 1) (shr_and_one (slice_index_or c.self.inside.words (c.args.number / 64) 0) (c.args.number % 64))
    ∙ sym (has-joined c.self.inside.words c.args.number c.self.invariant))
