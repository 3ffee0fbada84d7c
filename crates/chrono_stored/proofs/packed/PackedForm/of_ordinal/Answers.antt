use Rattle.std.proofs.Common.{◌∙◌, ap, arith, w32}
use Rattle.std.proofs.lemmas.Int.{to_z-of_z}
use Rattle.chrono_calendar.specs.Days.{day_number_of_yo, IsOrdinalName}
use Rattle.chrono_stored.proofs.packed.PackedForm.of_ordinal.Goals as goal
use Rattle.chrono_stored.proofs.packed.PackedForm.of_ordinal.Goals.{then-ordinal-lt1-via-then-ordinal-lt1, then-ordinal-lt1-via-else-ordinal-lt1+then-ordinal-ndays}

pub returns-then-ordinal-lt1 : goal.returns-then-ordinal-lt1
returns-then-ordinal-lt1 c =
    λ h. elim c.then-ordinal-lt1.branch [
      | then-ordinal-lt1-via-then-ordinal-lt1 w ↦ absurd (omega arith)
      | then-ordinal-lt1-via-else-ordinal-lt1+then-ordinal-ndays w ↦ absurd (omega (arith, w.ndays.ensures c.args.year c.requires.flags))
    ]

exists : (c : goal.Else-ordinal-ndays) → IsOrdinalName c.args.year c.args.ordinal
exists c =
    let length = c.ndays.ensures c.args.year c.requires.flags in
    (omega arith, omega arith)

pub pack-requires-clause-ordinal : goal.pack-requires-clause-ordinal
pack-requires-clause-ordinal c = rw (to_z-of_z w32 c.args.year c.ranges.year) (exists c)

pub returns : goal.returns
returns c =
    (exists c.before, c.pack.ensures ∙ ap (λ y. day_number_of_yo y c.args.ordinal) (to_z-of_z w32 c.args.year c.ranges.year))
