use Rattle.std.proofs.Common.{◌≡◌, arith, of_z, to_z, w32}
use Rattle.chrono_stored.specs.PackedName.{packed_name}
use Rattle.chrono_calendar.proofs.Signed.{casts}
use Rattle.chrono_stored.proofs.PackedNames.{IsPackedName-made, packed_name-year, packed_name-ordinal}
use Rattle.chrono_stored.proofs.packed.PackedForm.pack.Goals as goal

-- the number that is put together is the stored one
made : (c : goal.After-packed_number) → to_z w32 (of_z w32 c.packed_number.result) ≡ packed_name c.args.year c.args.ordinal
made c = omega (arith, casts, c.packed_number.ensures, c.requires.flags)

pub invariant_of-result : goal.invariant_of-result
invariant_of-result c = rw (made c) (IsPackedName-made c.args.year c.args.ordinal c.requires.year c.requires.ordinal)

pub returns : goal.returns
returns c = rw (made c, packed_name-year c.args.year c.args.ordinal c.requires.ordinal, packed_name-ordinal c.args.year c.args.ordinal c.requires.ordinal)
