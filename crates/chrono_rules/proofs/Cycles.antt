-- Days 400 years apart stand alike in their years.
use Rattle.std.proofs.Common.{◌≡◌, sym, arith, ℤ, pos, ◌+ℤ◌, ◌-ℤ◌}
use Rattle.chrono_datetime.specs.Days.{ordinal_of, year_of}
use Rattle.chrono_datetime.specs.Years.{year_length}
use Rattle.chrono_datetime.proofs.Signed.{signed}
use Rattle.chrono_datetime.proofs.Cycles.{ordinal_name-again, year_length-again}

pub record StandAlike (n m : ℤ) : Type 0 where
  pub ordinal : ordinal_of m ≡ ordinal_of n
  pub length : year_length (year_of m) ≡ year_length (year_of n)

pub alike-later : (n m : ℤ) → m ≡ n +ℤ pos 146_097 → StandAlike n m
alike-later n m e =
    let again = ordinal_name-again n m e in
    record { ordinal = again.1; length = year_length-again (year_of n) (year_of m) again.0 }

pub alike-earlier : (n m : ℤ) → m ≡ n -ℤ pos 146_097 → StandAlike n m
alike-earlier n m e =
    let again = ordinal_name-again m n (omega (arith, signed, e)) in
    record { ordinal = sym again.1; length = sym (year_length-again (year_of m) (year_of n) again.0) }
