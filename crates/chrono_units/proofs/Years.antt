-- Which numbers hold a year of the library.
use Rattle.std.proofs.Common.{◌≡◌, ℤ, arith, to_z, of_z, w32}
use Rattle.std.proofs.lemmas.Int.{ints}
use Rattle.chrono_units.specs.Years.{IsYear}

-- a year is the same as an `i32`
pub year_fits : (y : ℤ) → IsYear y → to_z w32 (of_z w32 y) ≡ y
year_fits y year = omega (arith, ints, year)
