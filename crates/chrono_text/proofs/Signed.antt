-- Signed numbers for `omega`, which reads a number z as `up z` less `down z`: with rounding down, and with casts.
use Rattle.std.proofs.Common.{◌≡◌, ℕ, ◌+◌, ◌-◌, ◌*◌, ◌<◌, ◌≤◌, refl, arith, ℤ, pos, negsuc, of_z}
use Rattle.std.specs.Int.{Width, int_div_euclid, int_rem_euclid}
use Rattle.std.proofs.Math.Nat.{div-add-mod, mod-lt}
use borrow.Author.Differences.{up, down, ints}

-- rounding down: the quotient times the divisor is at most the number, and less than the divisor below it
pub div_euclid_parts : (z : ℤ) (d : ℕ) → 0 < d → (d * up (int_div_euclid z (pos d)) + down z ≤ up z + d * down (int_div_euclid z (pos d))) × (up z + d * down (int_div_euclid z (pos d)) < d * up (int_div_euclid z (pos d)) + down z + d)
div_euclid_parts (pos n) d h = (omega (arith, div-add-mod n d), omega (arith, div-add-mod n d, mod-lt n h))
div_euclid_parts (negsuc n) d h = (omega (arith, div-add-mod n d, mod-lt n h), omega (arith, div-add-mod n d))

-- the remainder of rounding down is what is left, below the divisor and not negative
pub rem_euclid_parts : (z : ℤ) (d : ℕ) → 0 < d → (down (int_rem_euclid z (pos d)) ≡ 0) × (up (int_rem_euclid z (pos d)) < d) × (up (int_rem_euclid z (pos d)) + d * up (int_div_euclid z (pos d)) + down z ≡ up z + d * down (int_div_euclid z (pos d)))
rem_euclid_parts (pos n) d h = (refl, mod-lt n h, omega (arith, div-add-mod n d))
rem_euclid_parts (negsuc n) d h = (refl, omega (arith, mod-lt n h), omega (arith, div-add-mod n d, mod-lt n h))

-- the bits of a number that is not negative are the number
pub bits_of_natural : (w : Width) (z : ℤ) → down z ≤ up z → of_z w z ≡ up z - down z
bits_of_natural w (pos n) natural = omega arith
bits_of_natural w (negsuc n) natural = absurd (omega (arith, natural))

-- std's set with these
pub ruleset signed = (ints, div_euclid_parts, rem_euclid_parts)

-- and with numbers that were cast
pub ruleset casts = (signed, bits_of_natural)
