-- The stored numbers of the first and of the last date, which a use of `PackedForm::MIN` or `PackedForm::MAX` cites.
use Rattle.std.proofs.Common.{◌≡◌, refl, arith, pos, negsuc}
use Rattle.chrono_calendar.specs.Days.{day_number_of_yo}
use Rattle.chrono_calendar.specs.Flags.{flags_of_year}
use Rattle.chrono_stored.specs.PackedName.{packed_name, packed_year, packed_ordinal, IsPackedName}
use Rattle.chrono_calendar.proofs.Signed.{signed}
use Rattle.chrono_calendar.proofs.Years.{days_before_year-closed}
use Rattle.chrono_stored.proofs.PackedNames.{IsPackedName-made}

-- the first year is a common year after a Wednesday, and the last one after a Sunday
flags_of_first : flags_of_year (negsuc 262_142) ≡ 10
unfolding flags_of_year
flags_of_first = rw (days_before_year-closed (negsuc 262_142)) refl

flags_of_last : flags_of_year (pos 262_142) ≡ 14
unfolding flags_of_year
flags_of_last = rw (days_before_year-closed (pos 262_142)) refl

stored_first : packed_name (negsuc 262_142) 1 ≡ negsuc 2_147_475_429
stored_first = rw flags_of_first refl

stored_last : packed_name (pos 262_142) 365 ≡ pos 2_147_473_118
stored_last = rw flags_of_last refl

-- each is stored as a date is
pub IsPackedName-first : IsPackedName (negsuc 2_147_475_429)
IsPackedName-first = rw stored_first at (IsPackedName-made (negsuc 262_142) 1 (omega (arith, signed), omega (arith, signed)) (omega arith, omega arith))

pub IsPackedName-last : IsPackedName (pos 2_147_473_118)
IsPackedName-last = rw stored_last at (IsPackedName-made (pos 262_142) 365 (omega (arith, signed), omega (arith, signed)) (omega arith, omega arith))

-- their day numbers
pub number_of_first : day_number_of_yo (packed_year (negsuc 2_147_475_429)) (packed_ordinal (negsuc 2_147_475_429)) ≡ negsuc 95_746_128
number_of_first = omega (arith, signed, days_before_year-closed (negsuc 262_142))

pub number_of_last : day_number_of_yo (packed_year (pos 2_147_473_118)) (packed_ordinal (pos 2_147_473_118)) ≡ pos 95_745_399
number_of_last = omega (arith, signed, days_before_year-closed (pos 262_142))

-- for a function that names an end
pub ruleset ends = (IsPackedName-first, IsPackedName-last, number_of_first, number_of_last)
