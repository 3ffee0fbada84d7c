-- Which of the first bytes of a line are no digits.
use Rattle.std.specs.Prelude.{ℕ, Bool, not, List, map, take}
use Rattle.std.specs.Int.{is_in_range}
use Rattle.std.specs.Simd.Lanes.{mask_l}
use Rattle.std.specs.Str.{byte}

abbrev pub is_other : ℕ → Bool
is_other b = not (is_in_range (byte "0") (byte "9") b)

-- a bit for each of so many first bytes, the lowest for the first: 1 where the byte is no digit
abbrev pub marks_of : ℕ → List ℕ → ℕ
marks_of n bytes = mask_l (map is_other (take n bytes))
