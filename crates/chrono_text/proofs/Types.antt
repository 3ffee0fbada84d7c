-- Numbers that fit an `i64`.
use Rattle.std.proofs.Common.{◌≡◌, ◌^◌, ◌-◌, ◌&&◌, ◌≤ℤ◌, ℤ, pos, negsuc, int_le, FitsSigned, Bool, true, false, cond, Some, None, refl, arith, rules}
use Rattle.std.specs.Int.{w64}
use Rattle.std.proofs.lemmas.Int.{ints}
use Rattle.chrono_text.specs.Numbers.{within, to_i64}

within_some : (low high z a : ℤ) → within low high z ≡ Some a → (z ≡ a) × (low ≤ℤ a) × (a ≤ℤ high)
within_some low high z a h = tests (int_le low z) (int_le z high) refl refl h
  where
    tests : (b d : Bool) → int_le low z ≡ b → int_le z high ≡ d → cond (b && d) (Some z) None ≡ Some a → (z ≡ a) × (low ≤ℤ a) × (a ≤ℤ high)
    tests true true from to e = let same : z ≡ a = cc in (same, grind (arith, ints), grind (arith, ints))
    tests true false from to e = let wrong : ⊥ = cc in absurd wrong
    tests false d from to e = let wrong : ⊥ = cc in absurd wrong

some_within : (low high z : ℤ) → low ≤ℤ z → z ≤ℤ high → within low high z ≡ Some z
some_within low high z from to =
    let a : int_le low z ≡ true = grind (arith, ints) in
    let b : int_le z high ≡ true = grind (arith, ints) in
    rw (a, b) refl

pub i64_read : (z a : ℤ) → to_i64 z ≡ Some a → (z ≡ a) × FitsSigned w64 a
unfolding to_i64
i64_read z a h = let (same, from, to) = within_some (negsuc (2 ^ 63 - 1)) (pos (2 ^ 63 - 1)) z a h in (same, search (rules, ints))

pub i64_written : (z : ℤ) → FitsSigned w64 z → to_i64 z ≡ Some z
unfolding to_i64
i64_written z h = some_within (negsuc (2 ^ 63 - 1)) (pos (2 ^ 63 - 1)) z (grind (arith, ints)) (grind (arith, ints))
