use Rattle.std.proofs.Common.{◌≡◌, ◌+◌, ◌-◌, ◌<◌, ◌≤◌, ◌^◌, ℕ, Bool, cond, List, [], ◌∷◌, length, map, replicate, refl, ap, ◌∙◌, arith, w8}
use Prim.Native.Nat.{◌%◌}
use mir.Val.{hbits, Fits}
use lib.Dec.{ltb}
use lib.Lanes.{Each1, chunk, mask_l, top, zip2}
use Rattle.std.proofs.lemmas.Bool.Decides.{nat_tests}
use Rattle.std.proofs.lemmas.List.{length-map}
use Rattle.std.proofs.lemmas.Simd.{length-chunk, zip2_splat, map-map, bitmask_splat, chunk-fits}
use Rattle.chrono_text.specs.Marks.{is_other}
use Rattle.chrono_text.proofs.read.lanes.marks_at.Goals as goal

-- a byte's distance from another below it, counted on from 0 after 255
abbrev distance : ℕ → ℕ → ℕ
distance x from = (x + (2 ^ 8 - from)) % 2 ^ 8

abbrev is_far : ℕ → Bool
is_far x = ltb (distance x 58) 246

-- what a lane holds where the one byte is below the other
abbrev below : ℕ → ℕ → ℕ
below a b = cond (ltb a b) (2 ^ 8 - 1) 0

same : (x : ℕ) → x < 256 → is_far x ≡ is_other x
same x byte = grind (arith, nat_tests)

all_same : (xs : List ℕ) → Each1 (Fits w8) xs → map is_far xs ≡ map is_other xs
all_same [] each = refl
all_same (x ∷ xs) each = let e = same x each.0.fits in let es = all_same xs each.1 in cc

-- the mask of the lanes that hold no digit
masked : (bytes : List ℕ) (at : ℕ) → at + 16 ≤ length bytes
    → mask_l (map (top (hbits w8)) (zip2 below (zip2 distance (chunk at 16 bytes) (replicate 16 58)) (replicate 16 246))) % 2 ^ 64
    ≡ mask_l (map is_far (chunk at 16 bytes))
masked bytes at room =
    let lanes = chunk at 16 bytes in
    let long : length lanes ≡ 16 = length-chunk at 16 bytes room in
    let moved = zip2_splat distance lanes 16 58 long in
    let still = ap length moved ∙ length-map lanes (λ x. distance x 58) ∙ long in
    bitmask_splat w8 ltb (zip2 distance lanes (replicate 16 58)) 16 246 still (omega arith)
    ∙ ap (λ l. mask_l (map (λ x. ltb x 246) l)) moved ∙ ap mask_l (map-map (λ x. ltb x 246) (λ x. distance x 58) lanes)

pub returns : goal.returns
returns c =
    let bytes = c.args.bytes.now in
    masked bytes c.args.at c.requires ∙ ap mask_l (all_same (chunk c.args.at 16 bytes) (chunk-fits w8 c.args.at 16 bytes c.type_inv.bytes))
