-- Sums of seconds that fit their type.
use Rattle.std.proofs.Common.{◌≡◌, ◌<◌, ℤ, pos, negsuc, ◌+ℤ◌, ◌-ℤ◌, ◌*ℤ◌, ◌≤ℤ◌, unsigned_abs, to_z, of_z, w64, SFits, sym, ap, subst, ◌∙◌, arith}
use Rattle.std.proofs.lemmas.Int.{ints, to_z-of_z}

pub fits : (y : ℤ) → unsigned_abs y < 4_611_686_018_427_387_904 → SFits w64 y
fits (pos n) h = record { sfits = omega (arith, h) }
fits (negsuc n) h = record { sfits = omega (arith, h) }

-- a number from 0 up to one that fits does so too
pub fits_up_to : (y m : ℤ) → pos 0 ≤ℤ y → y ≤ℤ m → SFits w64 m → SFits w64 y
fits_up_to (pos n) (pos k) least most h = let bound = h.sfits in record { sfits = omega (arith, ints, most, bound) }
fits_up_to (pos n) (negsuc k) least most h = absurd (omega (arith, ints, most))
fits_up_to (negsuc n) m least most h = absurd (omega (arith, ints, least))

-- a number that is one of these comes back as it
pub carried : (x y : ℤ) → x ≡ y → unsigned_abs y < 4_611_686_018_427_387_904 → to_z w64 (of_z w64 x) ≡ y
carried x y e h = to_z-of_z w64 x (subst (λ (z : ℤ). SFits w64 z) (sym e) (fits y h)) ∙ e

day_bound : (n : ℤ) → unsigned_abs n < 96_000_000 → unsigned_abs (n -ℤ pos 719_163) < 4_611_686_018_427_387_904
day_bound n h = omega (arith, ints, h)

product_bound : (n : ℤ) → unsigned_abs n < 96_000_000 → unsigned_abs ((n -ℤ pos 719_163) *ℤ pos 86_400) < 4_611_686_018_427_387_904
product_bound n h = omega (arith, ints, h)

sum_bound : (n s : ℤ) → unsigned_abs n < 96_000_000 → unsigned_abs s < 604_800 → unsigned_abs ((n -ℤ pos 719_163) *ℤ pos 86_400 +ℤ s) < 4_611_686_018_427_387_904
sum_bound n s h i = omega (arith, ints, h, i)

whole_bound : (n s o : ℤ) → unsigned_abs n < 96_000_000 → unsigned_abs s < 604_800 → unsigned_abs o < 86_400 → unsigned_abs ((n -ℤ pos 719_163) *ℤ pos 86_400 +ℤ s -ℤ o) < 4_611_686_018_427_387_904
whole_bound n s o h i j = omega (arith, ints, h, i, j)

pub seconds_bound : (n s o : ℤ) → unsigned_abs n < 96_000_000 → unsigned_abs s < 604_800 → unsigned_abs o < 86_400 → unsigned_abs ((n -ℤ pos 719_163) *ℤ pos 86_400 +ℤ s -ℤ o) < 8_400_000_000_000
seconds_bound n s o h i j = omega (arith, ints, h, i, j)

-- the sum of a day's seconds and of two numbers, without the last step
before_last : (day second offset n s o : ℤ) → to_z w64 (of_z w64 day) ≡ n → to_z w64 (of_z w64 second) ≡ s → to_z w64 (of_z w64 offset) ≡ o → unsigned_abs n < 96_000_000 → unsigned_abs s < 604_800 → (to_z w64 (of_z w64 (to_z w64 (of_z w64 (to_z w64 (of_z w64 (to_z w64 (of_z w64 day) -ℤ pos 719_163)) *ℤ pos 86_400)) +ℤ to_z w64 (of_z w64 second))) -ℤ to_z w64 (of_z w64 offset)) ≡ ((n -ℤ pos 719_163) *ℤ pos 86_400 +ℤ s -ℤ o)
before_last day second offset n s o is_day is_second is_offset h i =
    let days : to_z w64 (of_z w64 (to_z w64 (of_z w64 day) -ℤ pos 719_163)) ≡ (n -ℤ pos 719_163)
    = carried (to_z w64 (of_z w64 day) -ℤ pos 719_163) (n -ℤ pos 719_163) (ap (λ (z : ℤ). z -ℤ pos 719_163) is_day) (day_bound n h) in
    let seconds : to_z w64 (of_z w64 (to_z w64 (of_z w64 (to_z w64 (of_z w64 day) -ℤ pos 719_163)) *ℤ pos 86_400)) ≡ ((n -ℤ pos 719_163) *ℤ pos 86_400)
    = carried (to_z w64 (of_z w64 (to_z w64 (of_z w64 day) -ℤ pos 719_163)) *ℤ pos 86_400) ((n -ℤ pos 719_163) *ℤ pos 86_400) (ap (λ (z : ℤ). z *ℤ pos 86_400) days) (product_bound n h) in
    let shown : to_z w64 (of_z w64 (to_z w64 (of_z w64 (to_z w64 (of_z w64 (to_z w64 (of_z w64 day) -ℤ pos 719_163)) *ℤ pos 86_400)) +ℤ to_z w64 (of_z w64 second))) ≡ ((n -ℤ pos 719_163) *ℤ pos 86_400 +ℤ s)
    = carried (to_z w64 (of_z w64 (to_z w64 (of_z w64 (to_z w64 (of_z w64 day) -ℤ pos 719_163)) *ℤ pos 86_400)) +ℤ to_z w64 (of_z w64 second)) ((n -ℤ pos 719_163) *ℤ pos 86_400 +ℤ s) (ap (λ (z : ℤ). z +ℤ to_z w64 (of_z w64 second)) seconds ∙ ap (λ (z : ℤ). (n -ℤ pos 719_163) *ℤ pos 86_400 +ℤ z) is_second) (sum_bound n s h i) in
    ap (λ (z : ℤ). z -ℤ to_z w64 (of_z w64 offset)) shown ∙ ap (λ (z : ℤ). (n -ℤ pos 719_163) *ℤ pos 86_400 +ℤ s -ℤ z) is_offset

pub sum_fits : (day second offset n s o : ℤ) → to_z w64 (of_z w64 day) ≡ n → to_z w64 (of_z w64 second) ≡ s → to_z w64 (of_z w64 offset) ≡ o → unsigned_abs n < 96_000_000 → unsigned_abs s < 604_800 → unsigned_abs o < 86_400 → SFits w64 (to_z w64 (of_z w64 (to_z w64 (of_z w64 (to_z w64 (of_z w64 (to_z w64 (of_z w64 day) -ℤ pos 719_163)) *ℤ pos 86_400)) +ℤ to_z w64 (of_z w64 second))) -ℤ to_z w64 (of_z w64 offset))
sum_fits day second offset n s o is_day is_second is_offset h i j =
    subst (λ (z : ℤ). SFits w64 z) (sym (before_last day second offset n s o is_day is_second is_offset h i)) (fits ((n -ℤ pos 719_163) *ℤ pos 86_400 +ℤ s -ℤ o) (whole_bound n s o h i j))

pub sum_is : (day second offset n s o : ℤ) → to_z w64 (of_z w64 day) ≡ n → to_z w64 (of_z w64 second) ≡ s → to_z w64 (of_z w64 offset) ≡ o → unsigned_abs n < 96_000_000 → unsigned_abs s < 604_800 → unsigned_abs o < 86_400 → to_z w64 (of_z w64 (to_z w64 (of_z w64 (to_z w64 (of_z w64 (to_z w64 (of_z w64 (to_z w64 (of_z w64 day) -ℤ pos 719_163)) *ℤ pos 86_400)) +ℤ to_z w64 (of_z w64 second))) -ℤ to_z w64 (of_z w64 offset))) ≡ ((n -ℤ pos 719_163) *ℤ pos 86_400 +ℤ s -ℤ o)
sum_is day second offset n s o is_day is_second is_offset h i j =
    carried (to_z w64 (of_z w64 (to_z w64 (of_z w64 (to_z w64 (of_z w64 (to_z w64 (of_z w64 day) -ℤ pos 719_163)) *ℤ pos 86_400)) +ℤ to_z w64 (of_z w64 second))) -ℤ to_z w64 (of_z w64 offset)) ((n -ℤ pos 719_163) *ℤ pos 86_400 +ℤ s -ℤ o) (before_last day second offset n s o is_day is_second is_offset h i) (whole_bound n s o h i j)
