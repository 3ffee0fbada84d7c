-- Seconds that come back as they, and what they are compared with.
use Rattle.std.proofs.Common.{◌≡◌, true, false, IsTrue, IsFalse, int_le, ℤ, pos, neg_ℤ, ◌+ℤ◌, ◌-ℤ◌, ◌≤ℤ◌, ◌<ℤ◌, ◌<◌, unsigned_abs, of_z, to_z, w64, arith, refl}
use Rattle.std.specs.Int.RustNames.{int_lt}
use Rattle.std.proofs.lemmas.Int.{ints}
use Rattle.chrono_datetime.proofs.Signed.{casts}
use Rattle.chrono_instant.specs.Instants.{IsEpochSecond}
use Rattle.chrono_zoned.proofs.SecondSums.{carried}

-- ---- a second, and what a search behind the one before it found

pub second_before : (second here : ℤ) → IsEpochSecond second → here ≡ second → to_z w64 (of_z w64 (here -ℤ pos 1)) <ℤ second
second_before second here date is = omega (arith, casts, date.0, date.1, is)

pub same_second : (second here found F : ℤ) → IsEpochSecond second → here ≡ second → F ≡ found → to_z w64 (of_z w64 (here -ℤ pos 1)) <ℤ found → IsTrue (int_le F here) → found ≡ second
same_second second here found F date is is_found later no_later = omega (arith, casts, date.0, date.1, is, is_found, later, no_later)

pub no_later_second : (second here found F : ℤ) → here ≡ second → F ≡ found → found ≤ℤ second → IsFalse (int_le F here) → ⊥
no_later_second second here found F is is_found le later = omega (arith, ints, is, is_found, le, later)

-- ---- the second of the start

pub start_again : (begun : ℤ) → neg_ℤ (pos 8_334_601_315_200) ≤ℤ begun → begun ≤ℤ pos 8_210_266_963_199 → to_z w64 (of_z w64 begun) ≡ begun
start_again begun low high = carried begun begun refl (omega (arith, ints, low), omega (arith, ints, high))

-- the later of a second and the one before the start
pub behind_first : (start here r R x : ℤ) → here ≡ start → here ≤ℤ r → R ≡ r → R <ℤ x → start <ℤ x
behind_first start here r R x is le is_r later = omega (arith, ints, is, le, is_r, later)

pub from_start : (begun r R x : ℤ) → neg_ℤ (pos 8_334_601_315_200) ≤ℤ begun → begun ≤ℤ pos 8_210_266_963_199 → to_z w64 (of_z w64 (to_z w64 (of_z w64 begun) -ℤ pos 1)) ≤ℤ r → R ≡ r → R <ℤ x → begun ≤ℤ x
from_start begun r R x low high le is_r later = omega (arith, casts, low, high, le, is_r, later)

pub first_behind : (start here r R u : ℤ) → here ≡ start → r ≡ here → R ≡ r → start <ℤ u → R <ℤ u
first_behind start here r R u is is_one is_r later = omega (arith, ints, is, is_one, is_r, later)

pub start_behind : (begun r R u : ℤ) → neg_ℤ (pos 8_334_601_315_200) ≤ℤ begun → begun ≤ℤ pos 8_210_266_963_199 → r ≡ to_z w64 (of_z w64 (to_z w64 (of_z w64 begun) -ℤ pos 1)) → R ≡ r → begun ≤ℤ u → R <ℤ u
start_behind begun r R u low high is_other is_r from = omega (arith, casts, low, high, is_other, is_r, from)

-- a second before the start, and one from it on
pub before_start : (last begun L B u : ℤ) → L ≡ last → B ≡ begun → int_lt L B ≡ true → u ≤ℤ last → begun ≤ℤ u → ⊥
before_start last begun L B u is_last is_begun lt high from = omega (arith, ints, is_last, is_begun, lt, high, from)

pub not_before_start : (last begun L B : ℤ) → L ≡ last → B ≡ begun → int_lt L B ≡ false → begun ≤ℤ last
not_before_start last begun L B is_last is_begun not = omega (arith, ints, is_last, is_begun, not)

-- ---- the earlier of an end and the second behind the last one

pub ends_before : (end E found F : ℤ) → E ≡ end → F ≡ found → found <ℤ E → F <ℤ end
ends_before end E found F is is_found earlier = omega (arith, ints, is, is_found, earlier)

pub end_before : (end E r R found F : ℤ) → E ≡ end → r ≤ℤ E → R ≡ r → F ≡ found → found <ℤ R → F <ℤ end
end_before end E r R found F is le is_r is_found earlier = omega (arith, ints, is, le, is_r, is_found, earlier)

pub up_to_last : (last r R found : ℤ) → neg_ℤ (pos 8_334_601_228_801) ≤ℤ last → last ≤ℤ pos 8_210_266_876_799 → r ≤ℤ to_z w64 (of_z w64 (to_z w64 (of_z w64 last) +ℤ pos 1)) → R ≡ r → found <ℤ R → found ≤ℤ last
up_to_last last r R found low high le is_r earlier = omega (arith, casts, low, high, le, is_r, earlier)

pub end_behind : (end E r R u : ℤ) → E ≡ end → r ≡ E → R ≡ r → u <ℤ end → u <ℤ R
end_behind end E r R u is is_one is_r earlier = omega (arith, ints, is, is_one, is_r, earlier)

pub last_behind : (last r R u : ℤ) → neg_ℤ (pos 8_334_601_228_801) ≤ℤ last → last ≤ℤ pos 8_210_266_876_799 → r ≡ to_z w64 (of_z w64 (to_z w64 (of_z w64 last) +ℤ pos 1)) → R ≡ r → u ≤ℤ last → u <ℤ R
last_behind last r R u low high is_other is_r le = omega (arith, casts, low, high, is_other, is_r, le)

-- ---- a second of a search, and the next one

pub next_low : (s n N a : ℤ) → a ≤ℤ s → s <ℤ n → N ≡ n → a ≤ℤ N
next_low s n N a le later is = omega (arith, ints, le, later, is)

pub previous_high : (s n N a : ℤ) → s ≤ℤ a → n <ℤ s → N ≡ n → N ≤ℤ a
previous_high s n N a le earlier is = omega (arith, ints, le, earlier, is)

pub dates_low : (n N : ℤ) → IsEpochSecond n → N ≡ n → neg_ℤ (pos 8_334_601_228_801) ≤ℤ N
dates_low n N date is = omega (arith, ints, date.0, is)

pub far_low : (n N : ℤ) → IsEpochSecond n → N ≡ n → neg_ℤ (pos 8_334_601_300_000) ≤ℤ N
far_low n N date is = omega (arith, ints, date.0, is)

pub far_high : (n N : ℤ) → IsEpochSecond n → N ≡ n → N ≤ℤ pos 8_210_266_876_800
far_high n N date is = omega (arith, ints, date.1, is)

pub at_least : (n N u : ℤ) → N ≡ n → n ≤ℤ u → u ≤ℤ n → N ≡ u
at_least n N u is le ge = omega (arith, ints, is, le, ge)

pub found_behind : (start S s n N : ℤ) → S ≡ start → S ≤ℤ s → s <ℤ n → N ≡ n → start <ℤ N
found_behind start S s n N is le later is_n = omega (arith, ints, is, le, later, is_n)

pub found_before : (end E s n N : ℤ) → E ≡ end → s ≤ℤ E → n <ℤ s → N ≡ n → N <ℤ end
found_before end E s n N is le earlier is_n = omega (arith, ints, is, le, earlier, is_n)

-- ---- a second that was found, and the last one

pub last_again : (last : ℤ) → neg_ℤ (pos 8_334_601_228_801) ≤ℤ last → last ≤ℤ pos 8_210_266_876_799 → to_z w64 (of_z w64 last) ≡ last
last_again last low high = carried last last refl (omega (arith, ints, low), omega (arith, ints, high))

pub later_again : (start here found F : ℤ) → here ≡ start → F ≡ found → here <ℤ found → start <ℤ F
later_again start here found F is is_found later = omega (arith, ints, is, is_found, later)

pub no_later_than : (last L found F : ℤ) → L ≡ last → F ≡ found → int_lt L F ≡ false → found ≤ℤ last
no_later_than last L found F is is_found not = omega (arith, ints, is, is_found, not)

-- ---- what a clock shows at a second, and a local time that it would show at another

shown_again : (shown : ℤ) → neg_ℤ (pos 8_334_601_488_000) ≤ℤ shown → shown ≤ℤ pos 8_210_267_049_599 → to_z w64 (of_z w64 shown) ≡ shown
shown_again shown low high = carried shown shown refl (omega (arith, ints, low), omega (arith, ints, high))

pub shown_behind : (after here shown offset u l : ℤ) → here ≡ after → shown ≡ (here +ℤ offset) → neg_ℤ (pos 8_334_601_488_000) ≤ℤ shown → shown ≤ℤ pos 8_210_267_049_599 → (u +ℤ offset) ≡ l → after <ℤ u → to_z w64 (of_z w64 (to_z w64 (of_z w64 shown) +ℤ pos 1)) ≤ℤ l
shown_behind after here shown offset u l is is_shown low high by later =
    let back = shown_again shown low high in
    let next : to_z w64 (of_z w64 (to_z w64 (of_z w64 shown) +ℤ pos 1)) ≡ (shown +ℤ pos 1) = carried (to_z w64 (of_z w64 shown) +ℤ pos 1) (shown +ℤ pos 1) (omega (arith, ints, back)) (omega (arith, ints, low), omega (arith, ints, high)) in
    omega (arith, ints, is, is_shown, by, later, next)

pub shown_before : (end here shown offset u l : ℤ) → here ≡ end → shown ≡ (here +ℤ offset) → neg_ℤ (pos 8_334_601_488_000) ≤ℤ shown → shown ≤ℤ pos 8_210_267_049_599 → (u +ℤ offset) ≡ l → u <ℤ end → l <ℤ to_z w64 (of_z w64 shown)
shown_before end here shown offset u l is is_shown low high by earlier =
    let back = shown_again shown low high in
    omega (arith, ints, is, is_shown, by, earlier, back)

pub never_both : (a b : ℤ) → a <ℤ b → b ≤ℤ a → ⊥
never_both a b lt ge = omega (arith, ints, lt, ge)

-- ---- the second that a local time stands for

pub stands_low : (l u U : ℤ) → U ≡ u → IsEpochSecond l → (l -ℤ pos 86_400) <ℤ u → neg_ℤ (pos 8_334_601_315_200) ≤ℤ U
stands_low l u U is date low = omega (arith, ints, is, date.0, low)

pub stands_high : (l u U : ℤ) → U ≡ u → IsEpochSecond l → u <ℤ (l +ℤ pos 86_400) → U ≤ℤ pos 8_210_266_963_199
stands_high l u U is date high = omega (arith, ints, is, date.1, high)

pub lies_behind : (after here x X : ℤ) → here ≡ after → X ≡ x → int_lt here X ≡ true → after <ℤ X
lies_behind after here x X is is_x lt = omega (arith, ints, is, is_x, lt)

pub lies_before : (end here x X : ℤ) → here ≡ end → X ≡ x → int_lt X here ≡ true → X <ℤ end
lies_before end here x X is is_x lt = omega (arith, ints, is, is_x, lt)

-- ---- a day before a second, and a day behind one

pub day_before : (after here : ℤ) → here ≡ after → neg_ℤ (pos 8_334_601_400_000) ≤ℤ after → after ≤ℤ pos 8_210_266_963_199 → to_z w64 (of_z w64 (here -ℤ pos 86_400)) ≡ (after -ℤ pos 86_400)
day_before after here is low high = carried (here -ℤ pos 86_400) (after -ℤ pos 86_400) (omega (arith, ints, is)) (omega (arith, ints, low), omega (arith, ints, high))

pub day_behind : (end here : ℤ) → here ≡ end → neg_ℤ (pos 8_334_601_228_800) ≤ℤ end → end ≤ℤ pos 8_210_266_876_800 → to_z w64 (of_z w64 (here +ℤ pos 86_400)) ≡ (end +ℤ pos 86_400)
day_behind end here is low high = carried (here +ℤ pos 86_400) (end +ℤ pos 86_400) (omega (arith, ints, is)) (omega (arith, ints, low), omega (arith, ints, high))

-- ---- the local times that are left to a search

pub fewer_ahead : (l next : ℤ) → l <ℤ next → IsEpochSecond next → unsigned_abs (pos 8_210_266_876_799 -ℤ next) < unsigned_abs (pos 8_210_266_876_799 -ℤ l)
fewer_ahead l next later date = omega (arith, casts, later, date.1)

pub fewer_back : (l previous : ℤ) → previous <ℤ l → IsEpochSecond previous → unsigned_abs (previous +ℤ pos 8_334_601_228_801) < unsigned_abs (l +ℤ pos 8_334_601_228_801)
fewer_back l previous earlier date = omega (arith, casts, earlier, date.0)

-- ---- a second that is listed

pub at_most : (x X : ℤ) → X ≡ x → x ≤ℤ X
at_most x X is = omega (arith, ints, is)

pub at_least_it : (x X : ℤ) → X ≡ x → X ≤ℤ x
at_least_it x X is = omega (arith, ints, is)

pub lies_not_behind : (after here x X : ℤ) → here ≡ after → X ≡ x → int_lt here X ≡ false → after <ℤ x → ⊥
lies_not_behind after here x X is is_x not later = omega (arith, ints, is, is_x, not, later)

pub lies_not_before : (end here x X : ℤ) → here ≡ end → X ≡ x → int_lt X here ≡ false → x <ℤ end → ⊥
lies_not_before end here x X is is_x not earlier = omega (arith, ints, is, is_x, not, earlier)
