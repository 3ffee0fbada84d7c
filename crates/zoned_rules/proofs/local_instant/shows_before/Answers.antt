use Rattle.std.proofs.Common.{◌≡◌, IsTrue, IsFalse, ℤ, pos, neg_ℤ, ◌+ℤ◌, ◌≤ℤ◌, ◌<ℤ◌, of_z, to_z, w64, arith, ap, ◌∙◌}
use Rattle.std.specs.Int.RustNames.{int_lt}
use Rattle.std.proofs.lemmas.Int.{ints, to_z-of_z}
use Rattle.chrono_instant.specs.Offsets.{IsOffset}
use Rattle.chrono_zoned.proofs.SecondSums.{carried, near, offset_carried}
use Rattle.zoned_rules.proofs.local_instant.shows_before.Goals as goal

sum_is : (second here o a : ℤ) → here ≡ second → o ≡ a → IsOffset a → neg_ℤ (pos 9_000_000_000_000) ≤ℤ second → second ≤ℤ pos 9_000_000_000_000 → to_z w64 (of_z w64 (here +ℤ o)) ≡ (second +ℤ a)
sum_is second here o a is is_o close low high =
    let bounds = near a close in
    carried (here +ℤ o) (second +ℤ a) (omega (arith, ints, is, is_o)) (omega (arith, ints, low, bounds.0), omega (arith, ints, high, bounds.1))

earlier : (S s L l : ℤ) → S ≡ s → L ≡ l → IsTrue (int_lt S L) → s <ℤ l
earlier S s L l is is_l lt = omega (arith, ints, is, is_l, lt)

not_earlier : (S s L l : ℤ) → S ≡ s → L ≡ l → IsFalse (int_lt S L) → l ≤ℤ s
not_earlier S s L l is is_l not = omega (arith, ints, is, is_l, not)

pub returns-clause-before : goal.returns-clause-before
returns-clause-before g c = λ h.
    let ahead = g.Z.TimeZone.ahead c.args.zone in
    let second : ℤ = c.args.second in
    let here : to_z w64 (of_z w64 second) ≡ second = to_z-of_z w64 second c.ranges.second in
    let stretch = c.stretch_from-stretch in
    let close = stretch.ensures.near second in
    let o : ℤ = to_z w64 (of_z w64 c.from.result) in
    let is_o : o ≡ ahead second = offset_carried c.from.result c.local_minus_utc.result stretch.result.offset (ahead second) c.from.ensures c.local_minus_utc.ensures.value (stretch.ensures.offset ∙ ap ahead here) close in
    let sum = sum_is second (to_z w64 (of_z w64 second)) o (ahead second) here is_o close c.requires.low c.requires.high in
    earlier _ (second +ℤ ahead second) _ c.args.local sum (to_z-of_z w64 c.args.local c.ranges.local) h

pub returns-clause-not_before : goal.returns-clause-not_before
returns-clause-not_before g c = λ h.
    let ahead = g.Z.TimeZone.ahead c.args.zone in
    let second : ℤ = c.args.second in
    let here : to_z w64 (of_z w64 second) ≡ second = to_z-of_z w64 second c.ranges.second in
    let stretch = c.stretch_from-stretch in
    let close = stretch.ensures.near second in
    let o : ℤ = to_z w64 (of_z w64 c.from.result) in
    let is_o : o ≡ ahead second = offset_carried c.from.result c.local_minus_utc.result stretch.result.offset (ahead second) c.from.ensures c.local_minus_utc.ensures.value (stretch.ensures.offset ∙ ap ahead here) close in
    let sum = sum_is second (to_z w64 (of_z w64 second)) o (ahead second) here is_o close c.requires.low c.requires.high in
    not_earlier _ (second +ℤ ahead second) _ c.args.local sum (to_z-of_z w64 c.args.local c.ranges.local) h
