use Rattle.std.proofs.Common.{◌≡◌, inl, inr, ℤ, ◌+ℤ◌, ◌<ℤ◌, of_z, to_z, w64, arith, refl, subst, sym}
use Rattle.std.proofs.lemmas.Int.{ints, to_z-of_z}
use Rattle.chrono_instant.specs.Instants.{IsEpochSecond}
use Rattle.chrono_instant.specs.Offsets.{IsOffset}
use Rattle.chrono_zoned.proofs.SecondSums.{carried, near}
use Rattle.zoned_cron.specs.Private.{EndsGap, IsNearADate}
use Rattle.zoned_cron.proofs.Instants.{short_of_one}
use Rattle.zoned_cron.proofs.Laws.{fires_once}
use Rattle.zoned_cron.proofs.search.instants.end_of_short_gap.Goals as goal

near_date : (e a : ℤ) → IsEpochSecond (e +ℤ a) → IsOffset a → IsNearADate e
near_date e a date offset = let small = near a offset in (omega (arith, ints, date.0, small.0, small.1), omega (arith, ints, date.1, small.0, small.1))

two_ends : (ahead : ℤ → ℤ) (l x y : ℤ) → EndsGap ahead l x → EndsGap ahead l y → x <ℤ y → ⊥
two_ends ahead l x y h k less = let same = fires_once ahead l x y (inr h.1) (inr k.1) in absurd (omega (arith, ints, same, less))

ends_there : (ahead : ℤ → ℤ) (k e : ℤ) → EndsGap ahead k e → IsNearADate e
ends_there ahead k e h = near_date e (ahead e) h.0.0 h.0.1

carries : (e : ℤ) → IsNearADate e → to_z w64 (of_z w64 e) ≡ e
carries e h = carried e e refl (omega (arith, ints, h.0), omega (arith, ints, h.1))

pub if_short-requires : goal.if_short-requires
if_short-requires g c =
    let ahead = g.Z.TimeZone.ahead c.args.zone in
    let e : ℤ = c.in-Single.end in
    let there = ends_there ahead _ e ((c.in-Single.ensures e).1 refl) in
    subst (λ (x : ℤ). IsNearADate x) (sym (carries e there)) there

pub returns-in-Single : goal.returns-in-Single
returns-in-Single g c =
    let ahead = g.Z.TimeZone.ahead c.args.zone in
    let e : ℤ = c.in-Single.end in
    short_of_one ahead (to_z w64 (of_z w64 c.args.gap)) c.args.gap e (to_z w64 (of_z w64 e)) c.if_short.result (to_z-of_z w64 c.args.gap c.ranges.gap)
    (carries e (ends_there ahead _ e ((c.in-Single.ensures e).1 refl))) c.in-Single.ensures c.if_short.ensures

pub returns-in-Ambiguous : goal.returns-in-Ambiguous
returns-in-Ambiguous g c = λ u h.
    let found = c.in-Ambiguous.ensures in
    two_ends (g.Z.TimeZone.ahead c.args.zone) _ c.in-Ambiguous.field-0 c.in-Ambiguous.field-1 ((found.1 c.in-Ambiguous.field-0).1 (inl refl)) ((found.1 c.in-Ambiguous.field-1).1 (inr refl)) found.0
