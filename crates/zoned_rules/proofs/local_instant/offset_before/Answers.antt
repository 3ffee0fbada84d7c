use Rattle.std.proofs.Common.{◌≡◌, rules, ℤ, pos, SFits, ◌<◌, ◌+ℤ◌, ◌-ℤ◌, ◌≤ℤ◌, ◌<ℤ◌, unsigned_abs, of_z, to_z, w64, arith, refl, subst, sym}
use Rattle.std.specs.Int.{int_min}
use Rattle.std.proofs.lemmas.Int.{int_min_is, ints, to_z-of_z}
use Rattle.chrono_datetime.proofs.Signed.{casts}
use Rattle.chrono_instant.specs.Instants.{IsEpochSecond}
use Rattle.chrono_zoned.proofs.SecondSums.{carried}
use Rattle.zoned_rules.specs.Private.{IsOffsetBefore}
use Rattle.zoned_rules.proofs.Standing.{IsNever, shorter, walk_begins, walk_ends, walk_goes_on}
use Rattle.zoned_rules.proofs.local_instant.offset_before.Goals as goal

-- the search goes on to the end of a stretch, and no farther than a day behind the gap
record IsNext (gap until next : ℤ) : Type 0 where
  within : next ≤ℤ until
  capped : next ≤ℤ (gap +ℤ pos 86_400)
  later : (x : ℤ) → x <ℤ until → x <ℤ (gap +ℤ pos 86_400) → x <ℤ next

next_by : (gap until bound cap r next : ℤ) → bound ≡ until → cap ≡ (gap +ℤ pos 86_400) → r ≡ int_min bound cap → next ≡ r → IsNext gap until next
next_by gap until bound cap r next is_bound is_cap is_r is = let least = int_min_is bound cap in record {
  within = omega (arith, ints, is_bound, is_r, is, least);
  capped = omega (arith, ints, is_cap, is_r, is, least);
  later = λ x before within. omega (arith, ints, is_bound, is_cap, is_r, is, least, before, within);
}

cap_is : (gap : ℤ) → IsEpochSecond gap → to_z w64 (of_z w64 (gap +ℤ pos 86_400)) ≡ (gap +ℤ pos 86_400)
cap_is gap date = carried (gap +ℤ pos 86_400) (gap +ℤ pos 86_400) refl (omega (arith, ints, date.0), omega (arith, ints, date.1))

from_is : (gap : ℤ) → IsEpochSecond gap → to_z w64 (of_z w64 (gap -ℤ pos 86_400)) ≡ (gap -ℤ pos 86_400)
from_is gap date = carried (gap -ℤ pos 86_400) (gap -ℤ pos 86_400) refl (omega (arith, ints, date.0), omega (arith, ints, date.1))

from_within : (gap from : ℤ) → from ≡ (gap -ℤ pos 86_400) → from <ℤ (gap +ℤ pos 86_400)
from_within gap from is = omega (arith, ints, is)

-- a second less than a day behind the gap is no last one
is_early : (gap second : ℤ) → IsEpochSecond gap → second <ℤ (gap +ℤ pos 86_400) → second <ℤ pos 9_223_372_036_854_775_807
is_early gap second date near = omega (arith, ints, date.1, near)

fewer : (gap second next : ℤ) → second <ℤ next → next ≤ℤ (gap +ℤ pos 86_400) → unsigned_abs (gap +ℤ pos 86_400 -ℤ next) < unsigned_abs (gap +ℤ pos 86_400 -ℤ second)
fewer gap second next lt le = omega (arith, casts, lt, le)

pub loop-offset-init : goal.loop-offset-init
loop-offset-init g c =
    let ahead = g.Z.TimeZone.ahead c.args.zone in
    let gap : ℤ = to_z w64 (of_z w64 c.args.gap) in
    let here : gap ≡ c.args.gap = to_z-of_z w64 c.args.gap c.ranges.gap in
    let date : IsEpochSecond gap = subst (λ (x : ℤ). IsEpochSecond x) (sym here) c.requires.date in
    let skipped : IsNever ahead gap = subst (λ (x : ℤ). IsNever ahead x) (sym here) c.requires.skipped in
    let from : ℤ = to_z w64 (of_z w64 (gap -ℤ pos 86_400)) in
    let begun = from_is gap date in
    let stretch = c.stretch_from-first in
    let until : ℤ = stretch.result.until in
    let fits : SFits w64 until = search rules in
    let r = c.min-second.result in
    let goes = next_by gap until _ _ r (to_z w64 (of_z w64 r)) (to_z-of_z w64 until fits) (cap_is gap date) c.min-second.ensures.value (to_z-of_z w64 r (record { sfits = c.min-second.type_inv })) in
    let near = from_within gap from begun in
    walk_begins ahead gap from until (to_z w64 (of_z w64 r)) stretch.result.offset stretch.ensures.near skipped begun stretch.ensures.holds
    (goes.later from (stretch.ensures.later (is_early gap from date near)) near) goes.within goes.capped stretch.ensures.offset

pub loop-offset-smaller : goal.loop-offset-smaller
loop-offset-smaller g c =
    let ahead = g.Z.TimeZone.ahead c.args.zone in
    let gap : ℤ = to_z w64 (of_z w64 c.args.gap) in
    let here : gap ≡ c.args.gap = to_z-of_z w64 c.args.gap c.ranges.gap in
    let date : IsEpochSecond gap = subst (λ (x : ℤ). IsEpochSecond x) (sym here) c.requires.date in
    let second : ℤ = to_z w64 c.loop-offset.second-bits in
    let stretch = c.stretch_from-stretch in
    let until : ℤ = stretch.result.until in
    let fits : SFits w64 until = search rules in
    let r = c.min-second-in-loop-offset.result in
    let goes = next_by gap until _ _ r (to_z w64 (of_z w64 r)) (to_z-of_z w64 until fits) (cap_is gap date) c.min-second-in-loop-offset.ensures.value (to_z-of_z w64 r (record { sfits = c.min-second-in-loop-offset.type_inv })) in
    let far = shorter ahead gap second (stretch.ensures.near second) (c.shows_before.ensures.before c.loop-offset-test.true) in
    fewer gap second (to_z w64 (of_z w64 r)) (goes.later second (stretch.ensures.later (is_early gap second date far)) far) goes.capped

pub loop-offset-preserved : goal.loop-offset-preserved
loop-offset-preserved g c =
    let ahead = g.Z.TimeZone.ahead c.args.zone in
    let gap : ℤ = to_z w64 (of_z w64 c.args.gap) in
    let here : gap ≡ c.args.gap = to_z-of_z w64 c.args.gap c.ranges.gap in
    let date : IsEpochSecond gap = subst (λ (x : ℤ). IsEpochSecond x) (sym here) c.requires.date in
    let skipped : IsNever ahead gap = subst (λ (x : ℤ). IsNever ahead x) (sym here) c.requires.skipped in
    let second : ℤ = to_z w64 c.loop-offset.second-bits in
    let stretch = c.stretch_from-stretch in
    let until : ℤ = stretch.result.until in
    let fits : SFits w64 until = search rules in
    let r = c.min-second-in-loop-offset.result in
    let goes = next_by gap until _ _ r (to_z w64 (of_z w64 r)) (to_z-of_z w64 until fits) (cap_is gap date) c.min-second-in-loop-offset.ensures.value (to_z-of_z w64 r (record { sfits = c.min-second-in-loop-offset.type_inv })) in
    let before = c.shows_before.ensures.before c.loop-offset-test.true in
    let far = shorter ahead gap second (stretch.ensures.near second) before in
    walk_goes_on ahead gap second until (to_z w64 (of_z w64 r)) stretch.result.offset c.loop-offset.offset skipped c.loop-offset.invariant stretch.ensures.holds before
    (goes.later second (stretch.ensures.later (is_early gap second date far)) far) goes.within goes.capped stretch.ensures.offset

pub returns : goal.returns
returns g c =
    let ahead = g.Z.TimeZone.ahead c.args.zone in
    let gap : ℤ = to_z w64 (of_z w64 c.args.gap) in
    let here : gap ≡ c.args.gap = to_z-of_z w64 c.args.gap c.ranges.gap in
    let skipped : IsNever ahead gap = subst (λ (x : ℤ). IsNever ahead x) (sym here) c.requires.skipped in
    subst (λ (x : ℤ). IsOffsetBefore ahead x c.loop-offset.offset) here
    (walk_ends ahead gap (to_z w64 c.loop-offset.second-bits) c.loop-offset.offset skipped c.loop-offset.invariant (c.shows_before.ensures.not_before c.loop-offset-test.false))
