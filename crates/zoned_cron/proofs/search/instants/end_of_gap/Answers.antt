use Rattle.std.proofs.Common.{◌≡◌, inl, inr, true, false, rules, int_le, ℤ, pos, SFits, ◌+ℤ◌, ◌-ℤ◌, ◌≤ℤ◌, ◌<ℤ◌, of_z, to_z, w64, arith, refl, subst, sym, ◌∙◌}
use Rattle.std.specs.Int.{int_min}
use Rattle.std.specs.Int.RustNames.{int_lt}
use Rattle.std.proofs.lemmas.Int.{int_min_is, ints, to_z-of_z}
use Rattle.chrono_datetime.proofs.Signed.{casts}
use Rattle.chrono_instant.specs.Instants.{IsEpochSecond}
use Rattle.chrono_zoned.proofs.SecondSums.{carried, offset_carried}
use Rattle.chrono_instant.specs.Offsets.{IsOffset}
use Rattle.chrono_zoned.specs.Zones.{HoldsUntil, IsOnly}
use Rattle.zoned_cron.specs.Fires.{IsGap}
use Rattle.zoned_cron.specs.Private.{EndsGap}
use Rattle.zoned_cron.proofs.Gaps.{IsLeastShown, are_skipped, fewer, goes_by, goes_lower, is_shown_first, renamed, starts}
use Rattle.zoned_cron.proofs.Instants.{gap_ends, gap_never_ends}
use Rattle.zoned_cron.proofs.Carried.{days_behind, plus, walk_near}
use Rattle.zoned_cron.proofs.search.instants.end_of_gap.Goals.{then-gap-local+then-local-shown, else-gap-local, else-gap-local-via-then-gap-local+else-local-shown, else-gap-local-via-else-gap-local}
use Rattle.zoned_cron.proofs.search.instants.end_of_gap.Goals as goal

-- ---- the second up to which the search has come

-- the search goes on to the end of a stretch, and no farther than five days behind the gap
record IsNext (gap until next : ℤ) : Type 0 where
  within : next ≤ℤ until
  capped : next ≤ℤ (gap +ℤ pos 432_000)
  later : (x : ℤ) → x <ℤ until → x <ℤ (gap +ℤ pos 432_000) → x <ℤ next

next_by : (gap until bound cap r next : ℤ) → bound ≡ until → cap ≡ (gap +ℤ pos 432_000) → r ≡ int_min bound cap → next ≡ r → IsNext gap until next
next_by gap until bound cap r next is_bound is_cap is_r is = let least = int_min_is bound cap in record {
  within = omega (arith, ints, is_bound, is_r, is, least);
  capped = omega (arith, ints, is_cap, is_r, is, least);
  later = λ x before within. omega (arith, ints, is_bound, is_cap, is_r, is, least, before, within);
}

cap_is : (gap : ℤ) → IsEpochSecond gap → to_z w64 (of_z w64 (gap +ℤ pos 432_000)) ≡ (gap +ℤ pos 432_000)
cap_is gap date = carried (gap +ℤ pos 432_000) (gap +ℤ pos 432_000) refl (days_behind gap 432_000 date (omega arith))

from_is : (gap : ℤ) → IsEpochSecond gap → to_z w64 (of_z w64 (gap -ℤ pos 86_400)) ≡ (gap -ℤ pos 86_400)
from_is gap date = omega (arith, casts, date.0, date.1)

least_is : (gap : ℤ) → IsEpochSecond gap → to_z w64 (of_z w64 (gap +ℤ pos 259_200)) ≡ (gap +ℤ pos 259_200)
least_is gap date = omega (arith, casts, date.0, date.1)

-- a second from the gap on is no last one
is_early : (gap second : ℤ) → IsEpochSecond gap → second <ℤ (gap +ℤ pos 345_600) → second <ℤ pos 9_223_372_036_854_775_807
is_early gap second date near = omega (arith, ints, date.1, near)

-- while the search goes on, and when it ends
still_near : (ahead : ℤ → ℤ) (gap second first shown : ℤ) → IsEpochSecond gap → IsLeastShown ahead gap second first shown → int_lt second (to_z w64 (of_z w64 (shown +ℤ pos 86_400))) ≡ true → second <ℤ (gap +ℤ pos 345_600)
still_near ahead gap second first shown date h on = let later = h.later in let most = h.most in omega (arith, casts, date.0, date.1, later, most, on)

is_far : (ahead : ℤ → ℤ) (gap second first shown : ℤ) → IsEpochSecond gap → IsLeastShown ahead gap second first shown → int_lt second (to_z w64 (of_z w64 (shown +ℤ pos 86_400))) ≡ false → (shown +ℤ pos 86_400) ≤ℤ second
is_far ahead gap second first shown date h off = let later = h.later in let most = h.most in omega (arith, casts, date.0, date.1, later, most, off)

in_order : (a b : ℤ) → int_lt a b ≡ true → a <ℤ b
in_order a b h = omega (arith, ints, h)

not_in_order : (a b : ℤ) → int_lt a b ≡ false → b ≤ℤ a
not_in_order a b h = omega (arith, ints, h)

goes_later : (gap second until next : ℤ) → IsNext gap until next → second <ℤ (gap +ℤ pos 345_600) → second <ℤ until → second <ℤ next
goes_later gap second until next goes far before = goes.later second before (omega (arith, ints, far))

starts_near : (ahead : ℤ → ℤ) (gap from until next least : ℤ) → IsEpochSecond gap → ((v : ℤ) → IsOffset (ahead v)) → IsGap ahead gap → HoldsUntil ahead from until → (from <ℤ pos 9_223_372_036_854_775_807 → from <ℤ until) → IsNext gap until next
    → from ≡ to_z w64 (of_z w64 (gap -ℤ pos 86_400)) → least ≡ to_z w64 (of_z w64 (gap +ℤ pos 259_200)) → IsLeastShown ahead gap next next least
starts_near ahead gap from until next least date offsets skipped holds later goes is_from is_least =
    let begun : from ≡ (gap -ℤ pos 86_400) = is_from ∙ from_is gap date in
    let before : from <ℤ until = later (is_early gap from date (omega (arith, ints, begun))) in
    starts ahead gap from until next next least offsets skipped begun holds (goes.later from before (omega (arith, ints, begun))) goes.within refl (is_least ∙ least_is gap date)

-- the search ends where the clock shows a date
ends_shown : (ahead : ℤ → ℤ) (own gap second first shown : ℤ) → gap ≡ own → IsEpochSecond gap → ((v : ℤ) → IsOffset (ahead v)) → IsGap ahead gap → IsLeastShown ahead gap second first shown
    → int_lt second (to_z w64 (of_z w64 (shown +ℤ pos 86_400))) ≡ false → int_le shown (pos 8_210_266_876_799) ≡ true → IsOnly (EndsGap ahead own) first
ends_shown ahead own gap second first shown here date offsets skipped h off dated =
    let far = is_far ahead gap second first shown date h off in
    let later = h.later in
    let at = is_shown_first ahead gap second first shown offsets h far in
    let gaps = are_skipped ahead gap second first shown offsets skipped h far in
    gap_ends ahead own shown (ahead first) first (omega (arith, ints, date.0, later), omega (arith, ints, dated)) (offsets first) (omega (arith, ints, at.0)) (omega (arith, ints, here, later))
    (λ j low high. gaps j (omega (arith, ints, here, low)) high) at

-- or behind all dates
ends_unshown : (ahead : ℤ → ℤ) (own gap second first shown : ℤ) → gap ≡ own → IsEpochSecond own → IsEpochSecond gap → ((v : ℤ) → IsOffset (ahead v)) → IsGap ahead gap → IsLeastShown ahead gap second first shown
    → int_lt second (to_z w64 (of_z w64 (shown +ℤ pos 86_400))) ≡ false → int_le shown (pos 8_210_266_876_799) ≡ false → (u : ℤ) → EndsGap ahead own u → ⊥
ends_unshown ahead own gap second first shown here own_date date offsets skipped h off undated =
    let far = is_far ahead gap second first shown date h off in
    let later = h.later in
    let gaps = are_skipped ahead gap second first shown offsets skipped h far in
    gap_never_ends ahead own shown own_date (λ in_dates. omega (arith, ints, undated, in_dates.1)) (omega (arith, ints, here, later)) (λ j low high. gaps j (omega (arith, ints, here, low)) high)

pub loop-second-init : goal.loop-second-init
loop-second-init g c =
    let ahead = g.Z.TimeZone.ahead c.args.zone in
    let gap : ℤ = to_z w64 (of_z w64 c.args.gap) in
    let here : gap ≡ c.args.gap = to_z-of_z w64 c.args.gap c.ranges.gap in
    let date : IsEpochSecond gap = subst (λ (x : ℤ). IsEpochSecond x) (sym here) c.requires.date in
    let skipped : IsGap ahead gap = subst (λ (x : ℤ). IsGap ahead x) (sym here) c.requires.gap in
    let stretch = c.stretch_from-before in
    let fits : SFits w64 stretch.result.until = search rules in
    let next = to_z w64 (of_z w64 c.min-second.result) in
    starts_near ahead gap (to_z w64 (of_z w64 (gap -ℤ pos 86_400))) stretch.result.until next (to_z w64 (of_z w64 (gap +ℤ pos 259_200))) date stretch.ensures.near skipped stretch.ensures.holds stretch.ensures.later
    (next_by gap stretch.result.until _ _ c.min-second.result next (to_z-of_z w64 stretch.result.until fits) (cap_is gap date) c.min-second.ensures.value (to_z-of_z w64 c.min-second.result (record { sfits = c.min-second.type_inv }))) refl refl

pub loop-second-smaller : goal.loop-second-smaller
loop-second-smaller g c =
    let ahead = g.Z.TimeZone.ahead c.args.zone in
    let gap : ℤ = to_z w64 (of_z w64 c.args.gap) in
    let here : gap ≡ c.args.gap = to_z-of_z w64 c.args.gap c.ranges.gap in
    let date : IsEpochSecond gap = subst (λ (x : ℤ). IsEpochSecond x) (sym here) c.requires.date in
    let second : ℤ = to_z w64 c.loop-second.second-bits in
    let stretch = c.stretch_from-stretch in
    let fits : SFits w64 stretch.result.until = search rules in
    let r = c.min-second-in-loop-second.result in
    let next : ℤ = to_z w64 (of_z w64 r) in
    let goes = next_by gap stretch.result.until _ _ r next (to_z-of_z w64 stretch.result.until fits) (cap_is gap date) c.min-second-in-loop-second.ensures.value (to_z-of_z w64 r (record { sfits = c.min-second-in-loop-second.type_inv })) in
    let far = still_near ahead gap second (to_z w64 c.loop-second.first-bits) (to_z w64 c.loop-second.shown-bits) date c.loop-second.invariant c.loop-second-test.true in
    fewer gap second next (goes_later gap second stretch.result.until next goes far (stretch.ensures.later (is_early gap second date far))) goes.capped

pub loop-second-preserved : goal.loop-second-preserved
loop-second-preserved g c =
    let ahead = g.Z.TimeZone.ahead c.args.zone in
    let gap : ℤ = to_z w64 (of_z w64 c.args.gap) in
    let here : gap ≡ c.args.gap = to_z-of_z w64 c.args.gap c.ranges.gap in
    let date : IsEpochSecond gap = subst (λ (x : ℤ). IsEpochSecond x) (sym here) c.requires.date in
    let skipped : IsGap ahead gap = subst (λ (x : ℤ). IsGap ahead x) (sym here) c.requires.gap in
    let second : ℤ = to_z w64 c.loop-second.second-bits in
    let first : ℤ = to_z w64 c.loop-second.first-bits in
    let shown : ℤ = to_z w64 c.loop-second.shown-bits in
    let h = c.loop-second.invariant in
    let stretch = c.stretch_from-stretch in
    let until : ℤ = stretch.result.until in
    let fits : SFits w64 until = search rules in
    let r = c.min-second-in-loop-second.result in
    let next : ℤ = to_z w64 (of_z w64 r) in
    let goes = next_by gap until _ _ r next (to_z-of_z w64 until fits) (cap_is gap date) c.min-second-in-loop-second.ensures.value (to_z-of_z w64 r (record { sfits = c.min-second-in-loop-second.type_inv })) in
    let far = still_near ahead gap second first shown date h c.loop-second-test.true in
    let lt : second <ℤ next = goes_later gap second until next goes far (stretch.ensures.later (is_early gap second date far)) in
    let o : ℤ = to_z w64 (of_z w64 c.from.result) in
    let is_o : o ≡ ahead second = offset_carried c.from.result c.local_minus_utc.result stretch.result.offset (ahead second) c.from.ensures c.local_minus_utc.ensures.value stretch.ensures.offset (stretch.ensures.near second) in
    let local : ℤ = to_z w64 (of_z w64 (second +ℤ o)) in
    let is : local ≡ (second +ℤ ahead second) = plus second o second (ahead second) refl is_o (walk_near gap second (ahead second) date h.begun far (stretch.ensures.near second)) in
    elim c.if-gap-local.branch [
      | then-gap-local+then-local-shown w ↦
          renamed ahead gap next second local (to_z w64 c.if-gap-local.first-bits) (to_z w64 c.if-gap-local.shown-bits) w.first-is w.shown-is
          (goes_lower ahead gap second first shown until next local h stretch.ensures.holds goes.within lt is (in_order gap local w.if-gap-local.true) (in_order local shown w.if-local-shown.true))
      | else-gap-local w ↦
          renamed ahead gap next first shown (to_z w64 c.if-gap-local.first-bits) (to_z w64 c.if-gap-local.shown-bits) w.first-is w.shown-is
          (goes_by ahead gap second first shown until next local skipped h stretch.ensures.holds goes.within lt is (elim w.else-gap-local.branch [
            | else-gap-local-via-then-gap-local+else-local-shown w' ↦ inr (not_in_order local shown w'.if-local-shown.false)
            | else-gap-local-via-else-gap-local w' ↦ inl (not_in_order gap local w'.if-gap-local.false)
          ]))
    ]

pub returns-then-shown-le-LAST_SECOND : goal.returns-then-shown-le-LAST_SECOND
returns-then-shown-le-LAST_SECOND g c =
    let ahead = g.Z.TimeZone.ahead c.args.zone in
    let gap : ℤ = to_z w64 (of_z w64 c.args.gap) in
    let here : gap ≡ c.args.gap = to_z-of_z w64 c.args.gap c.ranges.gap in
    let date : IsEpochSecond gap = subst (λ (x : ℤ). IsEpochSecond x) (sym here) c.requires.date in
    let skipped : IsGap ahead gap = subst (λ (x : ℤ). IsGap ahead x) (sym here) c.requires.gap in
    let second : ℤ = to_z w64 c.loop-second.second-bits in
    let first : ℤ = to_z w64 c.loop-second.first-bits in
    let shown : ℤ = to_z w64 c.loop-second.shown-bits in
    ends_shown ahead c.args.gap gap second first shown here date c.stretch_from-before.ensures.near skipped c.loop-second.invariant c.loop-second-test.false c.if-shown-le-LAST_SECOND.true

pub returns-else-shown-le-LAST_SECOND : goal.returns-else-shown-le-LAST_SECOND
returns-else-shown-le-LAST_SECOND g c =
    let ahead = g.Z.TimeZone.ahead c.args.zone in
    let gap : ℤ = to_z w64 (of_z w64 c.args.gap) in
    let here : gap ≡ c.args.gap = to_z-of_z w64 c.args.gap c.ranges.gap in
    let date : IsEpochSecond gap = subst (λ (x : ℤ). IsEpochSecond x) (sym here) c.requires.date in
    let skipped : IsGap ahead gap = subst (λ (x : ℤ). IsGap ahead x) (sym here) c.requires.gap in
    let second : ℤ = to_z w64 c.loop-second.second-bits in
    let first : ℤ = to_z w64 c.loop-second.first-bits in
    let shown : ℤ = to_z w64 c.loop-second.shown-bits in
    ends_unshown ahead c.args.gap gap second first shown here c.requires.date date c.stretch_from-before.ensures.near skipped c.loop-second.invariant c.loop-second-test.false c.if-shown-le-LAST_SECOND.false
