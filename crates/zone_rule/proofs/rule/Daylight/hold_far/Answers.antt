use Rattle.std.proofs.Common.{arith, ap, subst, sym, ◌≡◌, ◌∙◌, ◌+ℤ◌, ◌-ℤ◌, ◌≤ℤ◌, ◌<ℤ◌, ◌⊎◌, inl, inr, ℤ, pos, int_le, to_z, of_z, w64, SFits}
use Rattle.std.proofs.lemmas.Int.{to_z-of_z}
use Rattle.chrono_calendar.proofs.Signed.{signed}
use Rattle.zone_rule.proofs.LastChanges.{is_later-fact}
use Rattle.zone_rule.proofs.MeanYears.{holds_far, is_short, kept, least_is, sum_fits, wait_fits, wait_is}
use Rattle.zone_rule.proofs.Turns.{not_before}
use Rattle.zone_rule.proofs.rule.Daylight.hold_far.Goals as goal
use Rattle.zone_rule.proofs.rule.Daylight.hold_far.Goals.{else-begun-ended-via-then-begun-ended+else-ended-begun, else-begun-ended-via-else-begun-ended}

pub overflow_add-wait : goal.overflow_add-wait
overflow_add-wait c =
    let fit : SFits w64 c.min.result = record { sfits = c.min.type_inv } in
    let least = least_is c.min.result c.last_window-begun.result.low c.last_window-ended.result.low fit c.last_window-begun.ensures.low c.last_window-ended.ensures.low c.min.ensures.value in
    sum_fits c.min.result fit least.0

pub overflow_sub-wait : goal.overflow_sub-wait
overflow_sub-wait c =
    let fit : SFits w64 c.min.result = record { sfits = c.min.type_inv } in
    let least = least_is c.min.result c.last_window-begun.result.low c.last_window-ended.result.low fit c.last_window-begun.ensures.low c.last_window-ended.ensures.low c.min.ensures.value in
    wait_fits c.min.result c.rem_euclid-place.result fit (record { sfits = c.rem_euclid-place.type_inv }) least.0
    (omega (arith, signed, c.rem_euclid-place.ensures.lower_bound)) (omega (arith, signed, c.rem_euclid-place.ensures.upper_bound))

pub returns-clause-holds : goal.returns-clause-holds
returns-clause-holds c = λ u from to.
    let fit : SFits w64 c.min.result = record { sfits = c.min.type_inv } in
    let here : SFits w64 c.rem_euclid-place.result = record { sfits = c.rem_euclid-place.type_inv } in
    let begun = c.last_window-begun.ensures in
    let ended = c.last_window-ended.ensures in
    let bl = c.last_window-begun.result.low in
    let bh = c.last_window-begun.result.high in
    let el = c.last_window-ended.result.low in
    let eh = c.last_window-ended.result.high in
    let at_bl = kept bl begun.low in
    let at_bh = kept bh begun.high in
    let at_el = kept el ended.low in
    let at_eh = kept eh ended.high in
    let place = c.rem_euclid-place.result in
    let at : to_z w64 (of_z w64 place) ≡ place = to_z-of_z w64 place here in
    let least = least_is c.min.result bl el fit begun.low ended.low c.min.ensures.value in
    let wait = wait_is c.min.result place fit here least.0 (omega (arith, signed, c.rem_euclid-place.ensures.lower_bound)) (omega (arith, signed, c.rem_euclid-place.ensures.upper_bound)) in
    let order : (eh ≤ℤ bl) ⊎ (bh <ℤ el) = elim c.else-begun-ended.branch [
      | else-begun-ended-via-then-begun-ended+else-ended-begun w ↦
          inr (let lt = is_later-fact (to_z w64 (of_z w64 el)) (to_z w64 (of_z w64 bh)) w.if-ended-begun.false in omega (arith, signed, lt, at_bh, at_el))
      | else-begun-ended-via-else-begun-ended w ↦
          inl (let le = not_before (to_z w64 (of_z w64 bl)) (to_z w64 (of_z w64 eh)) w.if-begun-ended.false in omega (arith, signed, le, at_bl, at_eh))
    ] in
    let past_b = not_before (to_z w64 (of_z w64 place)) (to_z w64 (of_z w64 bh)) c.if-place-begun.false in
    let past_e = not_before (to_z w64 (of_z w64 place)) (to_z w64 (of_z w64 eh)) c.if-place-ended.false in
    holds_far c.args.standard c.args.self.now c.args.second place _ c.min.result u c.last_window-begun.result c.last_window-ended.result begun.change ended.change begun.offset ended.offset
    (ap (λ (z : ℤ). z -ℤ to_z w64 (of_z w64 place)) (to_z-of_z w64 c.args.second c.ranges.second) ∙ ap (λ (z : ℤ). c.args.second -ℤ z) at)
    begun.comes ended.comes (omega (arith, signed, past_b, at, at_bh)) (omega (arith, signed, past_e, at, at_eh)) least.1 least.2 from
    (subst (λ (z : ℤ). u <ℤ (c.args.second +ℤ z)) wait to) order
    ∙ sym (ap (λ (x : ℤ). int_le x (to_z w64 (of_z w64 bl))) at_eh ∙ ap (λ (x : ℤ). int_le eh x) at_bl)

pub returns-clause-short : goal.returns-clause-short
returns-clause-short c =
    let fit : SFits w64 c.min.result = record { sfits = c.min.type_inv } in
    let least = least_is c.min.result c.last_window-begun.result.low c.last_window-ended.result.low fit c.last_window-begun.ensures.low c.last_window-ended.ensures.low c.min.ensures.value in
    let low : pos 0 ≤ℤ c.rem_euclid-place.result = omega (arith, signed, c.rem_euclid-place.ensures.lower_bound) in
    let wait = wait_is c.min.result c.rem_euclid-place.result fit (record { sfits = c.rem_euclid-place.type_inv }) least.0 low (omega (arith, signed, c.rem_euclid-place.ensures.upper_bound)) in
    is_short _ c.min.result c.rem_euclid-place.result wait least.0 low
