use Rattle.std.proofs.Common.{arith, subst, ◌≡◌, ℤ, ◌+ℤ◌, ◌≤ℤ◌, ◌<ℤ◌, not, of_z, to_z, w64}
use Rattle.std.specs.Option.{IfSome}
use Rattle.std.proofs.lemmas.Int.{to_z-of_z}
use Rattle.chrono_calendar.proofs.Signed.{signed}
use Rattle.zone_rule.specs.Changes.{change_second}
use Rattle.zone_rule.specs.Rules.{is_daylight}
use Rattle.zone_rule.proofs.Carried.{fits}
use Rattle.zone_rule.proofs.MeanYears.{kept, of_two, of_two_ended}
use Rattle.zone_rule.proofs.Turns.{not_before}
use Rattle.zone_rule.proofs.rule.Daylight.hold_near.Goals as goal

pub turn_near-requires-clause-place : goal.turn_near-requires-clause-place
turn_near-requires-clause-place c =
    let at = to_z-of_z w64 c.rem_euclid-place.result (record { sfits = c.rem_euclid-place.type_inv }) in
    (omega (arith, signed, at, c.rem_euclid-place.ensures.lower_bound), omega (arith, signed, at, c.rem_euclid-place.ensures.upper_bound))

pub turn_near-requires-2-clause-place : goal.turn_near-requires-2-clause-place
turn_near-requires-2-clause-place c =
    let at = to_z-of_z w64 c.rem_euclid-place.result (record { sfits = c.rem_euclid-place.type_inv }) in
    (omega (arith, signed, at, c.rem_euclid-place.ensures.lower_bound), omega (arith, signed, at, c.rem_euclid-place.ensures.upper_bound))

pub turn_near-requires-clause-come : goal.turn_near-requires-clause-come
turn_near-requires-clause-come c =
    let place = to_z w64 (of_z w64 c.rem_euclid-place.result) in
    let high_b = kept c.last_window-begun.result.high c.last_window-begun.ensures.high in
    let high_e = kept c.last_window-ended.result.high c.last_window-ended.ensures.high in
    let begun = not_before place (to_z w64 (of_z w64 c.last_window-begun.result.high)) c.if-place-begun.false in
    let ended = not_before place (to_z w64 (of_z w64 c.last_window-ended.result.high)) c.if-place-ended.false in
    (omega (arith, signed, begun, high_b), omega (arith, signed, ended, high_e))

pub turn_near-requires-2-clause-come : goal.turn_near-requires-2-clause-come
turn_near-requires-2-clause-come c =
    let place = to_z w64 (of_z w64 c.rem_euclid-place.result) in
    let high_b = kept c.last_window-begun.result.high c.last_window-begun.ensures.high in
    let high_e = kept c.last_window-ended.result.high c.last_window-ended.ensures.high in
    let begun = not_before place (to_z w64 (of_z w64 c.last_window-begun.result.high)) c.if-place-begun.false in
    let ended = not_before place (to_z w64 (of_z w64 c.last_window-ended.result.high)) c.if-place-ended.false in
    (omega (arith, signed, ended, high_e), omega (arith, signed, begun, high_b))

pub returns-then-begun-ended-clause-holds : goal.returns-then-begun-ended-clause-holds
returns-then-begun-ended-clause-holds c =
    let o = c.args.standard in
    let d = c.args.self.now in
    let begun = c.last_window-begun.ensures in
    let ended = c.last_window-ended.ensures in
    let turn = c.in_ok-turn.turn in
    let next : to_z w64 (of_z w64 turn.next) ≡ turn.next = to_z-of_z w64 turn.next (fits turn.next (omega (arith, c.in_ok-turn.ensures.in_range))) in
    let told : (u : ℤ) → to_z w64 (of_z w64 c.args.second) ≤ℤ u → u <ℤ to_z w64 (of_z w64 turn.next) → is_daylight o d u ≡ turn.is_first = λ u from by.
    of_two o d u turn.is_first begun.change ended.change begun.offset ended.offset
    (c.in_ok-turn.ensures.turn (change_second d.offset d.ends) begun.comes ended.comes u from (subst (λ (z : ℤ). u <ℤ z) next by)) in
    subst (λ (z : ℤ). IfSome c.hold_until.result (λ h. (u : ℤ) → z ≤ℤ u → u <ℤ (z +ℤ h.wait) → is_daylight o d u ≡ h.is_daylight)) (to_z-of_z w64 c.args.second c.ranges.second)
    (c.hold_until.ensures.holds (is_daylight o d) told)

pub returns-clause-holds : goal.returns-clause-holds
returns-clause-holds c =
    let o = c.args.standard in
    let d = c.args.self.now in
    let begun = c.last_window-begun.ensures in
    let ended = c.last_window-ended.ensures in
    let turn = c.in_ok-turn-2.turn in
    let next : to_z w64 (of_z w64 turn.next) ≡ turn.next = to_z-of_z w64 turn.next (fits turn.next (omega (arith, c.in_ok-turn-2.ensures.in_range))) in
    let told : (u : ℤ) → to_z w64 (of_z w64 c.args.second) ≤ℤ u → u <ℤ to_z w64 (of_z w64 turn.next) → is_daylight o d u ≡ not turn.is_first = λ u from by.
    of_two_ended o d u turn.is_first begun.change ended.change begun.offset ended.offset
    (c.in_ok-turn-2.ensures.turn (change_second o d.begins) ended.comes begun.comes u from (subst (λ (z : ℤ). u <ℤ z) next by)) in
    subst (λ (z : ℤ). IfSome c.hold_until-2.result (λ h. (u : ℤ) → z ≤ℤ u → u <ℤ (z +ℤ h.wait) → is_daylight o d u ≡ h.is_daylight)) (to_z-of_z w64 c.args.second c.ranges.second)
    (c.hold_until-2.ensures.holds (is_daylight o d) told)
