use Rattle.std.proofs.Common.{arith, ap, ◌∙◌, ◌≡◌, ℤ, pos, ◌+ℤ◌, ◌*ℤ◌, to_z, of_z, w64}
use Rattle.std.proofs.lemmas.Int.{to_z-of_z}
use Rattle.std.specs.Int.{int_div_euclid, int_rem_euclid}
use Rattle.chrono_calendar.proofs.Signed.{signed}
use Rattle.zone_rule.specs.Rules.{is_daylight}
use Rattle.zone_rule.proofs.NextChanges.{is_steady, setting_away}
use Rattle.zone_rule.proofs.RuleCycles.{is_daylight-place}
use Rattle.zone_rule.proofs.rule.Daylight.hold_from.Goals as goal

pub returns-clause-holds : goal.returns-clause-holds
returns-clause-holds c =
    let place : c.rem_euclid.result ≡ int_rem_euclid c.args.second (pos 12_622_780_800) =
    c.rem_euclid.ensures.value ∙ ap (λ (l : ℤ). int_rem_euclid l (pos 12_622_780_800)) (to_z-of_z w64 c.args.second c.ranges.second) in
    c.hold_in_cycle.ensures.holds
    ∙ ap (is_daylight c.args.standard c.args.self.now) (to_z-of_z w64 c.rem_euclid.result (record { sfits = c.rem_euclid.type_inv }))
    ∙ is_daylight-place c.args.standard c.args.self.now c.args.second c.rem_euclid.result place

pub returns-clause-next : goal.returns-clause-next
returns-clause-next c =
    let d = c.args.self.now in
    let s = c.args.second in
    let place : ℤ = to_z w64 (of_z w64 c.rem_euclid.result) in
    let kept : place ≡ c.rem_euclid.result = to_z-of_z w64 c.rem_euclid.result (record { sfits = c.rem_euclid.type_inv }) in
    let is_place : place ≡ int_rem_euclid s (pos 12_622_780_800) = kept ∙ c.rem_euclid.ensures.value ∙ ap (λ (l : ℤ). int_rem_euclid l (pos 12_622_780_800)) (to_z-of_z w64 s c.ranges.second) in
    let q : ℤ = int_div_euclid s (pos 12_622_780_800) in
    let away : s ≡ place +ℤ q *ℤ pos 12_622_780_800 = omega (arith, signed, is_place) in
    setting_away c.args.standard d q s place (place +ℤ c.hold_in_cycle.result.wait) (s +ℤ c.hold_in_cycle.result.wait) away (omega (arith, signed, away)) c.hold_in_cycle.ensures.next

pub returns-clause-steady : goal.returns-clause-steady
returns-clause-steady c =
    let known = c.hold_in_cycle.ensures.known in
    is_steady c.args.standard c.args.self.now c.args.second _ known.begins known.ends known.near known.far (returns-clause-next c)
