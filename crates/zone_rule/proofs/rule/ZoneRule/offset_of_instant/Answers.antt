use Rattle.std.proofs.Common.{ap, sym, ◌∙◌, ◌≡◌, ℤ, pos, w64}
use Rattle.std.proofs.lemmas.Int.{to_z-of_z}
use Rattle.std.specs.Int.{int_rem_euclid}
use Rattle.zone_rule.specs.Rules.{is_daylight}
use Rattle.zone_rule.proofs.LastChanges.{ahead_by-daylight, ahead_by-standard}
use Rattle.zone_rule.proofs.RuleCycles.{is_daylight-place}
use Rattle.zone_rule.proofs.rule.ZoneRule.offset_of_instant.Goals as goal

pub returns-then-holds_at : goal.returns-then-holds_at
returns-then-holds_at c =
    let s = c.args.self.now.standard in
    let d = c.in-Some.daylight in
    let place : c.rem_euclid.result ≡ int_rem_euclid c.args.second (pos 12_622_780_800) =
    c.rem_euclid.ensures.value ∙ ap (λ (l : ℤ). int_rem_euclid l (pos 12_622_780_800)) (to_z-of_z w64 c.args.second c.ranges.second) in
    ahead_by-daylight s d c.args.second c.args.self.now.daylight c.in-Some.is
    (sym (is_daylight-place s d c.args.second c.rem_euclid.result place)
    ∙ sym (c.holds_at.ensures ∙ ap (is_daylight s d) (to_z-of_z w64 c.rem_euclid.result (record { sfits = c.rem_euclid.type_inv })))
    ∙ c.if-holds_at.true)

pub returns-else-holds_at : goal.returns-else-holds_at
returns-else-holds_at c =
    let s = c.args.self.now.standard in
    let d = c.in-Some.daylight in
    let place : c.rem_euclid.result ≡ int_rem_euclid c.args.second (pos 12_622_780_800) =
    c.rem_euclid.ensures.value ∙ ap (λ (l : ℤ). int_rem_euclid l (pos 12_622_780_800)) (to_z-of_z w64 c.args.second c.ranges.second) in
    ahead_by-standard s d c.args.second c.args.self.now.daylight c.in-Some.is
    (sym (is_daylight-place s d c.args.second c.rem_euclid.result place)
    ∙ sym (c.holds_at.ensures ∙ ap (is_daylight s d) (to_z-of_z w64 c.rem_euclid.result (record { sfits = c.rem_euclid.type_inv })))
    ∙ c.if-holds_at.false)
