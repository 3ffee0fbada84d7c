use Rattle.std.proofs.Common.{ap, sym, ◌∙◌, ◌≡◌, ℤ, pos, w64, Option}
use Rattle.std.proofs.lemmas.Int.{to_z-of_z}
use Rattle.std.specs.Int.{int_rem_euclid}
use Rattle.zone_rule.specs.Rules.{is_daylight, is_daylight_by}
use Rattle.zone_rule.specs.declared.rule.Daylight.{Daylight}
use Rattle.zone_rule.proofs.RuleCycles.{is_daylight-place}
use Rattle.zone_rule.proofs.rule.ZoneRule.is_daylight_at.Goals as goal

pub returns : goal.returns
returns c =
    let s = c.args.self.now.standard in
    let d = c.in-Some.daylight in
    let place : c.rem_euclid.result ≡ int_rem_euclid c.args.second (pos 12_622_780_800) =
    c.rem_euclid.ensures.value ∙ ap (λ (l : ℤ). int_rem_euclid l (pos 12_622_780_800)) (to_z-of_z w64 c.args.second c.ranges.second) in
    c.holds_at.ensures
    ∙ ap (is_daylight s d) (to_z-of_z w64 c.rem_euclid.result (record { sfits = c.rem_euclid.type_inv }))
    ∙ is_daylight-place s d c.args.second c.rem_euclid.result place
    ∙ sym (ap (λ (o : Option Daylight). is_daylight_by s o c.args.second) c.in-Some.is)
