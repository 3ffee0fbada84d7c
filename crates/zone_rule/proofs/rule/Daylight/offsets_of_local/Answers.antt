use Rattle.std.proofs.Common.{arith, ap, sym, ◌∙◌, ◌≡◌, ℤ, pos, w64}
use Rattle.std.proofs.lemmas.Int.{to_z-of_z}
use Rattle.std.specs.Int.{int_rem_euclid}
use Rattle.chrono_calendar.proofs.Signed.{casts}
use Rattle.zone_rule.specs.Rules.{is_daylight}
use Rattle.zone_rule.proofs.RuleCycles.{is_daylight-before}
use Rattle.zone_rule.proofs.rule.Daylight.offsets_of_local.Goals as goal

pub returns : goal.returns
returns c =
    let s = c.args.standard in
    let d = c.args.self in
    let place : c.rem_euclid-place.result ≡ int_rem_euclid c.args.local (pos 12_622_780_800) =
    c.rem_euclid-place.ensures.value ∙ ap (λ (l : ℤ). int_rem_euclid l (pos 12_622_780_800)) (to_z-of_z w64 c.args.local c.ranges.local) in
    let by_standard = sym (c.holds_at_both-by_standard.ensures.one
    ∙ ap (is_daylight s d) (omega (arith, casts, c.rem_euclid-place.ensures.lower_bound, c.rem_euclid-place.ensures.upper_bound, c.local_minus_utc.ensures.value, c.local_minus_utc.ensures.in_range, c.from.ensures))
    ∙ is_daylight-before s d c.args.local s c.rem_euclid-place.result place) in
    let by_daylight = sym (c.holds_at_both-by_standard.ensures.other
    ∙ ap (is_daylight s d) (omega (arith, casts, c.rem_euclid-place.ensures.lower_bound, c.rem_euclid-place.ensures.upper_bound, c.local_minus_utc-2.ensures.value, c.local_minus_utc-2.ensures.in_range, c.from-2.ensures))
    ∙ is_daylight-before s d c.args.local d.offset c.rem_euclid-place.result place) in
    c.offsets_shown.ensures (is_daylight s d) c.args.local by_standard by_daylight
