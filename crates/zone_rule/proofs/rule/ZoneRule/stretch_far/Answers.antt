use Rattle.std.proofs.Common.{◌≡◌, ℤ, pos, ◌+ℤ◌, ◌≤ℤ◌, ◌<ℤ◌, arith, subst, to_z, of_z, w64}
use Rattle.std.proofs.lemmas.Int.{to_z-of_z}
use Rattle.chrono_calendar.proofs.Signed.{casts, signed}
use Rattle.chrono_zoned.specs.Offsets.{IsOffset}
use Rattle.zone_rule.specs.Rules.{is_daylight}
use Rattle.zone_rule.proofs.LastChanges.{is_later-fact}
use Rattle.zone_rule.proofs.NextChanges.{all_near, far_holds}
use Rattle.zone_rule.proofs.Turns.{not_before}
use Rattle.zone_rule.proofs.rule.ZoneRule.stretch_far.Goals as goal

pub returns-clause-holds : goal.returns-clause-holds
returns-clause-holds c =
    let r = c.args.self.now in
    let d = c.in_ok-daylight.daylight in
    let second = c.args.second in
    let hold = c.in_ok-hold.hold in
    let wait : ℤ = hold.wait in
    let here : to_z w64 (of_z w64 second) ≡ second = to_z-of_z w64 second c.ranges.second in
    let first = not_before (to_z w64 (of_z w64 second)) (pos 0) c.if-second-lt0.false in
    let last = is_later-fact (pos 12_622_780_800) (to_z w64 (of_z w64 second)) c.if-second-ge-SECS_PER_CYCLE.false in
    let later = c.in_ok-hold.ensures.later in
    let short = c.in_ok-hold.ensures.short in
    let far : (u : ℤ) → second ≤ℤ u → u <ℤ (second +ℤ wait) → is_daylight r.standard d u ≡ hold.is_daylight =
    subst (λ (x : ℤ). (u : ℤ) → x ≤ℤ u → u <ℤ (x +ℤ wait) → is_daylight r.standard d u ≡ hold.is_daylight) here c.in_ok-hold.ensures.holds in
    far_holds r d second (second +ℤ wait) _ hold.is_daylight c.in_ok-daylight.was (omega (arith, signed, later)) far (omega (arith, casts, here, first, last, later, short))

pub returns-clause-near : goal.returns-clause-near
returns-clause-near c =
    let near : IsOffset c.args.self.now.standard = subst (λ (x : ℤ). IsOffset x) c.local_minus_utc.ensures.value c.local_minus_utc.ensures.in_range in
    let far : IsOffset c.in_ok-daylight.daylight.offset = subst (λ (x : ℤ). IsOffset x) c.local_minus_utc-2.ensures.value c.local_minus_utc-2.ensures.in_range in
    all_near c.args.self.now c.in_ok-daylight.daylight c.in_ok-daylight.was near far
