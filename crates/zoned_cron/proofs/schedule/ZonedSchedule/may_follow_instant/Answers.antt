use Rattle.std.proofs.Common.{◌≡◌, true, rules, SFits, int_le, ℤ, pos, ◌+ℤ◌, ◌-ℤ◌, ◌≤ℤ◌, ◌<ℤ◌, of_z, to_z, w64, arith, ap, subst, ◌∙◌}
use Rattle.std.proofs.lemmas.Int.{ints, to_z-of_z}
use Rattle.chrono_instant.specs.Instants.{epoch_second}
use Rattle.chrono_instant.specs.Offsets.{IsOffset}
use Rattle.chrono_zoned.specs.Zones.{HoldsUntil}
use Rattle.chrono_zoned.proofs.SecondSums.{carried}
use Rattle.zoned_cron.specs.declared.policy.Policy.{Policy}
use Rattle.zoned_cron.specs.Fires.{Takes}
use Rattle.zoned_cron.proofs.Carried.{two_days_before}
use Rattle.zoned_cron.proofs.Stretches.{none_follows}
use Rattle.zoned_cron.proofs.Windows.{too_early}
use Rattle.zoned_cron.proofs.schedule.ZonedSchedule.may_follow_instant.Goals as goal

in_stretch : (p : Policy) (ahead : ℤ → ℤ) (best from until bound end stop second shown l m u : ℤ) → from ≡ best → HoldsUntil ahead from until → bound ≡ until → stop ≡ end → int_le stop bound ≡ true → second ≡ shown → shown ≡ (from +ℤ ahead from) → l ≤ℤ second → m ≤ℤ l → Takes p ahead m u → u <ℤ end → u ≤ℤ best
in_stretch p ahead best from until bound end stop second shown l m u here holds is_bound is_stop long same is behind high takes before =
    subst (λ (x : ℤ). u ≤ℤ x) here
    (none_follows p ahead from until end m u holds (omega (arith, ints, is_bound, is_stop, long)) (omega (arith, ints, same, is, behind, high)) takes before)

far : (p : Policy) (ahead : ℤ → ℤ) (best v shown second l m u : ℤ) → v ≡ (best -ℤ pos 172_800) → shown ≡ (v +ℤ ahead v) → IsOffset (ahead v) → second ≡ shown → l ≤ℤ second → m ≤ℤ l → IsOffset (ahead u) → Takes p ahead m u → u ≤ℤ best
far p ahead best v shown second l m u is_v is_shown offset_v is behind high offset_u takes =
    too_early p ahead m best v shown u is_v is_shown offset_v (omega (arith, ints, is, behind, high)) offset_u takes

pub returns-then-end-stretch : goal.returns-then-end-stretch
returns-then-end-stretch g c = λ not m u f high before.
    let ahead = g.Z.TimeZone.ahead c.args.self.now.zone in
    let from : ℤ = to_z w64 (of_z w64 c.args.best) in
    let stretch = c.stretch_from-stretch in
    let until : ℤ = stretch.result.until in
    let fits : SFits w64 until = search rules in
    let end : to_z w64 (of_z w64 until) ≡ until = to_z-of_z w64 until fits in
    let shown : c.shown_by.result ≡ (from +ℤ ahead from) = subst (λ (x : ℤ). c.shown_by.result ≡ (from +ℤ x)) stretch.ensures.offset c.shown_by.ensures in
    in_stretch c.args.self.now.policy ahead c.args.best from until (to_z w64 (of_z w64 until)) c.args.end (to_z w64 (of_z w64 c.args.end)) (to_z w64 (of_z w64 c.shown_by.result)) c.shown_by.result (epoch_second c.args.local) (epoch_second m) u
    (to_z-of_z w64 c.args.best c.ranges.best) stretch.ensures.holds end (to_z-of_z w64 c.args.end c.ranges.end) c.if-end-stretch.true (to_z-of_z w64 c.shown_by.result (record { sfits = c.shown_by.type_inv })) shown (c.is_behind.ensures not) high f.takes before

pub returns-in-Some : goal.returns-in-Some
returns-in-Some g c = λ not m u f high before.
    let ahead = g.Z.TimeZone.ahead c.args.self.now.zone in
    let best = c.args.best in
    let from : ℤ = to_z w64 (of_z w64 best) in
    let v : ℤ = to_z w64 (of_z w64 (from -ℤ pos 172_800)) in
    let is_v : v ≡ (best -ℤ pos 172_800) = carried (from -ℤ pos 172_800) (best -ℤ pos 172_800) (ap (λ (x : ℤ). x -ℤ pos 172_800) (to_z-of_z w64 best c.ranges.best)) (two_days_before best c.requires) in
    let shown = c.in-Some.shown in
    let at : to_z w64 (of_z w64 c.timestamp.result) ≡ epoch_second shown = to_z-of_z w64 c.timestamp.result (record { sfits = c.timestamp.type_inv }) ∙ c.timestamp.ensures.value in
    far c.args.self.now.policy ahead best v (epoch_second shown) (to_z w64 (of_z w64 c.timestamp.result)) (epoch_second c.args.local) (epoch_second m) u is_v c.in-Some.ensures.shown.second c.in-Some.ensures.near at
    (c.is_behind-in-Some.ensures not) high f.instant.near f.takes
