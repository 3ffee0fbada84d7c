use Rattle.std.proofs.Common.{ap, subst, sym, ◌∙◌, ◌≡◌, ℤ, ◌+ℤ◌, Some, of_z, to_z, w64}
use Rattle.std.proofs.lemmas.Int.{to_z-of_z}
use Rattle.zone_rule.specs.Rules.{IsNextSetting, is_daylight}
use Rattle.zone_rule.proofs.NextChanges.{holds_until}
use Rattle.zone_rule.proofs.rule.Daylight.hold_on.Goals as goal

pub returns-in-None : goal.returns-in-None
returns-in-None c = λ u from to.
    let o = c.args.standard in
    let d = c.args.self.now in
    let s = c.args.second in
    let hold = c.hold_in_cycle.ensures in
    let wait = c.hold_in_cycle.result.wait in
    let known = hold.known in
    let kept : to_z w64 (of_z w64 s) ≡ s = to_z-of_z w64 s c.ranges.second in
    let next : IsNextSetting (record { standard = o; daylight = Some d }) s (s +ℤ wait) =
    subst (λ (x : ℤ). IsNextSetting (record { standard = o; daylight = Some d }) x (x +ℤ wait)) kept hold.next in
    holds_until o d s (s +ℤ wait) known.begins known.ends known.near known.far next u from to ∙ sym (hold.holds ∙ ap (is_daylight o d) kept)
