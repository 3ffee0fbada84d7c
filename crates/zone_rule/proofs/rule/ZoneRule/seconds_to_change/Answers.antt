use Rattle.std.proofs.Common.{rules, ap, ◌≡◌, ℤ, ◌+ℤ◌, to_z, of_z, w64}
use Rattle.std.proofs.lemmas.Int.{to_z-of_z}
use Rattle.zone_rule.proofs.NextChanges.{next_setting}
use Rattle.zone_rule.proofs.rule.ZoneRule.seconds_to_change.Goals as goal

pub returns-clause-next : goal.returns-clause-next
returns-clause-next c =
    let second = c.args.second in
    let wait : ℤ = c.hold_from.result.wait in
    let kept : to_z w64 (of_z w64 wait) ≡ wait = to_z-of_z w64 wait (search rules) in
    next_setting c.args.self.now c.in_ok-daylight.daylight second (to_z w64 (of_z w64 second)) wait _ c.in_ok-daylight.was (to_z-of_z w64 second c.ranges.second) (ap (λ (x : ℤ). second +ℤ x) kept) c.hold_from.ensures.next
