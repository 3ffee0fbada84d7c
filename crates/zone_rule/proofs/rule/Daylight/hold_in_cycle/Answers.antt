use Rattle.std.proofs.Common.{arith, ap, subst, ◌∙◌, ◌≡◌, ℤ, pos, ◌+ℤ◌, ◌-ℤ◌, ◌≤ℤ◌, ◌<ℤ◌, to_z, of_z, w64}
use Rattle.std.specs.Prelude.{Some}
use Rattle.std.specs.Int.{int_min}
use Rattle.std.proofs.lemmas.Int.{int_min_is, ints, to_z-of_z}
use Rattle.chrono_calendar.proofs.Signed.{casts, signed}
use Rattle.zone_rule.specs.Changes.{IsNextOf, change_second}
use Rattle.zone_rule.specs.Rules.{IsNextSetting}
use Rattle.zone_rule.proofs.Carried.{fits_up_to}
use Rattle.zone_rule.proofs.NextChanges.{sooner}
use Rattle.zone_rule.proofs.rule.Daylight.hold_in_cycle.Goals as goal

pub overflow_sub-result : goal.overflow_sub-result
overflow_sub-result c =
    let place : ℤ = c.args.second in
    let kept : to_z w64 (of_z w64 place) ≡ place = to_z-of_z w64 place c.ranges.second in
    let b : ℤ = to_z w64 (of_z w64 c.next_of-begins.result) in
    let e : ℤ = to_z w64 (of_z w64 c.next_of-ends.result) in
    let is_b : b ≡ c.next_of-begins.result = to_z-of_z w64 c.next_of-begins.result (record { sfits = c.next_of-begins.type_inv }) in
    let is_e : e ≡ c.next_of-ends.result = to_z-of_z w64 c.next_of-ends.result (record { sfits = c.next_of-ends.type_inv }) in
    let later_b = c.next_of-begins.ensures.next.later in
    let later_e = c.next_of-ends.ensures.next.later in
    let bounds = int_min_is b e in
    let less : place <ℤ c.min.result = omega (arith, signed, kept, is_b, is_e, later_b, later_e, bounds, c.min.ensures.value) in
    let least : pos 0 ≤ℤ place = omega (arith, ints, c.requires.first.le) in
    let is_min : to_z w64 (of_z w64 c.min.result) ≡ c.min.result = to_z-of_z w64 c.min.result (record { sfits = c.min.type_inv }) in
    fits_up_to (to_z w64 (of_z w64 c.min.result) -ℤ to_z w64 (of_z w64 place)) c.min.result (omega (arith, signed, less, kept, is_min)) (omega (arith, signed, least, kept, is_min)) (record { sfits = c.min.type_inv })

pub returns-clause-next : goal.returns-clause-next
returns-clause-next c =
    let o = c.args.standard in
    let d = c.args.self.now in
    let s : ℤ = c.args.second in
    let kept : to_z w64 (of_z w64 s) ≡ s = to_z-of_z w64 s c.ranges.second in
    let b : ℤ = c.next_of-begins.result in
    let e : ℤ = c.next_of-ends.result in
    let begins = subst (λ (x : ℤ). IsNextOf (change_second o d.begins) x b) kept c.next_of-begins.ensures.next in
    let ends = subst (λ (x : ℤ). IsNextOf (change_second d.offset d.ends) x e) kept c.next_of-ends.ensures.next in
    let least : c.min.result ≡ int_min b e = c.min.ensures.value
    ∙ ap (λ (x : ℤ). int_min x (to_z w64 (of_z w64 e))) (to_z-of_z w64 b (record { sfits = c.next_of-begins.type_inv }))
    ∙ ap (int_min b) (to_z-of_z w64 e (record { sfits = c.next_of-ends.type_inv })) in
    let later_b = begins.later in
    let later_e = ends.later in
    let is : int_min b e ≡ (s +ℤ to_z w64 (of_z w64 (to_z w64 (of_z w64 c.min.result) -ℤ to_z w64 (of_z w64 s))))
    = omega (arith, casts, int_min_is b e, least, later_b, later_e, c.requires.first.le, c.requires.last.lt, c.next_of-begins.type_inv, c.next_of-ends.type_inv, c.min.type_inv) in
    subst (λ (x : ℤ). IsNextSetting (record { standard = o; daylight = Some d }) s x) is (sooner o d s b e begins ends)
