use Rattle.std.proofs.Common.{arith, ap, sym, subst, ◌∙◌, ◌≡◌, ℤ, pos, ◌+ℤ◌, ◌-ℤ◌, ◌≤ℤ◌, ◌<ℤ◌, to_z, of_z, w32, w64}
use Rattle.std.proofs.lemmas.Int.{by_lt_z, to_z-of_z}
use Rattle.chrono_calendar.proofs.Signed.{casts, signed}
use Rattle.zone_rule.specs.Changes.{change_second, year_of_second}
use Rattle.zone_rule.proofs.LastChanges.{is_by-fact, is_later-fact}
use Rattle.zone_rule.proofs.LastOfAll.{change-come, change-later}
use Rattle.zone_rule.proofs.NextChanges.{next_in}
use Rattle.zone_rule.proofs.rule.next_of.Goals as goal

pub loop-next-init : goal.loop-next-init
loop-next-init c =
    let f : ℤ → ℤ = change_second c.args.offset c.args.change.now in
    let at : ℤ = to_z w32 (of_z w32 (to_z w32 (of_z w32 c.args.year) -ℤ pos 1)) in
    let place : (year_of_second c.args.second -ℤ pos 2) ≡ (at -ℤ pos 1) = omega (arith, casts, c.requires.own, c.requires.cycle.0, c.requires.cycle.1) in
    let come : f (at -ℤ pos 1) ≤ℤ c.args.second = subst (λ (y : ℤ). f y ≤ℤ c.args.second) place
    (change-come c.args.offset c.args.change.now c.args.second c.second_in-next.ensures.change c.second_in-next.ensures.offset) in (
      omega (arith, casts, c.requires.cycle.0, c.requires.cycle.1),
      omega (arith, casts, c.requires.cycle.0, c.requires.cycle.1),
      sym (to_z-of_z w64 c.second_in-next.result (record { sfits = c.second_in-next.type_inv }) ∙ c.second_in-next.ensures.value),
      subst (λ (u : ℤ). f (at -ℤ pos 1) ≤ℤ u) (sym (to_z-of_z w64 c.args.second c.ranges.second)) come,
    )

pub loop-next-smaller : goal.loop-next-smaller
loop-next-smaller c = omega (arith, casts, c.requires.cycle.0, c.requires.cycle.1, c.loop-next.invariant.0, c.loop-next.invariant.1)

pub loop-next-preserved : goal.loop-next-preserved
loop-next-preserved c =
    let f : ℤ → ℤ = change_second c.args.offset c.args.change.now in
    let u : ℤ = c.args.second in
    let here : to_z w64 (of_z w64 u) ≡ u = to_z-of_z w64 u c.ranges.second in
    let at : ℤ = to_z w32 c.loop-next.at-bits in
    let next : ℤ = to_z w64 c.loop-next.next-bits in
    let by : next ≤ℤ to_z w64 (of_z w64 u) = is_by-fact next (to_z w64 (of_z w64 u)) c.loop-next-test.true in
    let front : f at ≤ℤ to_z w64 (of_z w64 u) = subst (λ (x : ℤ). x ≤ℤ to_z w64 (of_z w64 u)) (sym c.loop-next.invariant.2) by in
    let later : u <ℤ f (year_of_second u +ℤ pos 1 +ℤ pos 1) = change-later c.args.offset c.args.change.now u c.second_in-next.ensures.change c.second_in-next.ensures.offset in
    let below : at <ℤ (c.args.year +ℤ pos 2) = by_lt_z at (c.args.year +ℤ pos 2)
    (λ lt. lt)
    (λ (past : (c.args.year +ℤ pos 2) ≤ℤ at).
    let last : f (year_of_second u +ℤ pos 1 +ℤ pos 1) ≡ f at = ap f (omega (arith, casts, past, c.requires.own, c.requires.cycle.0, c.requires.cycle.1, c.loop-next.invariant.1)) in
    absurd (omega (arith, signed, later, last, front, here))) in
    let back : at ≡ to_z w32 (of_z w32 (at +ℤ pos 1)) -ℤ pos 1 = omega (arith, casts, below, c.requires.cycle.0, c.requires.cycle.1, c.loop-next.invariant.0) in (
      omega (arith, casts, below, c.requires.cycle.0, c.requires.cycle.1, c.loop-next.invariant.0),
      omega (arith, casts, below, c.requires.cycle.0, c.requires.cycle.1, c.loop-next.invariant.0),
      sym (to_z-of_z w64 c.second_in-next-in-loop-next.result (record { sfits = c.second_in-next-in-loop-next.type_inv }) ∙ c.second_in-next-in-loop-next.ensures.value),
      subst (λ (y : ℤ). f y ≤ℤ to_z w64 (of_z w64 u)) back front,
    )

pub returns-clause-next : goal.returns-clause-next
returns-clause-next c =
    let f : ℤ → ℤ = change_second c.args.offset c.args.change.now in
    let u : ℤ = c.args.second in
    let here : to_z w64 (of_z w64 u) ≡ u = to_z-of_z w64 u c.ranges.second in
    let at : ℤ = to_z w32 c.loop-next.at-bits in
    let next : ℤ = to_z w64 c.loop-next.next-bits in
    next_in c.args.offset c.args.change.now u at next c.second_in-next.ensures.change (sym c.loop-next.invariant.2)
    (subst (λ (v : ℤ). v <ℤ next) here (is_later-fact next (to_z w64 (of_z w64 u)) c.loop-next-test.false))
    (subst (λ (v : ℤ). f (at -ℤ pos 1) ≤ℤ v) here c.loop-next.invariant.3)
