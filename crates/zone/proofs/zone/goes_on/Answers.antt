use Rattle.std.proofs.Common.{◌≡◌, ◌∙◌, rules, arith, ap, sym, refl, true, false, int_lt, ℤ, pos, ◌+ℤ◌, ◌-ℤ◌, ◌≤ℤ◌, ◌<ℤ◌, SFits, to_z, of_z, w64}
use Rattle.std.proofs.lemmas.Int.{ints, to_z-of_z}
use Rattle.chrono_zoned.proofs.SecondSums.{IsNearDates, carried}
use Rattle.zone_rule.specs.Rules.{rule_offset}
use Rattle.zone.proofs.Joins.{goes_on-long, kept-more}
use Rattle.zone.proofs.zone.goes_on.Goals as goal

is_less : (left wait v : ℤ) → v ≡ wait → int_lt left v ≡ true → left <ℤ wait
is_less left wait v e h = grind (arith, ints)

not_less : (left wait v : ℤ) → v ≡ wait → int_lt left v ≡ false → wait ≤ℤ left
not_less left wait v e h = grind (arith, ints)

-- what is left of two days behind a change
is_near : (t s left wait : ℤ) → t ≤ℤ s → s +ℤ left ≡ t +ℤ pos 172_800 → s <ℤ (s +ℤ wait) → wait ≤ℤ left → IsNearDates (left -ℤ wait)
is_near t s left wait from sum later short = (omega (arith, ints, from, sum, later, short), omega (arith, ints, from, sum, later, short))

pub returns-then-left-wait : goal.returns-then-left-wait
returns-then-left-wait c =
    let row = c.args.row in
    let r = c.args.rule.now in
    let s : ℤ = to_z w64 c.loop-row.at-bits in
    let left : ℤ = to_z w64 c.loop-row.left-bits in
    let wait : ℤ = c.in-Some.wait in
    let fits_wait : SFits w64 wait = search rules in
    let kept : to_z w64 (of_z w64 wait) ≡ wait = to_z-of_z w64 wait fits_wait in
    let same : c.offset_of_instant.result ≡ row.offset = search (rules, c.loop-row-test.ensures, c.loop-row-test.true) in
    let agrees : rule_offset r s ≡ row.offset = sym c.offset_of_instant.ensures ∙ same in
    let counted : s ≤ℤ pos 9_223_372_036_854_775_807 = search rules in (
      (λ _. goes_on-long row r s left wait c.loop-row.invariant counted agrees c.in-Some.ensures.next c.in-Some.ensures.steady
          (is_less left wait (to_z w64 (of_z w64 wait)) kept c.if-left-wait.true)),
      (λ _. refl),
    )

pub loop-row-preserved : goal.loop-row-preserved
loop-row-preserved c =
    let row = c.args.row in
    let r = c.args.rule.now in
    let s : ℤ = to_z w64 c.loop-row.at-bits in
    let left : ℤ = to_z w64 c.loop-row.left-bits in
    let wait : ℤ = c.in-Some.wait in
    let next : ℤ = c.in-Some-checked_add.next in
    let fits_wait : SFits w64 wait = search rules in
    let kept : to_z w64 (of_z w64 wait) ≡ wait = to_z-of_z w64 wait fits_wait in
    let same : c.offset_of_instant.result ≡ row.offset = search (rules, c.loop-row-test.ensures, c.loop-row-test.true) in
    let agrees : rule_offset r s ≡ row.offset = sym c.offset_of_instant.ensures ∙ same in
    let short = not_less left wait (to_z w64 (of_z w64 wait)) kept c.if-left-wait.false in
    let fits_next : SFits w64 next = search rules in
    let at : to_z w64 (of_z w64 next) ≡ (s +ℤ wait) = to_z-of_z w64 next fits_next ∙ c.in-Some-checked_add.ensures.1 ∙ ap (λ (w : ℤ). s +ℤ w) kept in
    let rest : to_z w64 (of_z w64 (left -ℤ to_z w64 (of_z w64 wait))) ≡ (left -ℤ wait) = carried (left -ℤ to_z w64 (of_z w64 wait)) (left -ℤ wait) (ap (λ (w : ℤ). left -ℤ w) kept) (is_near row.second s left wait c.loop-row.invariant.from c.loop-row.invariant.sum c.in-Some.ensures.next.later short) in
    kept-more row r s left wait (to_z w64 (of_z w64 next)) (to_z w64 (of_z w64 (left -ℤ to_z w64 (of_z w64 wait)))) c.loop-row.invariant agrees c.in-Some.ensures.next c.in-Some.ensures.steady short at rest
