use Rattle.std.proofs.Common.{◌≡◌, rules, inl, inr, ℤ, ◌-ℤ◌, SFits, of_z, to_z, w64, ap, refl, subst, ◌∙◌}
use Rattle.std.proofs.lemmas.Int.{to_z-of_z}
use Rattle.zoned_cron.specs.Private.{BeginsBefore, EndsBehind}
use Rattle.zoned_cron.proofs.TwoStretches.{less_of, most_of}
use Rattle.zoned_cron.proofs.search.instants.offset_in_two.Goals as goal

pub returns-then-by_next-next : goal.returns-then-by_next-next
returns-then-by_next-next c =
    let h = c.args.first.now in
    let k = c.args.next.now in
    let l = c.args.local in
    let here : to_z w64 (of_z w64 l) ≡ l = to_z-of_z w64 l c.ranges.local in
    let by_first : to_z w64 (of_z w64 c.before-by_first.result) ≡ (l -ℤ h.offset) =
    to_z-of_z w64 c.before-by_first.result (record { sfits = c.before-by_first.type_inv }) ∙ c.before-by_first.ensures.value ∙ ap (λ (x : ℤ). x -ℤ h.offset) here in
    let by_next : to_z w64 (of_z w64 c.before-by_next.result) ≡ (l -ℤ k.offset) =
    to_z-of_z w64 c.before-by_next.result (record { sfits = c.before-by_next.type_inv }) ∙ c.before-by_next.ensures.value ∙ ap (λ (x : ℤ). x -ℤ k.offset) here in
    let from_fits : SFits w64 k.from = search rules in
    let from : to_z w64 (of_z w64 k.from) ≡ k.from = to_z-of_z w64 k.from from_fits in
    let begun : BeginsBefore h l = subst (λ (x : ℤ). BeginsBefore h x) here (c.begins_before.ensures c.if-not-begins_before.false) in
    let high : EndsBehind k l = subst (λ (x : ℤ). EndsBehind k x) here (c.ends_behind.ensures c.if-not-ends_behind.false) in
    record { begun = begun; high = high; only = inl (refl, less_of _ _ (l -ℤ h.offset) k.from by_first from c.if-by_first-next.true, less_of _ _ (l -ℤ k.offset) k.from by_next from c.if-by_next-next.true) }

pub returns-then-next-by_next : goal.returns-then-next-by_next
returns-then-next-by_next c =
    let h = c.args.first.now in
    let k = c.args.next.now in
    let l = c.args.local in
    let here : to_z w64 (of_z w64 l) ≡ l = to_z-of_z w64 l c.ranges.local in
    let by_first : to_z w64 (of_z w64 c.before-by_first.result) ≡ (l -ℤ h.offset) =
    to_z-of_z w64 c.before-by_first.result (record { sfits = c.before-by_first.type_inv }) ∙ c.before-by_first.ensures.value ∙ ap (λ (x : ℤ). x -ℤ h.offset) here in
    let by_next : to_z w64 (of_z w64 c.before-by_next.result) ≡ (l -ℤ k.offset) =
    to_z-of_z w64 c.before-by_next.result (record { sfits = c.before-by_next.type_inv }) ∙ c.before-by_next.ensures.value ∙ ap (λ (x : ℤ). x -ℤ k.offset) here in
    let from_fits : SFits w64 k.from = search rules in
    let from : to_z w64 (of_z w64 k.from) ≡ k.from = to_z-of_z w64 k.from from_fits in
    let begun : BeginsBefore h l = subst (λ (x : ℤ). BeginsBefore h x) here (c.begins_before.ensures c.if-not-begins_before.false) in
    let high : EndsBehind k l = subst (λ (x : ℤ). EndsBehind k x) here (c.ends_behind.ensures c.if-not-ends_behind.false) in
    record { begun = begun; high = high; only = inr (refl, most_of _ _ k.from (l -ℤ k.offset) from by_next c.if-next-by_next.true, most_of _ _ k.from (l -ℤ h.offset) from by_first c.if-next-by_first.true) }
