use Rattle.std.proofs.Common.{◌≡◌, ◌+◌, ◌∷◌, ◌&&◌, suc, not, drop, sym, ap, ◌∙◌, arith}
use Rattle.std.proofs.Math.Seq.{drop-cons}
use Rattle.std.specs.List.{list_any}
use Rattle.chrono_sets.specs.FiniteSets.{are_empty, is_empty}
use Rattle.chrono_sets.proofs.Members.{is_empty-either, neither}
use Rattle.chrono_sets.proofs.number_set.are_empty.Goals as goal

pub loop-set-preserved : goal.loop-set-preserved
loop-set-preserved c =
    let sets = c.args.sets.now in
    let i = c.loop-set.set-index in
    let set = c.set-item.result in
    let more : suc i ≡ i + 1 = omega arith in
    let next : drop i sets ≡ set ∷ drop (i + 1) sets =
    drop-cons sets i set c.loop-set-test.true ∙ ap (λ s. s ∷ drop (suc i) sets) (sym c.set-item.is) ∙ ap (λ k. set ∷ drop k sets) more in
    ap (λ b. b && are_empty (drop (i + 1) sets)) (is_empty-either c.loop-set.all set c.union-all.result c.union-all.ensures)
    ∙ neither (is_empty c.loop-set.all) (is_empty set) (list_any (λ s. not (is_empty s)) (drop (i + 1) sets))
    ∙ ap (λ rest. is_empty c.loop-set.all && are_empty rest) (sym next) ∙ c.loop-set.invariant
