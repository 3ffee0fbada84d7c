use Rattle.std.proofs.Common.{◌≡◌, ◌+◌, ◌∷◌, suc, drop, get_or, sym, ap, ◌∙◌, arith}
use Rattle.std.proofs.Math.Seq.{drop-cons}
use Rattle.std.proofs.Math.ListN.{drop_of_length-le}
use Rattle.chrono_sets.specs.FiniteSets.{FiniteSet, with_all}
use Rattle.chrono_sets.proofs.Members.{are_below-at}
use Rattle.chrono_sets.proofs.number_set.NumberSet.from_array.Goals as goal

pub with-set-requires : goal.with-set-requires
with-set-requires g c = are_below-at 64 c.args.list c.requires c.loop-number.number-index (omega (arith, c.loop-number-test.true, c.well_formed.0.1.0.1))

pub loop-number-preserved : goal.loop-number-preserved
loop-number-preserved g c =
    let list = c.args.list in
    let i = c.loop-number.number-index in
    let more : suc i ≡ i + 1 = omega arith in
    let next : drop i list ≡ get_or list i 0 ∷ drop (i + 1) list =
    drop-cons list i 0 (omega (arith, c.loop-number-test.true, c.well_formed.0.1.0.1)) ∙ ap (λ k. get_or list i 0 ∷ drop k list) more in
    ap (λ (set : FiniteSet). with_all set (drop (i + 1) list)) c.with-set.ensures.set ∙ ap (with_all c.loop-number.set) (sym next) ∙ c.loop-number.invariant

pub returns : goal.returns
returns g c =
    let none_left = drop_of_length-le c.args.list {i = c.loop-number.number-index} (omega (arith, c.loop-number-test.false, c.well_formed.0.1.0.1)) in
    ap (with_all c.loop-number.set) (sym none_left) ∙ c.loop-number.invariant
