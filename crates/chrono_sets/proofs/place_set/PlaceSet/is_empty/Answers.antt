use Rattle.std.proofs.Common.{◌≡◌, ◌==◌, ◌&&◌, ◌+◌, ◌∷◌, suc, drop, get_or, sym, ap, ◌∙◌, arith}
use Rattle.std.proofs.Math.Seq.{drop-cons}
use Rattle.chrono_sets.specs.Words.{joined}
use Rattle.std.proofs.Math.ListN.{drop_of_length-le}
use Rattle.std.proofs.Math.Bool.{and-true}
use Rattle.chrono_sets.proofs.WordDigits.{none-next}
use Rattle.chrono_sets.proofs.place_set.PlaceSet.is_empty.Goals as goal

pub loop-word-preserved : goal.loop-word-preserved
loop-word-preserved c =
    let words = c.self.inside.words in
    let i = c.loop-word.word-index in
    let more : suc i ≡ i + 1 = omega arith in
    let next : drop i words ≡ get_or words i 0 ∷ drop (i + 1) words =
    drop-cons words i 0 (omega (arith, c.loop-word-test.true, c.self.told)) ∙ ap (λ k. get_or words i 0 ∷ drop k words) more in
    none-next c.loop-word.all (get_or words i 0) (joined (drop (i + 1) words))
    ∙ ap (λ rest. (c.loop-word.all == 0) && (joined rest == 0)) (sym next) ∙ c.loop-word.invariant

pub returns : goal.returns
returns c =
    let none_left = drop_of_length-le c.self.inside.words {i = c.loop-word.word-index} (omega (arith, c.loop-word-test.false, c.self.told)) in
    rw (← c.self.view_is)
    (sym (and-true (c.loop-word.all == 0)) ∙ ap (λ rest. (c.loop-word.all == 0) && (joined rest == 0)) (sym none_left) ∙ c.loop-word.invariant)
