use Rattle.std.proofs.Common.{◌≡◌, ◌+◌, ◌-◌, length, take, drop, ap, sym, ◌∙◌, arith, length-take}
use Rattle.std.proofs.lemmas.List.{drop-take, drop-drop}
use Rattle.chrono_text.proofs.line.Line.skip.Goals as goal

pub returns : goal.returns
returns c =
    let all = c.self.inside.bytes.now in
    let start = c.self.inside.start in
    let end = c.self.inside.end in
    let count = c.args.count in
    let left : count + (end - (start + count)) ≡ end - start = omega (arith, ap length c.self.view_is, length-take (end - start) (drop start all)) in
    ap (take (end - (start + count))) (sym (drop-drop count start all))
    ∙ sym (drop-take count (end - (start + count)) (drop start all))
    ∙ ap (λ n. drop count (take n (drop start all))) left ∙ ap (drop count) c.self.view_is
