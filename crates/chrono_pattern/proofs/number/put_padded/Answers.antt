use Rattle.std.proofs.Common.{ℕ, List, [], ◌++◌, ap, sym, ◌∙◌}
use Rattle.chrono_pattern.specs.Numbers.{padded}
use Rattle.chrono_pattern.specs.declared.item.Padding.{Padding}
use Rattle.chrono_pattern.specs.declared.item.Padding.TheVariants.{Zeros}
use Rattle.chrono_pattern.proofs.WriteLemmas.{four_padded, two_padded}
use Rattle.chrono_pattern.proofs.number.put_padded.Goals as goal

pub returns-then-size-lt100-clause-text : goal.returns-then-size-lt100-clause-text
returns-then-size-lt100-clause-text g c =
    let before = c.args.text.now in
    let size = c.args.size in
    let same = ap (λ (p : Padding). before ++ padded p c.args.least c.args.sign.now size) (c.is_plain.ensures.padding c.if-is_plain.true)
    ∙ ap (λ (s : List ℕ). before ++ padded Zeros c.args.least s size) (c.is_plain.ensures.sign c.if-is_plain.true)
    ∙ ap (λ (k : ℕ). before ++ padded Zeros k [] size) c.if-least-eq2.true
    ∙ ap (λ (l : List ℕ). before ++ l) (two_padded size c.if-size-lt100.true) in
    c.push_two.ensures ∙ sym same

pub returns-then-size-lt10000-clause-text : goal.returns-then-size-lt10000-clause-text
returns-then-size-lt10000-clause-text g c =
    let before = c.args.text.now in
    let size = c.args.size in
    let same = ap (λ (p : Padding). before ++ padded p c.args.least c.args.sign.now size) (c.is_plain.ensures.padding c.if-is_plain.true)
    ∙ ap (λ (s : List ℕ). before ++ padded Zeros c.args.least s size) (c.is_plain.ensures.sign c.if-is_plain.true)
    ∙ ap (λ (k : ℕ). before ++ padded Zeros k [] size) c.if-least-eq4.true
    ∙ ap (λ (l : List ℕ). before ++ l) (four_padded size c.if-size-lt10000.true) in
    c.push_four.ensures ∙ sym same
