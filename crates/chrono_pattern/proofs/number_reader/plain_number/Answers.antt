use Rattle.std.proofs.Common.{sym, ◌∙◌}
use Rattle.std.proofs.lemmas.Option.{IfSome_then}
use Rattle.chrono_pattern.proofs.BackNumbers.{plain_four, plain_two}
use Rattle.chrono_pattern.proofs.number_reader.plain_number.Goals as goal

pub returns-then-most-eq4-clause-value : goal.returns-then-most-eq4-clause-value
returns-then-most-eq4-clause-value c =
    let field = c.args.field in
    let signed = sym c.has_sign.ensures ∙ c.if-has_sign.true in
    let four = sym c.most_digits-most.ensures.value ∙ c.if-most-eq4.true in
    IfSome_then c.front_four.result c.front_four.ensures (λ n h. λ p. plain_four field n c.args.text.now p signed four h.0 h.1)

pub returns-then-most-eq2-clause-value : goal.returns-then-most-eq2-clause-value
returns-then-most-eq2-clause-value c =
    let field = c.args.field in
    let unsigned = sym c.has_sign.ensures ∙ c.if-has_sign.false in
    let two = sym c.most_digits-most.ensures.value ∙ c.if-most-eq2.true in
    IfSome_then c.front_two.result c.front_two.ensures (λ n h. λ p. plain_two field n c.args.text.now p unsigned two h.0 h.1)
