use Rattle.std.proofs.Common.{◌≡◌, ◌+◌, ◌<◌, arith, ap, sym, ◌∙◌}
use Rattle.std.proofs.lemmas.Bool.Decides.{nat_tests}
use Rattle.chrono_sets.specs.FiniteSets.{has}
use Rattle.chrono_rules.proofs.rule.Rule.names_none_up_to.Goals as goal

pub returns-clause-front : goal.returns-clause-front
returns-clause-front c = λ yes k le.
    let is : 0 + k ≡ k = omega arith in
    ap (has c.args.self.now.positions) (sym is) ∙ c.gap_up.ensures.left_out k (omega (arith, le, c.if-gap_up-most.false))

pub returns-clause-back : goal.returns-clause-back
returns-clause-back c = λ yes k le.
    let is : 0 + k ≡ k = omega arith in
    let more : c.args.most < c.gap_up-2.result = grind (arith, nat_tests, yes) in
    ap (has c.args.self.now.positions_from_end) (sym is) ∙ c.gap_up-2.ensures.left_out k (omega (arith, le, more))
