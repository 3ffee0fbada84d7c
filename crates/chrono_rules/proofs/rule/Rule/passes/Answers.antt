use Rattle.std.proofs.Common.{sym, ap, ◌∙◌, ◌&&◌}
use Rattle.std.proofs.Math.Bool.{and-false, and-true}
use Rattle.chrono_rules.specs.ByParts.{filled, passes}
use Rattle.chrono_rules.proofs.rule.Rule.passes.Goals as goal

pub returns-then-is_named : goal.returns-then-is_named
unfolding passes
returns-then-is_named c =
    let is = filled c.args.self.now c.args.start c.args.date in
    c.filled.ensures ∙ sym (ap (λ b. is && b) (sym c.is_named.ensures ∙ c.if-is_named.true) ∙ and-true is)

pub returns-else-is_named : goal.returns-else-is_named
unfolding passes
returns-else-is_named c =
    let is = filled c.args.self.now c.args.start c.args.date in
    c.if-is_named.false ∙ sym (ap (λ b. is && b) (sym c.is_named.ensures ∙ c.if-is_named.false) ∙ and-false is)
