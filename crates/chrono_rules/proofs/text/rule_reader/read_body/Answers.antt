use Rattle.std.proofs.Common.{List, ℕ, subst, sym, ap, ◌∙◌}
use Rattle.std.specs.Prelude.{Err}
use Rattle.std.proofs.lemmas.Option.{same_Some}
use Rattle.chrono_rules.specs.RuleErrors.{unfit_error}
use Rattle.chrono_rules.specs.RuleTexts.{Says}
use Rattle.chrono_rules.proofs.text.rule_reader.read_body.Goals as goal

pub returns-then-not-fits-clause-unfit : goal.returns-then-not-fits-clause-unfit
returns-then-not-fits-clause-unfit c = λ r named says unfit.
    ap Err (c.unfit_error.ensures.error ∙ ap (unfit_error c.args.text.now) (same_Some _ _ (sym c.in-Some.is ∙ c.read_parts.ensures.every r (subst (λ (text : List ℕ). Says text r) (sym c.of-parts.ensures) says))))
