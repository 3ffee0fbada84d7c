use Rattle.std.proofs.Common.{Some, ap, ◌∙◌, ℤ}
use Rattle.chrono_pattern.proofs.DatePartLemmas.{year_said}
use Rattle.chrono_pattern.proofs.date_parts.named_year.Goals as goal

pub returns-in-Some : goal.returns-in-Some
returns-in-Some c = λ y year named fits. c.in-Some.is ∙ ap (λ (z : ℤ). Some z) (year_said c.args.parts y _ fits c.in-Some.is)

pub returns-in-None : goal.returns-in-None
returns-in-None c = λ y year named fits. c.year_in_century.ensures y year c.in-None.is named fits
