use Rattle.std.proofs.Common.{◌∙◌, ℕ, Some, ap, sym}
use Rattle.std.specs.Option.{option_map}
use Rattle.chrono_sets.specs.Steps.{is_by_steps}
use Rattle.chrono_cron.proofs.text.field.read_by_ones.Goals as goal

pub returns-in_default : goal.returns-in_default
returns-in_default c = λ k. sym (ap (option_map (λ (span : ℕ × ℕ). is_by_steps span.0 span.1 1 k)) (sym c.read_span.ensures.span ∙ c.in_default.is))

pub returns : goal.returns
returns c = λ k. ap Some (c.numbers_between.ensures k) ∙ sym (ap (option_map (λ (span : ℕ × ℕ). is_by_steps span.0 span.1 1 k)) (sym c.read_span.ensures.span ∙ c.in-Some.is))
