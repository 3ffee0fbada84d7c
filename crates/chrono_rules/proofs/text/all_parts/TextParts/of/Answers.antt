use Rattle.std.proofs.Common.{List, [], ℕ, refl, sym, ap, ◌∙◌}
use Rattle.chrono_rules.specs.PartsFound.{and_values, found_of, part_index}
use Rattle.chrono_rules.specs.RuleErrors.{part_key}
use Rattle.chrono_rules.specs.RuleTexts.{parts, values}
use Rattle.chrono_rules.proofs.FoundValues.{of_each, on_part}
use Rattle.chrono_rules.proofs.text.all_parts.TextParts.of.Goals as goal

pub loop-part-init : goal.loop-part-init
unfolding part_index
loop-part-init c = of_each _ refl refl refl refl refl refl refl refl refl refl refl

pub loop-part-preserved : goal.loop-part-preserved
loop-part-preserved c = λ part.
    ap (λ f. and_values f (values (part_key part) (parts c.in-Some.behind.now))) (c.and_part-values.ensures part)
    ∙ sym (on_part (part_key part) c.in-Some.part.now (parts c.in-Some.behind.now) (found_of c.loop-part.values part))
    ∙ ap (λ (ps : List (List ℕ)). and_values (found_of c.loop-part.values part) (values (part_key part) ps)) (sym c.in-Some.ensures.pieces)
    ∙ c.loop-part.invariant part

pub invariant_of-result : goal.invariant_of-result
invariant_of-result c = λ part.
    c.and_part.ensures part
    ∙ sym (on_part (part_key part) c.loop-part.rest.now [] (found_of c.loop-part.values part))
    ∙ ap (λ (ps : List (List ℕ)). and_values (found_of c.loop-part.values part) (values (part_key part) ps)) (sym c.in_default.ensures.one_piece)
    ∙ c.loop-part.invariant part
