use Rattle.std.proofs.Common.{List, ℕ, Some, None, slice_index_or, ap, ◌∙◌}
use Rattle.chrono_rules.specs.PartsFound.{and_values, texts_found}
use Rattle.chrono_rules.specs.RuleErrors.{part_key}
use Rattle.chrono_rules.specs.RuleTexts.{values_in}
use Rattle.chrono_rules.proofs.FoundValues.{found_absent, found_once, found_repeated}
use Rattle.chrono_rules.proofs.text.all_parts.TextParts.value_of.Goals as goal

pub returns-clause-once : goal.returns-clause-once
returns-clause-once c =
    let found = ap (λ f. texts_found f) (c.value_at.ensures ∙ ap (λ (i : ℕ). slice_index_or c.self.inside.values i None) c.index_of.ensures.index) in
    let text = ap (λ (t : List ℕ). and_values (Some None) (values_in t (part_key c.args.part))) c.self.view_is in
    found_once c.value_at.result (values_in c.args.self.now (part_key c.args.part)) (found ∙ c.self.invariant c.args.part ∙ text)

pub returns-clause-absent : goal.returns-clause-absent
returns-clause-absent c =
    let found = ap (λ f. texts_found f) (c.value_at.ensures ∙ ap (λ (i : ℕ). slice_index_or c.self.inside.values i None) c.index_of.ensures.index) in
    let text = ap (λ (t : List ℕ). and_values (Some None) (values_in t (part_key c.args.part))) c.self.view_is in
    found_absent c.value_at.result (values_in c.args.self.now (part_key c.args.part)) (found ∙ c.self.invariant c.args.part ∙ text)

pub returns-clause-repeated : goal.returns-clause-repeated
returns-clause-repeated c =
    let found = ap (λ f. texts_found f) (c.value_at.ensures ∙ ap (λ (i : ℕ). slice_index_or c.self.inside.values i None) c.index_of.ensures.index) in
    let text = ap (λ (t : List ℕ). and_values (Some None) (values_in t (part_key c.args.part))) c.self.view_is in
    found_repeated c.value_at.result (values_in c.args.self.now (part_key c.args.part)) (found ∙ c.self.invariant c.args.part ∙ text)
