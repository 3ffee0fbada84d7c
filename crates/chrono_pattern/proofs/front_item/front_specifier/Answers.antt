use Rattle.std.proofs.Common.{List, ℕ, ap, sym, ◌∙◌}
use Rattle.chrono_pattern.specs.PatternItems.{item_before, items_from}
use Rattle.chrono_pattern.specs.declared.item.State.TheVariants.{Outside}
use Rattle.chrono_pattern.proofs.FrontLemmas.{front_ends}
use Rattle.chrono_pattern.proofs.Utf8Lemmas.{cut_behind, opened, specifier_of}
use Rattle.chrono_pattern.proofs.front_item.front_specifier.Goals as goal

pub split_at-requires : goal.split_at-requires
split_at-requires c =
    let is = sym c.as_bytes.ensures.value ∙ c.in-Some.ensures.cases.0 in
    (cut_behind _ _ _ c.utf8.text (specifier_of _ _ _ _ _ is c.requires.opens c.in-Some-specifier.ensures.ascii)).0

pub returns-in-None-clause-none : goal.returns-in-None-clause-none
returns-in-None-clause-none c = ap (λ (l : List ℕ). items_from Outside l) (sym c.as_bytes.ensures.value) ∙ front_ends Outside _ c.in-None.ensures.cases

pub returns-in-None-specifier-clause-none : goal.returns-in-None-specifier-clause-none
returns-in-None-specifier-clause-none c =
    let is = sym c.as_bytes.ensures.value ∙ c.in-Some.ensures.cases.0 in
    opened _ _ _ is c.requires.opens ∙ c.in-None-specifier.ensures.none

pub returns-in-Some-specifier-clause-item : goal.returns-in-Some-specifier-clause-item
returns-in-Some-specifier-clause-item c =
    let is = sym c.as_bytes.ensures.value ∙ c.in-Some.ensures.cases.0 in
    let found = c.in-Some-specifier in
    let cut = cut_behind _ _ _ c.utf8.text (specifier_of _ _ _ _ _ is c.requires.opens found.ensures.ascii) in
    opened _ _ _ is c.requires.opens
    ∙ found.ensures.item
    ∙ ap (λ (l : List ℕ). item_before found.item (items_from Outside l)) (sym (c.split_at.ensures.back ∙ cut.1))
