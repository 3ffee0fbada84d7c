-- The parts of a rule that is written, and what stands behind each name.
use Rattle.std.proofs.Common.{◌≡◌, ℕ, ◌==◌, Bool, true, false, not, if◌then◌else◌, List, [], ◌∷◌, ◌++◌, length, drop, Option, Some, refl, ap, ◌∙◌}
use Rattle.std.specs.List.{AllByRecursion, list_all}
use Rattle.std.proofs.lemmas.Bool.{and_from, and_parts}
use Rattle.chrono_text.specs.Lists.{begins_alike}
use Rattle.chrono_rules.specs.RuleTexts.{is_part, said, values}
use Rattle.chrono_rules.specs.WrittenRules.{part_unless}
use Rattle.chrono_text.proofs.ListLemmas.{lacks, all_of}

-- a part: whether the rule lacks it, its name, and what stands behind that
pub record Part : Type 0 where
  pub lacks : Bool
  pub name : List ℕ
  pub value : List ℕ

abbrev pub part_texts : List Part → List (List ℕ)
part_texts [] = []
part_texts (p ∷ ps) = part_unless p.lacks p.name p.value ++ part_texts ps

-- what stands behind a name among them
abbrev pub found : List ℕ → List Part → List (List ℕ)
found name [] = []
found name (p ∷ ps) =
    if begins_alike name (p.name ++ p.value) then (if p.lacks then found name ps else drop (length name) (p.name ++ p.value) ∷ found name ps)
    else found name ps

same_either : (b : Bool) (texts : List (List ℕ)) → texts ≡ (if b then texts else texts)
same_either true texts = refl
same_either false texts = refl

found_one : (name text : List ℕ) (lacks : Bool) (rest got : List (List ℕ)) → values name rest ≡ got
    → values name ((if lacks then [] else text ∷ []) ++ rest) ≡ (if begins_alike name text then (if lacks then got else drop (length name) text ∷ got) else got)
found_one name text true rest got is = is ∙ same_either (begins_alike name text) got
found_one name text false rest got is = ap (λ them. if begins_alike name text then drop (length name) text ∷ them else them) is

pub values_found : (name : List ℕ) (ps : List Part) → values name (part_texts ps) ≡ found name ps
values_found name [] = refl
values_found name (p ∷ ps) = found_one name (p.name ++ p.value) p.lacks (part_texts ps) (found name ps) (values_found name ps)

-- each has a name that rules have, and no semicolon
named_one : (text : List ℕ) (lacks : Bool) (rest : List (List ℕ)) → is_part text ≡ true → list_all is_part rest ≡ true → list_all is_part ((if lacks then [] else text ∷ []) ++ rest) ≡ true
named_one text true rest first others = others
named_one text false rest first others = and_from (is_part text) (list_all is_part rest) first others

pub are_parts : (ps : List Part) → list_all (λ (p : Part). is_part (p.name ++ p.value)) ps ≡ true → list_all is_part (part_texts ps) ≡ true
are_parts [] are = refl
are_parts (p ∷ ps) are =
    let parts = and_parts (is_part (p.name ++ p.value)) (list_all (λ (p : Part). is_part (p.name ++ p.value)) ps) are in
    named_one (p.name ++ p.value) p.lacks (part_texts ps) parts.0 (are_parts ps parts.1)

lacking_one : (text : List ℕ) (missing : Bool) (rest : List (List ℕ)) → lacks 59 text ≡ true → list_all (lacks 59) rest ≡ true → list_all (lacks 59) ((if missing then [] else text ∷ []) ++ rest) ≡ true
lacking_one text true rest first others = others
lacking_one text false rest first others = and_from (lacks 59 text) (list_all (lacks 59) rest) first others

pub parts_lack : (ps : List Part) → AllByRecursion (λ (p : Part). (lacks 59 p.name ≡ true) × (lacks 59 p.value ≡ true)) ps → list_all (lacks 59) (part_texts ps) ≡ true
parts_lack [] are = refl
parts_lack (p ∷ ps) ((name, value), others) =
    lacking_one (p.name ++ p.value) p.lacks (part_texts ps) (all_of (λ b. not (b == 59)) p.name p.value name value) (parts_lack ps others)

-- what a part says that is there, or not
pub said_part : {A : Type 0} (read : List ℕ → Option A) (without : Option A) (lacks : Bool) (value : List ℕ) (x : A) → (lacks ≡ true → without ≡ Some x) → (lacks ≡ false → read value ≡ Some x)
    → said read without (if lacks then [] else value ∷ []) ≡ Some x
said_part read without true value x absent there = absent refl
said_part read without false value x absent there = there refl
