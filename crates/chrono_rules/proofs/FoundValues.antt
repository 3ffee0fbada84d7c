-- What one pass finds of the values behind each name.
use Rattle.std.proofs.Common.{◌≡◌, ℕ, ◌≤◌, Bool, true, false, if◌then◌else◌, List, [], ◌∷◌, drop, length, Option, Some, None, IfSome, IfNone, Bor, refl, sym, ap, ◌∙◌, arith}
use Rattle.std.proofs.lemmas.Option.{none-some, same_Some}
use Rattle.chrono_rules.specs.PartsFound.{and_part, and_value, and_values, texts_found}
use Rattle.chrono_text.specs.Lists.{begins_alike}
use Rattle.chrono_rules.specs.RuleTexts.{values}
use Rattle.chrono_rules.specs.declared.text.rule_error.RulePart.{RulePart}
use Rattle.chrono_rules.specs.declared.text.rule_error.RulePart.TheVariants.{Freq, Interval, Count, Until, ByMonth, ByMonthDay, ByDay, ByYearDay, ByWeekNo, BySetPos, Wkst}

-- what holds of each part holds of all
pub of_each : (P : RulePart → Type 0) → P Freq → P Interval → P Count → P Until → P ByMonth → P ByMonthDay → P ByDay → P ByYearDay → P ByWeekNo → P BySetPos → P Wkst → (part : RulePart) → P part
of_each P a b c d e f g h i j k Freq = a
of_each P a b c d e f g h i j k Interval = b
of_each P a b c d e f g h i j k Count = c
of_each P a b c d e f g h i j k Until = d
of_each P a b c d e f g h i j k ByMonth = e
of_each P a b c d e f g h i j k ByMonthDay = f
of_each P a b c d e f g h i j k ByDay = g
of_each P a b c d e f g h i j k ByYearDay = h
of_each P a b c d e f g h i j k ByWeekNo = i
of_each P a b c d e f g h i j k BySetPos = j
of_each P a b c d e f g h i j k Wkst = k

-- one more part, and the values of those behind it
on_test : (b : Bool) (v : List ℕ) (vs : List (List ℕ)) (found : Option (Option (List ℕ))) → and_values found (if b then v ∷ vs else vs) ≡ and_values (if b then and_value found v else found) vs
on_test true v vs found = refl
on_test false v vs found = refl

pub on_part : (name p : List ℕ) (ps : List (List ℕ)) (found : Option (Option (List ℕ))) → and_values found (values name (p ∷ ps)) ≡ and_values (and_part name p found) (values name ps)
on_part name p ps found = on_test (begins_alike name p) (drop (length name) p) (values name ps) found

-- what is found in the end: one value, none, or several
several : (vs : List (List ℕ)) → and_values None vs ≡ None
several [] = refl
several (v ∷ vs) = several vs

once : (vs : List (List ℕ)) (v : List ℕ) → and_values (Some None) vs ≡ Some (Some v) → vs ≡ v ∷ []
once [] v is = absurd (none-some v (same_Some None (Some v) is))
once (u ∷ []) v is = ap (λ w. w ∷ []) (same_Some u v (same_Some (Some u) (Some v) is))
once (u ∷ w ∷ more) v is = absurd (none-some (Some v) (sym (several more) ∙ is))

absent : (vs : List (List ℕ)) → and_values (Some None) vs ≡ Some None → vs ≡ []
absent [] is = refl
absent (u ∷ []) is = absurd (none-some u (sym (same_Some (Some u) None is)))
absent (u ∷ w ∷ more) is = absurd (none-some None (sym (several more) ∙ is))

repeated : (vs : List (List ℕ)) → and_values (Some None) vs ≡ None → 2 ≤ length vs
repeated [] is = absurd (none-some None (sym is))
repeated (u ∷ []) is = absurd (none-some (Some u) (sym is))
repeated (u ∷ w ∷ more) is = omega arith

pub found_once : (found : Option (Option (Bor (List ℕ)))) (vs : List (List ℕ)) → texts_found found ≡ and_values (Some None) vs → IfSome found (λ f. IfSome f (λ v. vs ≡ v.now ∷ []))
found_once None vs is = tt
found_once (Some None) vs is = tt
found_once (Some (Some v)) vs is = once vs v.now (sym is)

pub found_absent : (found : Option (Option (Bor (List ℕ)))) (vs : List (List ℕ)) → texts_found found ≡ and_values (Some None) vs → IfSome found (λ f. IfNone f (vs ≡ []))
found_absent None vs is = tt
found_absent (Some None) vs is = absent vs (sym is)
found_absent (Some (Some v)) vs is = tt

pub found_repeated : (found : Option (Option (Bor (List ℕ)))) (vs : List (List ℕ)) → texts_found found ≡ and_values (Some None) vs → IfNone found (2 ≤ length vs)
found_repeated None vs is = repeated vs (sym is)
found_repeated (Some f) vs is = tt
