-- A text that is written has neither `RRULE:` in front nor a semicolon at its end.
use Rattle.std.proofs.Common.{◌≡◌, ℕ, suc, ◌-◌, ◌==◌, nat_lt, Bool, true, false, cond, if◌then◌else◌, List, [], ◌∷◌, ◌++◌, length, slice_index, take, drop, codes, refl, ap, ◌∙◌, arith}
use Rattle.std.specs.List.{join_with_byte, list_all, onto_first}
use Rattle.std.proofs.lemmas.Bool.{and_parts, and_right, false≢true}
use Rattle.std.specs.Cmp.Derive.{both_true}
use Rattle.chrono_rules.specs.RuleErrors.{frequency_text}
use Rattle.chrono_rules.specs.RuleTexts.{IsRuleText, behind_property, ends_with_semicolon, is_part, parts, rule_body, without_semicolon}
use Rattle.chrono_text.specs.Lists.{begins_alike, is_some_text, pieces}
use Rattle.chrono_rules.specs.WrittenRules.{later_parts, rule_text}
use Rattle.chrono_rules.specs.declared.rule.Frequency.{Frequency}
use Rattle.chrono_rules.specs.declared.rule.Frequency.TheVariants.{Daily, Monthly, Weekly, Yearly}
use Rattle.chrono_rules.specs.declared.rule.Rule.{Rule}

-- ---- in front

no_property : (f : Frequency) (later : List (List ℕ)) → begins_alike (codes "RRULE:") (join_with_byte 59 ((codes "FREQ=" ++ frequency_text f) ∷ later)) ≡ false
unfolding frequency_text
no_property Daily [] = refl
no_property Daily (p ∷ ps) = refl
no_property Weekly [] = refl
no_property Weekly (p ∷ ps) = refl
no_property Monthly [] = refl
no_property Monthly (p ∷ ps) = refl
no_property Yearly [] = refl
no_property Yearly (p ∷ ps) = refl

written_front : (r : Rule) → begins_alike (codes "RRULE:") (rule_text r) ≡ false
unfolding rule_text
written_front r = no_property r.frequency (later_parts r)

-- ---- at the end

-- of the pieces behind the first none is empty
abbrev are_some_behind : List (List ℕ) → Bool
are_some_behind [] = true
are_some_behind (p ∷ ps) = list_all is_some_text ps

part_some : (p : List ℕ) → is_part p ≡ true → is_some_text p ≡ true
part_some [] is = absurd (false≢true is)
part_some (b ∷ bs) is = refl

all_some : (ps : List (List ℕ)) → list_all is_part ps ≡ true → list_all is_some_text ps ≡ true
all_some [] is = refl
all_some (p ∷ ps) is =
    both_true (part_some p (and_parts (is_part p) (list_all is_part ps) is).0) (all_some ps (and_parts (is_part p) (list_all is_part ps) is).1)

some_behind : (ps : List (List ℕ)) → list_all is_some_text ps ≡ true → are_some_behind ps ≡ true
some_behind [] is = refl
some_behind (p ∷ ps) is = (and_parts (is_some_text p) (list_all is_some_text ps) is).1

-- a byte in front of pieces, or an empty piece where the byte is the separator
abbrev begun : Bool → ℕ → List (List ℕ) → List (List ℕ)
begun t b ps = cond t ([] ∷ ps) (onto_first b ps)

behind_begun : (t : Bool) (b : ℕ) (ps : List (List ℕ)) → are_some_behind (begun t b ps) ≡ true → are_some_behind ps ≡ true
behind_begun true b [] is = refl
behind_begun true b (p ∷ ps) is = (and_parts (is_some_text p) (list_all is_some_text ps) is).1
behind_begun false b [] is = refl
behind_begun false b (p ∷ ps) is = is

one_byte : (t : Bool) (b : ℕ) → (b == 59) ≡ t → are_some_behind (begun t b ([] ∷ [])) ≡ true → (b == 59) ≡ false
one_byte true b same is = absurd (false≢true is)
one_byte false b same is = same

last_byte : (b : ℕ) (text : List ℕ) → are_some_behind (pieces 59 (b ∷ text)) ≡ true → (slice_index (b ∷ text) (length (b ∷ text) - 1) == 59) ≡ false
last_byte b [] is = one_byte (b == 59) b refl is
last_byte b (c ∷ cs) is =
    let one : length (b ∷ c ∷ cs) - 1 ≡ suc (length (c ∷ cs) - 1) = omega arith in
    ap (λ k. slice_index (b ∷ c ∷ cs) k == 59) one ∙ last_byte c cs (behind_begun (b == 59) b (pieces 59 (c ∷ cs)) is)

unended : (text : List ℕ) → list_all is_part (parts text) ≡ true → ends_with_semicolon text ≡ false
unended [] named = refl
unended (b ∷ bs) named = and_right (nat_lt 0 (length (b ∷ bs))) _ (last_byte b bs (some_behind (pieces 59 (b ∷ bs)) (all_some (pieces 59 (b ∷ bs)) named)))

pub bare_text : (r : Rule) → IsRuleText (rule_text r) r → rule_body (rule_text r) ≡ rule_text r
unfolding rule_body
bare_text r is =
    let text = rule_text r in
    let front : behind_property text ≡ text = ap (λ b. drop (if b then 6 else 0) text) (written_front r) in
    let end : without_semicolon text ≡ text = ap (λ b. if b then take (length text - 1) text else text) (unended text is.named) in
    ap without_semicolon front ∙ end
