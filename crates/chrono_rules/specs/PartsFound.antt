-- What one pass over the parts of a rule's text finds of each name. Private functions alone use it.
use Rattle.std.specs.Prelude.{◌≡◌, ℕ, List, [], ◌∷◌, length, drop, slice_index_or, if◌then◌else◌, Option, Some, None}
use Rattle.std.specs.Borrow.{Bor}
use Rattle.std.specs.Option.{option_map}
use Rattle.chrono_text.specs.Lists.{begins_alike}
use Rattle.chrono_rules.specs.RuleErrors.{part_key}
use Rattle.chrono_rules.specs.RuleTexts.{values_in}
use Rattle.chrono_rules.specs.declared.text.rule_error.RulePart.{RulePart}
use Rattle.chrono_rules.specs.declared.text.rule_error.RulePart.TheVariants.{Freq, Interval, Count, Until, ByMonth, ByMonthDay, ByDay, ByYearDay, ByWeekNo, BySetPos, Wkst}

-- the place of a part among the parts in their order
unfoldable pub part_index : RulePart → ℕ
part_index Freq = 0
part_index Interval = 1
part_index Count = 2
part_index Until = 3
part_index ByMonth = 4
part_index ByMonthDay = 5
part_index ByDay = 6
part_index ByYearDay = 7
part_index ByWeekNo = 8
part_index BySetPos = 9
part_index Wkst = 10

-- what was found of a name so far, and one more value: `Some None` if there is none, and `None` if there are several
abbrev pub and_value : Option (Option (List ℕ)) → List ℕ → Option (Option (List ℕ))
and_value None v = None
and_value (Some None) v = Some (Some v)
and_value (Some (Some u)) v = None

-- and more values
abbrev pub and_values : Option (Option (List ℕ)) → List (List ℕ) → Option (Option (List ℕ))
and_values found [] = found
and_values found (v ∷ vs) = and_values (and_value found v) vs

-- and one more part, if it has the name
abbrev pub and_part : List ℕ → List ℕ → Option (Option (List ℕ)) → Option (Option (List ℕ))
and_part name p found = if begins_alike name p then and_value found (drop (length name) p) else found

-- the texts that were found
abbrev pub texts_found : Option (Option (Bor (List ℕ))) → Option (Option (List ℕ))
texts_found found = option_map (option_map (λ (v : Bor (List ℕ)). v.now)) found

-- what was found of a part's name
abbrev pub found_of : List (Option (Option (Bor (List ℕ)))) → RulePart → Option (Option (List ℕ))
found_of found part = texts_found (slice_index_or found (part_index part) None)

-- of each part the text's values were found
abbrev pub AreFound : List (Option (Option (Bor (List ℕ)))) → List ℕ → Type 0
AreFound found text = (part : RulePart) → found_of found part ≡ and_values (Some None) (values_in text (part_key part))
