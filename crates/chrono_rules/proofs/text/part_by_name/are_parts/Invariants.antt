-- Each part so far has a name.
use Rattle.std.proofs.Common.{◌≡◌, length}
use Rattle.std.specs.List.{list_all}
use Rattle.chrono_rules.specs.RuleTexts.{is_part, parts}
use Rattle.chrono_rules.proofs.text.part_by_name.are_parts.Given as goal

abbrev pub invariant-loop-behind : goal.invariant-loop-behind
invariant-loop-behind l = list_all is_part (parts l.initial.rest) ≡ list_all is_part (parts l.rest)

abbrev pub decreases-loop-behind : goal.decreases-loop-behind
decreases-loop-behind l = length l.rest
