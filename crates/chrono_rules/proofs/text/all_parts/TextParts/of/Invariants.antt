-- What was found so far, with the values of the rest, is what the text has.
use Rattle.std.proofs.Common.{◌≡◌, Some, None, length}
use Rattle.chrono_rules.specs.PartsFound.{and_values, found_of}
use Rattle.chrono_rules.specs.RuleErrors.{part_key}
use Rattle.chrono_rules.specs.RuleTexts.{parts, values, values_in}
use Rattle.chrono_rules.specs.declared.text.rule_error.RulePart.{RulePart}
use Rattle.chrono_rules.proofs.text.all_parts.TextParts.of.Given as goal

abbrev pub invariant-loop-part : goal.invariant-loop-part
invariant-loop-part l =
    (part : RulePart) → and_values (found_of l.values part) (values (part_key part) (parts l.rest)) ≡ and_values (Some None) (values_in l.text (part_key part))

abbrev pub decreases-loop-part : goal.decreases-loop-part
decreases-loop-part l = length l.rest
