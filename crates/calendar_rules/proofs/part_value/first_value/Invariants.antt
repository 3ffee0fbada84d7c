-- No part so far has the name.
use Rattle.std.proofs.Common.{◌≡◌, length}
use Rattle.chrono_rules.specs.RuleTexts.{parts, values}
use Rattle.calendar_rules.proofs.part_value.first_value.Given as goal

abbrev pub invariant-loop-value : goal.invariant-loop-value
invariant-loop-value l = values l.name (parts l.initial.rest) ≡ values l.name (parts l.rest)

abbrev pub decreases-loop-value : goal.decreases-loop-value
decreases-loop-value l = length l.rest
