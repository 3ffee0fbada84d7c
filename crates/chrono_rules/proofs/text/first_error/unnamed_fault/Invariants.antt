-- Each part so far has a name, and the rest begins at the place.
use Rattle.std.proofs.Common.{◌≡◌, ◌+◌, length}
use Rattle.chrono_rules.specs.RuleErrors.{unnamed_fault}
use Rattle.chrono_rules.specs.RuleTexts.{parts}
use Rattle.chrono_rules.proofs.text.first_error.unnamed_fault.Given as goal

abbrev pub invariant-loop-behind : goal.invariant-loop-behind
invariant-loop-behind l = record {
  same : unnamed_fault 0 (parts l.initial.rest) ≡ unnamed_fault l.place (parts l.rest);
  whole : l.place + length l.rest ≡ length l.initial.rest;
}

abbrev pub decreases-loop-behind : goal.decreases-loop-behind
decreases-loop-behind l = length l.rest
