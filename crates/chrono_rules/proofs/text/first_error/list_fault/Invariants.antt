-- Each item so far can be read, and the rest begins at the place.
use Rattle.std.proofs.Common.{◌≡◌, ◌+◌, length}
use Rattle.chrono_text.specs.Lists.{pieces}
use Rattle.chrono_rules.specs.RuleErrors.{list_fault}
use Rattle.chrono_rules.proofs.text.first_error.list_fault.Given as goal

abbrev pub invariant-loop-behind : goal.invariant-loop-behind
invariant-loop-behind l = record {
  same : list_fault l.part 0 (pieces 44 l.initial.rest) ≡ list_fault l.part l.place (pieces 44 l.rest);
  whole : l.place + length l.rest ≡ length l.initial.rest;
}

abbrev pub decreases-loop-behind : goal.decreases-loop-behind
decreases-loop-behind l = length l.rest
