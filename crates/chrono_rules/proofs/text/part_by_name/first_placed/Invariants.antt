-- No part so far has the name, and the rest begins at the place.
use Rattle.std.proofs.Common.{◌≡◌, ◌+◌, length}
use Rattle.chrono_rules.specs.RuleErrors.{placed_values}
use Rattle.chrono_rules.specs.RuleTexts.{parts, values}
use Rattle.chrono_rules.proofs.text.part_by_name.first_placed.Given as goal

abbrev pub invariant-loop-value : goal.invariant-loop-value
invariant-loop-value l = record {
  placed : placed_values l.name l.at (parts l.initial.rest) ≡ placed_values l.name l.place (parts l.rest);
  same : values l.name (parts l.initial.rest) ≡ values l.name (parts l.rest);
  whole : l.place + length l.rest ≡ l.at + length l.initial.rest;
}

abbrev pub decreases-loop-value : goal.decreases-loop-value
decreases-loop-value l = length l.rest
