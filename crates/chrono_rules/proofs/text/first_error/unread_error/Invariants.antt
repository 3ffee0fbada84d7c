-- Each part so far can be read.
use Rattle.std.proofs.Common.{◌≡◌, drop}
use Rattle.chrono_rules.specs.RuleErrors.{first_unread, parts_but_last}
use Rattle.chrono_rules.specs.declared.text.rule_error.RulePart.TheVariants.{Wkst}
use Rattle.chrono_rules.proofs.text.first_error.unread_error.Given as goal

abbrev pub invariant-loop-part : goal.invariant-loop-part
invariant-loop-part l = first_unread l.parts parts_but_last Wkst ≡ first_unread l.parts (drop l.part-index parts_but_last) Wkst
