-- The instances of a rule, one after another.
use Rattle.std.specs.Prelude.{List, filter, ℤ}
use Rattle.chrono_datetime.specs.DateLists.{days_from}
use Rattle.chrono_rules.specs.Instances.{is_instance}
use Rattle.chrono_rules.specs.declared.rule.Rule.{Rule}

-- of the dates from n on, day after day, those that are instances of the rule from the start on
unfoldable pub instances_from : Rule → ℤ → ℤ → List ℤ
instances_from r start n = filter (is_instance r start) (days_from n)
