-- The instances of a rule whose start has a time of day.
use Rattle.std.specs.Prelude.{◌==◌, Bool, ◌&&◌, List, map, ℤ}
use Rattle.chrono_datetime.specs.Moment.{Moment, moment}
use Rattle.chrono_datetime.specs.Time.{TimeOfDay}
use Rattle.chrono_rules.specs.InstanceLists.{instances_from}
use Rattle.chrono_rules.specs.Instances.{is_instance}
use Rattle.chrono_rules.specs.declared.rule.Rule.{Rule}

-- two times of day are one
abbrev pub same_time : TimeOfDay → TimeOfDay → Bool
same_time a b = (a.second == b.second) && (a.fraction == b.fraction)

-- the moment is an instance from the start on: its day is one, and it has the start's time
unfoldable pub is_instance_at : Rule → Moment → Moment → Bool
is_instance_at r start m = is_instance r start.date m.date && same_time start.time m.time

-- days at a time
abbrev pub at_time : TimeOfDay → List ℤ → List Moment
at_time time days = map (λ n. moment n time) days

-- the instances from the day n on, one after another, each at the start's time
unfoldable pub instance_moments : Rule → Moment → ℤ → List Moment
instance_moments r start n = at_time start.time (instances_from r start.date n)
