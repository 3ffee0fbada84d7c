-- The set of the weekdays so far.
use Rattle.std.proofs.Common.{◌≡◌, List, Some, take}
use Rattle.chrono_units.specs.declared.weekday.Weekday.{Weekday}
use Rattle.chrono_units.specs.WeekdaySet.{set_of}
use Rattle.caltool_command.specs.Commands.{weekdays}
use Rattle.caltool_command.proofs.read.weekday_set.Given as goal

abbrev pub invariant-loop-number : goal.invariant-loop-number
invariant-loop-number l = (done : List Weekday) × (weekdays (take l.number-index l.numbers) ≡ Some done) × (l.days ≡ set_of done)
