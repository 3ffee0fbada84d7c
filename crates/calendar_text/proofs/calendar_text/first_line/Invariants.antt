-- No line so far is of the property.
use Rattle.std.proofs.Common.{◌≡◌, length}
use Rattle.calendar_text.specs.CalendarTexts.{first_line}
use Rattle.calendar_text.proofs.calendar_text.first_line.Given as goal

abbrev pub invariant-loop-behind : goal.invariant-loop-behind
invariant-loop-behind l = first_line l.property l.initial.rest ≡ first_line l.property l.rest

abbrev pub decreases-loop-behind : goal.decreases-loop-behind
decreases-loop-behind l = length l.rest
